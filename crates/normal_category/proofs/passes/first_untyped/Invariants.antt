use Rattle.normal_category.proofs.Prelude.{◌≡◌, ◌≤◌, ℕ, Some, Rule, rule_at, IsTypedIn}
use Rattle.normal_category.proofs.passes.first_untyped.Given as goal

-- the rules that were passed have the property
abbrev pub invariant-loop-place : goal.invariant-loop-place
invariant-loop-place l = (n : ℕ) (g : Rule) → rule_at l.rules n ≡ Some g → n ≤ l.place → IsTypedIn l.parts g
