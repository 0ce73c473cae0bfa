use Rattle.normal_category.proofs.Prelude.{◌≡◌, ◌≤◌, ℕ, Some, Rule, rule_at, PlaysIn}
use Rattle.normal_category.proofs.passes.first_out_of_play.Given as goal

-- the rules that were passed have the property
abbrev pub invariant-loop-place : goal.invariant-loop-place
invariant-loop-place l = (n : ℕ) (g : Rule) → rule_at l.rules n ≡ Some g → n ≤ l.place → PlaysIn l.parts g
