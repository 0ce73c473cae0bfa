-- The numbers of rules.
use Rattle.std.proofs.Common.{◌≡◌, ℕ, zero, suc, ◌<◌, ◌≤◌, List, length, Option, Some, None, ◌⊎◌, inl, inr, sym, ◌∙◌, arith}
use Rattle.std.proofs.lemmas.Bool.{cases_lt}
use Rattle.rule_reduce.proofs.Numbers.{rule_at-past}
use Rattle.rule_reduce.specs.RuleLists.{rule_at}
use Rattle.rule_reduce.specs.declared.rule.Rule.{Rule}

-- a rule has a number from 1 to the number of rules
pub rule_at-first : (rules : List Rule) (n : ℕ) (g : Rule) → rule_at rules n ≡ Some g → 0 < n
rule_at-first rules zero g is = absurd (cc)
rule_at-first rules (suc n) g is = omega arith

pub rule_at-last : (rules : List Rule) (n : ℕ) (g : Rule) → rule_at rules n ≡ Some g → n ≤ length rules
rule_at-last rules n g is = go (cases_lt (length rules) n)
  where
    unlike : ◌≡◌ {A = Option Rule} None (Some g) → ⊥
    unlike e = cc

    go : (length rules < n) ⊎ (n ≤ length rules) → n ≤ length rules
    go (inl past) = absurd (unlike (sym (rule_at-past rules n past) ∙ is))
    go (inr within) = within
