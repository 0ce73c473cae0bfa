-- Which rules make no category.
use Rattle.std.specs.Prelude.{◌≡◌, ◌<◌, ℕ, List, Some}
use Rattle.std.specs.List.{All}
use Rattle.quiver.specs.Declarations.{quiver_of}
use Rattle.rule_reduce.specs.declared.rule.Rule.{Rule}
use Rattle.rule_reduce.specs.RuleLists.{rule_at}
use Rattle.rule_reduce.specs.KeptWords.{IsTypedRule, IsPolyInPlay}
use Rattle.adjoint_rules.specs.declared.parts.Parts.{Parts}
use Rattle.adjoint_rules.specs.Problem.{numbers, is_in_play}
use Rattle.confluence.specs.Typed.{AreTypedInPlay}
use Rattle.normal_category.specs.declared.fault.SharpFault.{SharpFault}
use Rattle.normal_category.specs.declared.fault.SharpFault.TheVariants as fault

-- The rule with this number lacks the property, and each one with a lesser number has it.
pub record IsFirstWithout (P : Rule → Type 0) (rules : List Rule) (number : ℕ) : Type 0 where
  pub rule : Rule
  pub numbered : rule_at rules number ≡ Some rule
  pub without : P rule → ⊥
  pub earlier : (n : ℕ) (g : Rule) → rule_at rules n ≡ Some g → n < number → P g

-- all words of the rule are paths of one signature
abbrev pub IsTypedIn : Parts → Rule → Type 0
IsTypedIn p g = IsTypedRule (quiver_of p.quiver) g

-- all letters of its words are in play
abbrev pub PlaysIn : Parts → Rule → Type 0
PlaysIn p g = IsPolyInPlay (is_in_play p.quiver p.starred (numbers p.marked)) g.poly.terms

-- both, of each rule
abbrev pub AreSharp : Parts → List Rule → Type 0
AreSharp p rules = AreTypedInPlay (quiver_of p.quiver) (is_in_play p.quiver p.starred (numbers p.marked)) rules

-- The fault names the least rule that isn't typed; where all are, the least that has a letter out of play.
abbrev pub Explains : Parts → List Rule → SharpFault → Type 0
Explains p rules (fault.Untyped rule) = IsFirstWithout (IsTypedIn p) rules rule
Explains p rules (fault.OutOfPlay rule) = All (IsTypedIn p) rules × IsFirstWithout (PlaysIn p) rules rule
