-- `Rules::push` appends a rule that is made of a rest.
use Rattle.std.specs.Prelude.{◌≡◌, ◌<◌, ◌<ℤ◌, ℕ, pos, Bool, List, length, Some, IsSomeAnd}
use Rattle.std.specs.List.{All}
use Rattle.definitions.specs.Poly.{Term, poly_multiple}
use Rattle.word_core.specs.Letters.{IsOver}
use Rattle.word_orders.specs.Admissible.{Compare}
use Rattle.nc_polynomial.specs.Content.{IsContent}
use Rattle.traced_rows.specs.declared.Row.{Row}
use Rattle.traced_rows.specs.declared.Made.{Made}
use Rattle.rule_reduce.specs.declared.rule.Rule.{Rule}
use Rattle.rule_reduce.specs.Leading.{leading_term}
use Rattle.rule_reduce.specs.RuleLists.{rule_from}
use Rattle.confluence.specs.Reductions.{IsNonzero}
use Rattle.confluence.specs.Rests.{signed, signed_rows, IsMadeOf}

-- The rest, which isn't zero, was divided by its content, or by the negative of that, so that the coefficient of the leading
-- word is positive. No word is empty, and all letters are below the number.
abbrev pub PushedRulesAreMade : Type 0
PushedRulesAreMade = (letters : ℕ) (compare : Compare) (rest : List Term) (rows : List Row) (negated : Bool) (g : Rule) (m : Made)
    → IsNonzero rest → IsContent rest m.scale → poly_multiple (signed negated m.scale) g.poly.terms ≡ rest
    → rule_from compare g.poly ≡ Some g → IsSomeAnd (leading_term compare g.poly.terms) (λ t. pos 0 <ℤ t.0)
    → All (λ t. 0 < length t.1) g.poly.terms → All (λ t. IsOver letters t.1) g.poly.terms
    → m.rows ≡ signed_rows negated rows → IsMadeOf letters compare rest rows g m
