-- Lists of rules, which are numbered from 1.
use Rattle.std.specs.Prelude.{◌≡◌, ◌<◌, ◌<ℤ◌, ℕ, zero, suc, pos, List, [], ◌∷◌, map, length, slice_get, Option, Some, None}
use Rattle.std.specs.List.{All}
use Rattle.std.specs.Option.{option_map}
use Rattle.coef_int.specs.Range.{IsCoefficient}
use Rattle.word_core.specs.Letters.{IsOver}
use Rattle.definitions.specs.Poly.{Term}
use Rattle.word_orders.specs.Admissible.{Compare}
use Rattle.nc_polynomial.specs.declared.poly.Poly.{Poly}
use Rattle.rule_reduce.specs.declared.rule.Rule.{Rule}
use Rattle.rule_reduce.specs.Leading.{leading_term}

-- The word and the coefficient of a rule are those of its leading term. The coefficient is positive and in range, no word
-- is empty, and all letters are below a number.
pub record IsRule (letters : ℕ) (compare : Compare) (g : Rule) : Type 0 where
  pub leading : leading_term compare g.poly.terms ≡ Some (g.leading, g.lead)
  pub positive : pos 0 <ℤ g.leading
  pub in_range : IsCoefficient g.leading
  pub nonempty : All (λ t. 0 < length t.1) g.poly.terms
  pub over : All (λ t. IsOver letters t.1) g.poly.terms

-- the rule of a polynomial, which the polynomial zero does not have
abbrev pub rule_from : Compare → Poly → Option Rule
rule_from compare poly = option_map (λ t. record { leading = t.0; lead = t.1; poly = poly }) (leading_term compare poly.terms)

-- the rule with this number
abbrev pub rule_at : List Rule → ℕ → Option Rule
rule_at rules zero = None
rule_at rules (suc n) = slice_get rules n

-- the polynomials of the rules
abbrev pub polynomials_of : List Rule → List (List Term)
polynomials_of rules = map (λ g. g.poly.terms) rules

-- the leading words with the numbers of their rules, which start with the given one
abbrev pub entries_from : ℕ → List Rule → List (List ℕ × ℕ)
entries_from number [] = []
entries_from number (g ∷ rules) = (g.lead, number) ∷ entries_from (suc number) rules

abbrev pub entries_of : List Rule → List (List ℕ × ℕ)
entries_of rules = entries_from 1 rules
