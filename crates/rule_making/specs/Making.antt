-- How a polynomial is made a rule, with the record of how it was made.
use Rattle.std.specs.Prelude.{◌≡◌, ◌<ℤ◌, ℤ, pos, negsuc, neg_ℤ, List, [], ◌∷◌, ◌++◌, map, Bool, true, false, Option, Some, None, if◌then◌else◌}
use Rattle.definitions.specs.Poly.{Term, poly_multiple}
use Rattle.word_orders.specs.Admissible.{Compare}
use Rattle.nc_polynomial.specs.Content.{IsContent}
use Rattle.traced_rows.specs.declared.Row.{Row}
use Rattle.traced_rows.specs.declared.Made.{Made}
use Rattle.rule_reduce.specs.declared.rule.Rule.{Rule}
use Rattle.rule_reduce.specs.Leading.{leading_term}
use Rattle.rule_reduce.specs.RuleLists.{rule_from}

-- the rules so far, and how each was made
pub record Recorded : Type 0 where
  pub rules : List Rule
  pub made : List Made

-- the rest of a reduction, which isn't zero, and the rows that add up to it
pub record Rest : Type 0 where
  pub polynomial : List Term
  pub rows : List Row

-- a polynomial with its rows, or None for the polynomial zero
abbrev pub rest_with : List Term → List Row → Option Rest
rest_with [] rows = None
rest_with (t ∷ p) rows = Some (record { polynomial = t ∷ p; rows = rows })

abbrev pub negated_row : Row → Row
negated_row row = record row { coef = neg_ℤ row.coef }

abbrev pub negated_rows : List Row → List Row
negated_rows rows = map negated_row rows

-- whether the integer is below zero
abbrev pub is_negative : ℤ → Bool
is_negative (pos n) = false
is_negative (negsuc n) = true

-- whether the coefficient of the leading term is
abbrev pub is_term_negative : Option Term → Bool
is_term_negative None = false
is_term_negative (Some t) = is_negative t.0

abbrev pub leads_negative : Compare → List Term → Bool
leads_negative compare p = is_term_negative (leading_term compare p)

-- The scale is the content of the rest, which is positive. The rule is the rest divided by it, and by its negative where the leading coefficient
-- of the rest is negative; then the rows are negated too.
pub record IsMadeFrom (compare : Compare) (rest : Rest) (g : Rule) (m : Made) : Type 0 where
  pub content : IsContent rest.polynomial m.scale
  pub positive : pos 0 <ℤ m.scale
  pub divided : poly_multiple (if leads_negative compare rest.polynomial then neg_ℤ m.scale else m.scale) g.poly.terms ≡ rest.polynomial
  pub leading : rule_from compare g.poly ≡ Some g
  pub rows : m.rows ≡ (if leads_negative compare rest.polynomial then negated_rows rest.rows else rest.rows)

-- the rules with a rule that is made of the rest
pub record IsExtended (compare : Compare) (rest : Rest) (before after : Recorded) : Type 0 where
  pub rule : Rule
  pub made : Made
  pub made_from : IsMadeFrom compare rest rule made
  pub appended : after ≡ record { rules = before.rules ++ rule ∷ []; made = before.made ++ made ∷ [] }

-- Where the rest is zero, nothing changes; another one becomes a rule.
abbrev pub Adds : Compare → Option Rest → Recorded → Recorded → Type 0
Adds compare None before after = after ≡ before
Adds compare (Some rest) before after = IsExtended compare rest before after
