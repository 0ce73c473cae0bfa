-- S-polynomials, and their rows over the rules.
use Rattle.std.specs.Prelude.{ℕ, ◌+◌, ℤ, pos, neg_ℤ, int_div, List, [], ◌∷◌, length, take, drop, Result, unwrap_or}
use Rattle.std.specs.Option.{option_map}
use Rattle.definitions.specs.Poly.{Term}
use Rattle.nc_polynomial.specs.declared.fault.PolyFault.{PolyFault}
use Rattle.nc_polynomial.specs.Product.{moved_result, and_then}
use Rattle.nc_polynomial.specs.Arithmetic.{combined}
use Rattle.traced_rows.specs.declared.Origin.TheVariants as origin
use Rattle.traced_rows.specs.declared.Row.{Row}
use Rattle.traced_rows.specs.Traces.{origin_poly}
use Rattle.rule_reduce.specs.declared.rule.Rule.{Rule}
use Rattle.coef_int.specs.Divisor.{gcd_of}
use Rattle.rule_reduce.specs.RuleLists.{rule_at, polynomials_of}
use Rattle.ambiguities.specs.declared.ambiguity.Ambiguity.{Ambiguity}
use Rattle.ambiguities.specs.Ambiguities.{lead_at, overlap_word_of}

-- the leading coefficient of the rule with this number, or zero where there is none
abbrev pub leading_at : List Rule → ℕ → ℤ
leading_at rules number = unwrap_or (option_map (λ g. g.leading) (rule_at rules number)) (pos 0)

-- the greatest common divisor of the two leading coefficients
abbrev pub shared_divisor : List Rule → Ambiguity → ℤ
shared_divisor rules a = gcd_of (leading_at rules a.i) (leading_at rules a.j)

-- the multiple of the first rule: what follows its leading word in the overlap word is its right factor
abbrev pub first_row : List Rule → Ambiguity → Row
first_row rules a = record {
  coef = int_div (leading_at rules a.j) (shared_divisor rules a);
  left = [];
  from = origin.Rule a.i;
  right = drop (length (lead_at rules a.i)) (overlap_word_of rules a);
}

-- that of the second rule: the letters before the place are its left factor, and what follows its leading word is its right one
abbrev pub second_row : List Rule → Ambiguity → Row
second_row rules a = record {
  coef = neg_ℤ (int_div (leading_at rules a.i) (shared_divisor rules a));
  left = take a.place (overlap_word_of rules a);
  from = origin.Rule a.j;
  right = drop (a.place + length (lead_at rules a.j)) (overlap_word_of rules a);
}

abbrev pub s_rows_of : List Rule → Ambiguity → List Row
s_rows_of rules a = first_row rules a ∷ second_row rules a ∷ []

-- l g r of a row, or its fault
abbrev pub row_multiple : List Rule → Row → Result (List Term) PolyFault
row_multiple rules row = moved_result row.left (origin_poly [] (polynomials_of rules) row.from) row.right

-- The first row's multiple, then the second one's, then the sum of both by the coefficients of the rows; or the first fault.
abbrev pub s_polynomial_of : List Rule → Ambiguity → Result (List Term) PolyFault
s_polynomial_of rules a =
    and_then (row_multiple rules (first_row rules a)) (λ p.
    and_then (row_multiple rules (second_row rules a)) (λ q. combined (first_row rules a).coef p (second_row rules a).coef q))
