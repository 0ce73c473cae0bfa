-- Each rest other than zero can be made a rule.
use Rattle.outcome_laws.proofs.Prelude.{◌≡◌, ◌<◌, ◌<ℤ◌, ℤ, pos, Bool, true, false, cond, List, [], ◌∷◌, length, Some, refl, ap, arith, option_map, unsigned_abs, length-map, Term, poly_multiple, Compare, IsCanonical, DividesEach, Poly, canonical_back, Made, Rule, greatest_from, leading_term, Rest, leads_negative, negated_rows, IsMadeFrom, signed, signed_nonzero, negative_divides, HasContent, has_content, positive_content, quotient, multiple_of_quotient, int_div}

pub record HasRule (compare : Compare) (rest : Rest) : Type 0 where
  pub rule : Rule
  pub made : Made
  pub is : IsMadeFrom compare rest rule made

-- a polynomial other than zero has a leading term
leads : (compare : Compare) (p : List Term) → 0 < length p → (t : Term) × (leading_term compare p ≡ Some t)
leads compare [] some = absurd (omega (arith, some))
leads compare (t ∷ p) some = (greatest_from compare t p, refl)

signed_divides : (b : Bool) (s : ℤ) (p : List Term) → DividesEach (unsigned_abs s) p → DividesEach (unsigned_abs (signed b s)) p
signed_divides true s p divides = negative_divides s p divides
signed_divides false s p divides = divides

pub has_rule : (compare : Compare) (rest : Rest) → IsCanonical rest.polynomial → 0 < length rest.polynomial → HasRule compare rest
has_rule compare rest canonical some = record {
  rule = record { leading = top.0.0; lead = top.0.1; poly = poly };
  made = record { scale = scale; rows = cond negative (negated_rows rest.rows) rest.rows };
  is = record {
    content = found.is;
    positive = positive;
    divided = multiple;
    leading = ap (option_map (λ (t : Term). record { leading = t.0; lead = t.1; poly = poly })) top.1;
    rows = refl;
  };
}
  where
    negative : Bool
    negative = leads_negative compare rest.polynomial

    found : HasContent rest.polynomial
    found = has_content rest.polynomial

    scale : ℤ
    scale = found.content

    positive : pos 0 <ℤ scale
    positive = positive_content rest.polynomial scale some canonical.shaped.nonzero found.is

    divisor : ℤ
    divisor = signed negative scale

    terms : List Term
    terms = quotient divisor rest.polynomial

    multiple : poly_multiple divisor terms ≡ rest.polynomial
    multiple = multiple_of_quotient divisor rest.polynomial
        (signed_divides negative scale rest.polynomial found.is.divides)

    poly : Poly
    poly = record { terms = terms; canonical = canonical_back divisor (signed_nonzero negative scale positive) terms rest.polynomial multiple canonical }

    top : (t : Term) × (leading_term compare terms ≡ Some t)
    top = let divide : Term → Term = λ t. (int_div t.0 divisor, t.1) in leads compare terms (omega (arith, some, length-map rest.polynomial divide))
