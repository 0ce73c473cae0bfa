-- The rules with one that is made of a rest.
use Rattle.rule_making.proofs.Prelude.{◌≡◌, ◌<ℤ◌, pos, neg_ℤ, List, [], ◌∷◌, ◌++◌, Option, Some, None, IsSomeAnd, option_to_list, refl, ap, ◌∙◌, if◌then◌else◌, option_map, Term, poly_multiple, Compare, Poly, IsContent, Made, Rule, leading_term, rule_from, Rest, leads_negative, negated_rows, IsExtended}

module _ (compare : Compare) (rest : Rest) (poly : Poly) (m : Made) (content : IsContent rest.polynomial m.scale) (positive : pos 0 <ℤ m.scale)
    (divided : poly_multiple (if leads_negative compare rest.polynomial then neg_ℤ m.scale else m.scale) poly.terms ≡ rest.polynomial)
    (rows : m.rows ≡ (if leads_negative compare rest.polynomial then negated_rows rest.rows else rest.rows)) where
  pub extended : (rules rules' : List Rule) (made made' : List Made) → IsSomeAnd (leading_term compare poly.terms) (λ t. pos 0 <ℤ t.0)
      → rules' ≡ rules ++ option_to_list (rule_from compare poly) → made' ≡ made ++ m ∷ []
      → IsExtended compare rest (record { rules = rules; made = made }) (record { rules = rules'; made = made' })
  extended rules rules' made made' leads rules_are made_are = go (leading_term compare poly.terms) refl leads
    where
      go : (o : Option Term) → leading_term compare poly.terms ≡ o → IsSomeAnd o (λ t. pos 0 <ℤ t.0) → IsExtended compare rest (record { rules = rules; made = made }) (record { rules = rules'; made = made' })
      go None none some = absurd some
      go (Some t) has some =
          let g : Rule = record { leading = t.0; lead = t.1; poly = poly } in
          let is : rule_from compare poly ≡ Some g = ap (option_map (λ (u : Term). record { leading = u.0; lead = u.1; poly = poly })) has in
          let rules_end : rules' ≡ rules ++ g ∷ [] = rules_are ∙ ap (λ o. rules ++ option_to_list o) is in
          record {
            rule = g;
            made = m;
            made_from = record { content = content; positive = positive; divided = divided; leading = is; rows = rows };
            appended = λ i. record { rules = rules_end i; made = made_are i };
          }

-- the rule of a polynomial with a positive leading coefficient
pub record HasRule (compare : Compare) (poly : Poly) : Type 0 where
  pub rule : Rule
  pub is : rule_from compare poly ≡ Some rule

pub pushed_rule : (compare : Compare) (poly : Poly) → IsSomeAnd (leading_term compare poly.terms) (λ t. pos 0 <ℤ t.0) → HasRule compare poly
pushed_rule compare poly leads = go (leading_term compare poly.terms) refl leads
  where
    go : (o : Option Term) → leading_term compare poly.terms ≡ o → IsSomeAnd o (λ t. pos 0 <ℤ t.0) → HasRule compare poly
    go None none some = absurd some
    go (Some t) has some = record {
      rule = record { leading = t.0; lead = t.1; poly = poly };
      is = ap (option_map (λ (u : Term). record { leading = u.0; lead = u.1; poly = poly })) has;
    }
