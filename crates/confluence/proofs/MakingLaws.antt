-- What is pushed is a rule that is made of a rest.
use Rattle.confluence.proofs.Prelude.{List, ◌≡◌, ◌<◌, ℕ, zero, suc, ℤ, pos, negsuc, ◌*ℤ◌, ◌<ℤ◌, neg_ℤ, Bool, true, false, length, Option, Some, None, IsSomeAnd, refl, sym, ap, ◌∙◌, subst, arith, All, IsNonNegative, option_map, ints, zero-*ℤ, IsCoefficient, Term, coefficient_of, poly_multiple, coefficient_of-multiple, IsOver, Compare, IsContent, Rule, leading_term, IsRule, rule_from, leading-all, IsNonzero, signed, PushedRulesAreMade}

pub rule_from_pushed : (letters : ℕ) (compare : Compare) (g : Rule) → rule_from compare g.poly ≡ Some g → IsSomeAnd (leading_term compare g.poly.terms) (λ t. pos 0 <ℤ t.0)
    → All (λ t. 0 < length t.1) g.poly.terms → All (λ t. IsOver letters t.1) g.poly.terms → IsRule letters compare g
rule_from_pushed letters compare g from positive nonempty over = go (leading_term compare g.poly.terms) refl from positive
  where
    go : (o : Option Term) → leading_term compare g.poly.terms ≡ o → option_map (λ t. record { leading = t.0; lead = t.1; poly = g.poly }) o ≡ Some g → IsSomeAnd o (λ t. pos 0 <ℤ t.0) → IsRule letters compare g
    go None at e some = absurd (cc)
    go (Some t) at e some =
        let same : record { leading = t.0; lead = t.1; poly = g.poly } ≡ g = (cc) in
        let leading : leading_term compare g.poly.terms ≡ Some (g.leading, g.lead) = at ∙ ap (λ (f : Rule). Some (f.leading, f.lead)) same in
        record {
          leading = leading;
          positive = subst (λ k. pos 0 <ℤ k) (ap (λ (f : Rule). f.leading) same) some;
          in_range = leading-all (λ u. IsCoefficient u.0) compare g.poly.terms (g.leading, g.lead) leading g.poly.canonical.shaped.in_range;
          nonempty = nonempty;
          over = over;
        }

-- what isn't zero was divided by a positive number
pub scale_positive : (rest v : List Term) (negated : Bool) (k : ℤ) → IsNonzero rest → IsContent rest k → poly_multiple (signed negated k) v ≡ rest → pos 0 <ℤ k
scale_positive rest v negated k some content divided = above k content.nonnegative (λ none. some.occurs (gone none))
  where
    above : (k : ℤ) → IsNonNegative k → (k ≡ pos 0 → ⊥) → pos 0 <ℤ k
    above (pos zero) sign nonzero = absurd (nonzero refl)
    above (pos (suc n)) sign nonzero = omega (arith, ints)
    above (negsuc n) sign nonzero = absurd (omega (arith, ints, sign))

    sign_of_none : (b : Bool) (k : ℤ) → k ≡ pos 0 → signed b k ≡ pos 0
    sign_of_none true k none = ap neg_ℤ none
    sign_of_none false k none = none

    -- by the scale zero all coefficients would be zero
    gone : k ≡ pos 0 → coefficient_of rest some.word ≡ pos 0
    gone none =
        ap (λ p. coefficient_of p some.word) (sym divided) ∙ coefficient_of-multiple (signed negated k) v some.word
        ∙ ap (λ c. c *ℤ coefficient_of v some.word) (sign_of_none negated k none) ∙ zero-*ℤ (coefficient_of v some.word)

pub pushed_rules_are_made : PushedRulesAreMade
pushed_rules_are_made letters compare rest rows negated g m some content divided from positive nonempty over rows_are = record {
  is_rule = rule_from_pushed letters compare g from positive nonempty over;
  positive = scale_positive rest g.poly.terms negated m.scale some content divided;
  negated = negated;
  divided = record { at = λ w. ap (λ p. coefficient_of p w) divided };
  rows_are = rows_are;
}
