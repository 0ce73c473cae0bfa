-- The rules of a basis whose polynomials may be rules: they are rules, of these polynomials.
use Rattle.closed_checker.proofs.Prelude.{◌≡◌, ◌<ℤ◌, ℕ, pos, List, [], ◌∷◌, ◌++◌, option_to_list, Option, Some, None, refl, ap, subst, All, option_map, All-nil, All-cons, All-head, All-tail, IsCoefficient, Term, IsOver, Compare, Poly, Rule, leading_term, IsRule, polynomials_of, leading-all, polynomials, MayBeRule, rules_from, IsSomeAnd}

module _ (compare : Compare) where
  abbrev rule_with : Poly → Term → Rule
  rule_with p t = record { leading = t.0; lead = t.1; poly = p }

  pub rules_from-same : (ps : List Poly) → All (MayBeRule compare) ps → polynomials_of (rules_from compare ps) ≡ polynomials ps
  rules_from-same [] may = refl
  rules_from-same (p ∷ ps) may = go (leading_term compare p.terms) (All-head (MayBeRule compare) p ps may).positive (rules_from-same ps (All-tail (MayBeRule compare) p ps may))
    where
      go : (o : Option Term) → IsSomeAnd o (λ t. pos 0 <ℤ t.0) → polynomials_of (rules_from compare ps) ≡ polynomials ps
          → polynomials_of (option_to_list (option_map (rule_with p) o) ++ rules_from compare ps) ≡ polynomials (p ∷ ps)
      go None positive rest = absurd positive
      go (Some t) positive rest = ap (λ (qs : List (List Term)). p.terms ∷ qs) rest

  module _ (letters : ℕ) where
    abbrev Over : Poly → Type 0
    Over p = All (λ t. IsOver letters t.1) p.terms

    leads_rule : (p : Poly) (t : Term) → MayBeRule compare p → All (λ u. IsOver letters u.1) p.terms → leading_term compare p.terms ≡ Some t
        → IsRule letters compare (rule_with p t)
    leads_rule p t may over leads = record {
      leading = leads;
      positive = subst (λ (o : Option Term). IsSomeAnd o (λ u. pos 0 <ℤ u.0)) leads may.positive;
      in_range = leading-all (λ u. IsCoefficient u.0) compare p.terms t leads p.canonical.shaped.in_range;
      nonempty = may.nonempty;
      over = over;
    }

    pub rules_from-are : (ps : List Poly) → All (MayBeRule compare) ps → All Over ps
        → All (IsRule letters compare) (rules_from compare ps)
    rules_from-are [] may over = All-nil (IsRule letters compare)
    rules_from-are (p ∷ ps) may over = go (leading_term compare p.terms) refl is.positive (rules_from-are ps (All-tail (MayBeRule compare) p ps may) (All-tail Over p ps over))
      where
        is : MayBeRule compare p
        is = All-head (MayBeRule compare) p ps may

        go : (o : Option Term) → leading_term compare p.terms ≡ o → IsSomeAnd o (λ t. pos 0 <ℤ t.0)
            → All (IsRule letters compare) (rules_from compare ps)
            → All (IsRule letters compare) (option_to_list (option_map (rule_with p) o) ++ rules_from compare ps)
        go None leads positive rest = absurd positive
        go (Some t) leads positive rest = All-cons (IsRule letters compare) (rule_with p t) (rules_from compare ps) (leads_rule p t is (All-head Over p ps over) leads) rest
