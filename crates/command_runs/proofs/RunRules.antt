-- The rules of a run are the rules of their polynomials, and each of these may be a rule.
use Rattle.command_runs.proofs.Prelude.{◌≡◌, ◌<ℤ◌, ℕ, pos, List, [], ◌∷◌, ◌++◌, get_or, option_to_list, Option, IsSomeAnd, refl, sym, ap, ◌∙◌, subst, All, All-head, All-tail, All-map, option_map, Term, Compare, IsContent, Rule, IsRule, polynomials_in, MayBeRule, rules_from}

module _ (letters : ℕ) (compare : Compare) where
  pub rules_of_run : (rules : List Rule) → All (IsRule letters compare) rules → rules_from compare (polynomials_in rules) ≡ rules
  rules_of_run [] are = refl
  rules_of_run (g ∷ rules) are =
      ap (λ (o : Option Term). option_to_list (option_map (λ (t : Term). record { leading = t.0; lead = t.1; poly = g.poly }) o)
      ++ rules_from compare (polynomials_in rules)) (All-head (IsRule letters compare) g rules are).leading
      ∙ ap (λ (rest : List Rule). g ∷ rest) (rules_of_run rules (All-tail (IsRule letters compare) g rules are))

  may : (g : Rule) → IsRule letters compare g → IsContent g.poly.terms (pos 1) → MayBeRule compare g.poly
  may g is primitive = record {
    primitive = primitive;
    positive = subst (λ (o : Option Term). IsSomeAnd o (λ t. pos 0 <ℤ t.0)) (sym is.leading) is.positive;
    nonempty = is.nonempty;
  }

  pub all_may : (rules : List Rule) → All (IsRule letters compare) rules → All (λ g. IsContent g.poly.terms (pos 1)) rules
      → All (MayBeRule compare) (polynomials_in rules)
  all_may rules are primitive = All-map (MayBeRule compare) (λ (g : Rule). g.poly) rules (λ k g inside. may (get_or rules k g) (are k g inside) (primitive k g inside))
