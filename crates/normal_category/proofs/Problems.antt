-- The normal forms of a problem's rules.
use Rattle.normal_category.proofs.Prelude.{◌≡◌, ℕ, zero, suc, ◌≤◌, Bool, true, List, [], ◌∷◌, length, arith, All, AllByRecursion, AllZip, list_all, length-map, All-nil, All-cons, All-head, All-tail, recursion_from_All, Term, SamePolynomial, generator_at, InRationalIdeal, HasSignature, Same_trans, SamePolynomial-multiple, asked_cmp, Poly, letter_count, quiver_of, Rule, IsRule, polynomials_of, Resolved, Problem, numbers, is_in_play, polynomials, generators_in, IsInPlay, claims_have_signatures, claim_at, AreTypedInPlay, generator_words, IsBasis, SharpMeans, Plays, plays_from_test, sharp_means}

-- what holds of each holds of the one with a number
numbered : (P : List Term → Type 0) (fs : List (List Term)) → AllByRecursion P fs → (n : ℕ) → 1 ≤ n → n ≤ length fs → P (generator_at fs n)
numbered P fs each zero first last = absurd (omega (arith, first))
numbered P [] each (suc n) first last = absurd (omega (arith, last))
numbered P (f ∷ fs) each (suc zero) first last = each.0
numbered P (f ∷ fs) each (suc (suc n)) first last = numbered P fs each.1 (suc n) (omega arith) (omega (arith, last))

-- the rational ideal has what has the same coefficients
ideal_same : (generators : List (List Term)) (f g : List Term) → SamePolynomial f g → InRationalIdeal generators f → InRationalIdeal generators g
ideal_same generators f g same inside = record {
  denominator = inside.denominator;
  rows = inside.rows;
  combination =
      record { positive = inside.combination.positive; sum = Same_trans _ _ _ inside.combination.sum (SamePolynomial-multiple inside.denominator f g same) };
}

ideals_along : (generators fs gs : List (List Term)) → AllZip SamePolynomial fs gs → All (InRationalIdeal generators) fs
    → All (InRationalIdeal generators) gs
ideals_along generators [] [] same each = All-nil (InRationalIdeal generators)
ideals_along generators [] (g ∷ gs) same each = absurd same
ideals_along generators (f ∷ fs) [] same each = absurd same
ideals_along generators (f ∷ fs) (g ∷ gs) same each =
    All-cons (InRationalIdeal generators) g gs (ideal_same generators f g same.0 (All-head (InRationalIdeal generators) f fs each))
    (ideals_along generators fs gs same.1 (All-tail (InRationalIdeal generators) f fs each))

module _ (problem : Problem) (rules : List Rule)
    (are_rules : All (IsRule (letter_count problem.parts.quiver) (asked_cmp problem.parts.order)) rules)
    (resolved : Resolved (letter_count problem.parts.quiver) (asked_cmp problem.parts.order) rules)
    (generated : All (InRationalIdeal (polynomials_of rules)) (polynomials problem.generators))
    (typed : AreTypedInPlay (quiver_of problem.parts.quiver)
    (is_in_play problem.parts.quiver problem.parts.starred (numbers problem.parts.marked)) rules) where
  pub basis : IsBasis problem.parts rules
  basis = record {
    posed = problem.posed;
    are_rules = are_rules;
    resolved = resolved;
    typed = typed;
    generated = ideals_along (polynomials_of rules) (polynomials problem.generators) (generators_in problem.parts) problem.closed.same generated;
  }

  abbrev play : ℕ → Bool
  play = is_in_play problem.parts.quiver problem.parts.starred (numbers problem.parts.marked)

  tested : (f : List Term) → AllByRecursion (λ t. list_all play t.1 ≡ true) f → Plays problem.parts rules basis f
  tested [] each = tt
  tested (t ∷ f) each = (plays_from_test play t.1 each.0, tested f each.1)

  all_tested : (fs : List (List Term)) → AllByRecursion (λ f. AllByRecursion (λ t. list_all play t.1 ≡ true) f) fs
      → AllByRecursion (Plays problem.parts rules basis) fs
  all_tested [] each = tt
  all_tested (f ∷ fs) each = (tested f each.0, all_tested fs each.1)

  abbrev InPlay : ℕ → Type 0
  InPlay = IsInPlay problem.parts.quiver problem.parts.starred (numbers problem.parts.marked)

  abbrev WordInPlay : Term → Type 0
  WordInPlay t = All InPlay t.1

  terms_play : (p : List Term) → All WordInPlay p → Plays problem.parts rules basis p
  terms_play [] each = tt
  terms_play (t ∷ p) each = (recursion_from_All InPlay t.1 (All-head WordInPlay t p each), terms_play p (All-tail WordInPlay t p each))

  claim_plays : (claims : List Poly) → All (λ f. All WordInPlay f.terms) claims → AllByRecursion (Plays problem.parts rules basis) (polynomials claims)
  claim_plays [] each = tt
  claim_plays (f ∷ claims) each =
      (terms_play f.terms (All-head (λ (g : Poly). All WordInPlay g.terms) f claims each), claim_plays claims (All-tail (λ (g : Poly). All WordInPlay g.terms) f claims each))

  pub problem_is_sharp : (claim : ℕ) → 1 ≤ claim → claim ≤ length problem.parts.claims → (InRationalIdeal (polynomials_of rules) (claim_at problem claim) → ⊥)
      → SharpMeans problem.parts rules (claim_at problem claim)
  problem_is_sharp claim first last outside =
      sharp_means problem.parts rules basis (all_tested (generators_in problem.parts) (generator_words problem.parts problem.posed)) (claim_at problem claim)
      (numbered (Plays problem.parts rules basis) (polynomials problem.parts.claims)
      (claim_plays problem.parts.claims problem.posed.claim_letters) claim first inside)
      (numbered (HasSignature (quiver_of problem.parts.quiver)) (polynomials problem.parts.claims)
      (claims_have_signatures problem.parts problem.posed) claim first inside)
      outside
    where
      inside : claim ≤ length (polynomials problem.parts.claims)
      inside = omega (arith, last, length-map problem.parts.claims (λ (p : Poly). p.terms))
