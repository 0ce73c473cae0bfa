-- What a closed basis means: its rules are resolved, the generators are in their rational ideal, and the claim is not.
use Rattle.closed_checker.proofs.Prelude.{◌≡◌, ◌≢◌, ◌≤◌, ℕ, pos, List, [], ◌∷◌, length, Result, Ok, Err, refl, sym, ap, ◌∙◌, subst, arith, All, length-map, All-head, Term, coefficient_of, generator_at, InRationalIdeal, IsOver, Compare, IsAdmissible, asked_rank, IsShaped, Poly, PolyFault, distinct-descending, first_coefficient, recursion_from_IsDescending, letter_count, Rule, State, ReduceFault, IsRule, polynomials_of, halt_of, normal_form_of, words_with_coefficients, Ambiguity, IsAmbiguity, s_polynomial_of, IsResolved, Resolved, s_polynomials_balance, over_terms, IsZero, IsReduced, HasLettersBelow, all_from_numbers, ideals_stay_inside, normal_forms_are_reduced, rests_of_ideal_are_zero, zero_rests_are_inside, zero_rests_are_resolved, s_polynomials_are_shaped, Problem, polynomials, Basis, step_limit, order_of, rules_of, rest_in, rest_by, claim_of, IsReadableBasis, IsClosedBasis, ClosedMeans, ClosedBasesMeanOutside}
use Rattle.closed_checker.proofs.BasisRules.{rules_from-same, rules_from-are}
use Rattle.closed_checker.proofs.ByNumber.{canonical_at, generator_over, claim_over}
use Rattle.closed_checker.proofs.PartOrder.{order_laws}

-- values
pub no_rest : (e : ReduceFault) (p : List Term) → ◌≡◌ {A = Result (List Term) ReduceFault} (Err e) (Ok p) → ⊥
no_rest e p is = cc

same_rest : (p q : List Term) → ◌≡◌ {A = Result (List Term) ReduceFault} (Ok p) (Ok q) → p ≡ q
same_rest p q is = cc

empty_is_zero : (p : List Term) → p ≡ [] → IsZero p
empty_is_zero p none = record { at = λ w. ap (λ (q : List Term). coefficient_of q w) none }

-- a sorted list without coefficients has no terms
pub zero_is_empty : (p : List Term) → IsShaped p → IsZero p → p ≡ []
zero_is_empty [] shaped none = refl
zero_is_empty (t ∷ p) shaped none =
    absurd (All-head (λ (u : Term). u.0 ≢ pos 0) t p shaped.nonzero
    (sym (first_coefficient t p (distinct-descending (t ∷ p) (recursion_from_IsDescending (t ∷ p) shaped.descending)).0) ∙ none.at t.1))

-- reductions with their rest
module _ (letters : ℕ) (compare : Compare) (rank : List ℕ → List ℕ) (laws : IsAdmissible letters compare rank) (rules : List Rule)
    (are : All (IsRule letters compare) rules) where
  -- a reduction of the polynomial with this rest
  pub record HasReduction (p rest : List Term) : Type 0 where
    pub state : State
    pub reduced : IsReduced letters compare rules p state
    pub rest_is : state.rest ≡ rest

  pub reduction_of : (p rest : List Term) → IsShaped p → All (λ t. IsOver letters t.1) p → rest_in (normal_form_of compare rules p step_limit) ≡ Ok rest
      → HasReduction p rest
  reduction_of p rest shaped over is = go (normal_form_of compare rules p step_limit) refl is
    where
      go : (r : Result State ReduceFault) → normal_form_of compare rules p step_limit ≡ r → rest_in r ≡ Ok rest → HasReduction p rest
      go (Ok s) ends k =
          let reduced = normal_forms_are_reduced letters compare rank rules p step_limit s laws are shaped over ends in
          record { state = s; reduced = reduced; rest_is = same_rest s.rest rest k }
      go (Err e) ends k = absurd (no_rest e rest k)

  zero_inside : (p : List Term) → IsShaped p → All (λ t. IsOver letters t.1) p → rest_in (normal_form_of compare rules p step_limit) ≡ Ok []
      → InRationalIdeal (polynomials_of rules) p
  zero_inside p shaped over is =
      let found = reduction_of p [] shaped over is in
      zero_rests_are_inside letters compare rules p found.state found.reduced (empty_is_zero found.state.rest found.rest_is)

  zero_resolves : (a : Ambiguity) → IsAmbiguity rules a → rest_by compare rules (s_polynomial_of rules a) ≡ Ok [] → IsResolved letters compare rules a
  zero_resolves a ambiguity is = go (s_polynomial_of rules a) refl is
    where
      go : (r : Result (List Term) PolyFault) → s_polynomial_of rules a ≡ r → rest_by compare rules r ≡ Ok [] → IsResolved letters compare rules a
      go (Err e) ends k = absurd (no_rest (halt_of e) [] k)
      go (Ok p) ends k =
          let shaped = s_polynomials_are_shaped rules a p ends in
          let found = reduction_of p [] shaped (over_terms letters compare rank rules a p laws are ambiguity ends shaped) k in
          zero_rests_are_resolved letters compare rank rules a p found.state laws are ambiguity (s_polynomials_balance rules a p ends) found.reduced
          (empty_is_zero found.state.rest found.rest_is)

-- a basis
module _ (problem : Problem) (b : Basis) where
  abbrev letters : ℕ
  letters = letter_count problem.parts.quiver

  abbrev rank : List ℕ → List ℕ
  rank = asked_rank letters problem.parts.order

  abbrev rules : List Rule
  rules = rules_of problem b

  laws : IsAdmissible letters (order_of problem) rank
  laws = order_laws problem letters

  module _ (readable : IsReadableBasis problem.parts.quiver b) (closed : IsClosedBasis problem b) where
    same : polynomials_of rules ≡ polynomials b.rules
    same = rules_from-same (order_of problem) b.rules closed.has_rules.rules

    are_rules : All (IsRule letters (order_of problem)) rules
    are_rules = rules_from-are (order_of problem) letters b.rules closed.has_rules.rules readable.over.rules

    generator_inside : (n : ℕ) → 1 ≤ n → n ≤ length (polynomials problem.generators)
        → InRationalIdeal (polynomials_of rules) (generator_at (polynomials problem.generators) n)
    generator_inside n first last =
        zero_inside letters (order_of problem) rank laws rules are_rules (generator_at (polynomials problem.generators) n)
        (canonical_at problem.generators n).shaped (generator_over problem n)
        (closed.generators n (record { least = first; most = omega (arith, last, length-map problem.generators (λ (p : Poly). p.terms)) }))

    generated : All (InRationalIdeal (polynomials_of rules)) (polynomials problem.generators)
    generated = all_from_numbers (InRationalIdeal (polynomials_of rules)) (polynomials problem.generators) generator_inside

    resolved : Resolved letters (order_of problem) rules
    resolved = record { each = λ a is. zero_resolves letters (order_of problem) rank laws rules are_rules a is (closed.ambiguities a is) }

    outside_rules : InRationalIdeal (polynomials_of rules) (claim_of problem b) → ⊥
    outside_rules inside =
        let over = claim_over problem b.claim in
        let found = reduction_of letters (order_of problem) rank laws rules are_rules (claim_of problem b) b.rest.terms
        (canonical_at problem.parts.claims b.claim).shaped over closed.claim in
        let below : HasLettersBelow letters (claim_of problem b) = record { at = words_with_coefficients (IsOver letters) (claim_of problem b) over } in
        let vanishes = rests_of_ideal_are_zero letters (order_of problem) rank rules
        (claim_of problem b) found.state laws are_rules resolved inside below found.reduced in
        closed.nonzero (zero_is_empty b.rest.terms b.rest.canonical.shaped (subst IsZero found.rest_is vanishes))

    means : ClosedMeans problem b
    means = record {
      same = same;
      are_rules = are_rules;
      generated = subst (λ (ps : List (List Term)). All (InRationalIdeal ps) (polynomials problem.generators)) same generated;
      resolved = resolved;
      outside_rules = λ inside. outside_rules (subst (λ (ps : List (List Term)). InRationalIdeal ps (claim_of problem b)) (sym same) inside);
      outside = λ inside. outside_rules (ideals_stay_inside (polynomials_of rules) (polynomials problem.generators) (claim_of problem b) generated inside);
    }

pub closed_bases_mean_outside : ClosedBasesMeanOutside
closed_bases_mean_outside problem b readable closed = means problem b readable closed
