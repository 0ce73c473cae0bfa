-- Values of candidates: which candidate they are, and what the tests of them tell.
use Rattle.model_candidates.proofs.Prelude.{◌≡◌, ◌↔◌, ℕ, ℤ, Bool, true, filter, not, List, [], map, get_or, Option, None, Some, slice_get, option_map, IfNone, IfSome, IfOk, IsTrue, Result, Ok, Err, refl, sym, ap, subst, ◌∙◌, true≢false, AllByRecursion, not-true, get_or-map, All-from_recursion, get_or_from_slice_get, none-some, slice_get-map, slice_get_within, HasValueZeroAt, Poly, Sig, quiver_of, matrices, Model, Shape, Problem, HasObjects, IsTypedOf, polynomials, IsZeroIn, representation_of, all_at, zero_from_value, IsCandidate, IsGreedy, IsSolution, draws, is_exhaustive, model_by, AreEntryValues, linear_assumptions, residues}
use Rattle.model_candidates.proofs.AssumptionTerms.{of_kept}
use Rattle.model_candidates.proofs.AssumptionsSuffice.{linear_assumptions_are_zero}

-- the greedy values of draws
module _ (problem : Problem) (number seed k : ℕ) (s : Shape) where
  abbrev drawn : List ℕ
  drawn = draws (quiver_of problem.parts.quiver) s number seed k

  pub drawn_candidate : {E : Type 0} → IsTrue (not (is_exhaustive (quiver_of problem.parts.quiver) s)) → (r : Result (Option (List ℕ)) E)
      → IfOk r (λ found. IfNone found ((values : List ℕ) → ¬ IsSolution problem s drawn values))
      → IfOk r (λ found. IfSome found (IsGreedy problem s drawn))
      → IfOk r (λ found. IsCandidate problem number s seed k (option_map (model_by (quiver_of problem.parts.quiver) s 0) found))
  drawn_candidate other (Ok None) none greedy = IsCandidate.unsolvable other none refl
  drawn_candidate other (Ok (Some values)) none greedy = IsCandidate.drawn other values greedy refl
  drawn_candidate other (Err e) none greedy = tt

pub greedy_are_values : (problem : Problem) (s : Shape) (drawn : List ℕ) (found : Option (List ℕ)) → IfSome found (IsGreedy problem s drawn)
    → IfSome found (AreEntryValues problem s)
greedy_are_values problem s _ None greedy = tt
greedy_are_values problem s _ (Some values) greedy = record { one_each = greedy.solution.one_each; below = greedy.solution.below }

-- in a candidate that is drawn the linear assumptions are zero
pub linear_in_candidate : (problem : Problem) (number seed k : ℕ) (s : Shape) (m : Model) → IsTrue (not (is_exhaustive (quiver_of problem.parts.quiver) s))
    → IsCandidate problem number s seed k (Some m) → AllByRecursion (IsZeroIn problem m) (linear_assumptions problem)
linear_in_candidate problem number seed k s m other (IsCandidate.numbered all _) = absurd (true≢false (sym all ∙ not-true _ other))
linear_in_candidate problem number seed k s m other (IsCandidate.drawn _ values greedy is) =
    let made = model_by (quiver_of problem.parts.quiver) s 0 values in
    let m_is : m ≡ made = cc in
    subst (λ x. AllByRecursion (IsZeroIn problem x) (linear_assumptions problem)) (sym m_is) (linear_assumptions_are_zero problem made greedy.solution.zero)
linear_in_candidate problem number seed k s m other (IsCandidate.unsolvable _ _ is) = absurd (none-some _ (sym is))

-- the coefficients at the place of a polynomial
pub residues_at : (m : ℕ) (ps : List Poly) {each : List (List ℕ)} (place : ℕ) {p : Poly} {x : List ℕ} → each ≡ map (λ r. residues m r.terms) ps
    → slice_get ps place ≡ Some p → slice_get each place ≡ Some x → x ≡ residues m p.terms
residues_at m ps {each} place {p} {x} are is_p is_x = sym (get_or_from_slice_get each place x [] is_x) ∙ ap (λ xs. get_or xs place []) are
    ∙ get_or-map (λ r. residues m r.terms) ps place p [] (slice_get_within ps place p is_p)
    ∙ ap (λ r. residues m r.terms) (get_or_from_slice_get ps place p p is_p)

module _ (problem : Problem) (m : Model) where
  -- zero at its signature, or anywhere
  pub zero_tells : (p : Poly) {sig : Sig} → IsTypedOf problem.parts.quiver p sig → HasObjects problem.parts.quiver sig
      → (HasValueZeroAt (matrices m.modulus) (quiver_of problem.parts.quiver) (representation_of (quiver_of problem.parts.quiver) m)
      sig.source.0 sig.target.0 p.terms) ↔ (IsZeroIn problem m p.terms)
  zero_tells p {sig} typed ends = (
    λ vanishes. zero_from_value (matrices m.modulus) (quiver_of problem.parts.quiver) (representation_of (quiver_of problem.parts.quiver) m) p.terms
        p.canonical sig.source.0 sig.target.0 typed vanishes,
    λ zero. zero.at sig.source.0 sig.target.0 ends.source ends.target typed,
  )

  -- one of those that are all zero
  pub zero_at : (ps : List Poly) (place : ℕ) {p : Poly} → AllByRecursion (IsZeroIn problem m) (polynomials ps) → slice_get ps place ≡ Some p
      → IsZeroIn problem m p.terms
  zero_at ps place {p} all is =
      all_at (IsZeroIn problem m) (polynomials ps) place p.terms (All-from_recursion (IsZeroIn problem m) (polynomials ps) all)
      (slice_get-map (λ r. r.terms) ps place ∙ ap (option_map (λ r. r.terms)) is)

  -- one of the linear ones, which are all zero
  pub zero_linear : (ps : List Poly) (keep : List (ℤ × List ℕ) → Bool) (place : ℕ) {p : Poly} → slice_get ps place ≡ Some p → keep p.terms ≡ true
      → AllByRecursion (IsZeroIn problem m) (polynomials (filter (λ r. keep r.terms) ps)) → IsZeroIn problem m p.terms
  zero_linear ps keep place {p} is kept all =
      all_at (λ r. keep r.terms ≡ true → IsZeroIn problem m r.terms) ps place p
      (All-from_recursion (λ r. keep r.terms ≡ true → IsZeroIn problem m r.terms) ps
      (of_kept (IsZeroIn problem m) (λ r. keep r.terms) ps all)) is kept
