-- The result of the test of a candidate for claims, by its model.
use Rattle.model_search.proofs.Prelude.{◌≡◌, ◌+◌, ◌<◌, ◌≤◌, ◌↔◌, ◌⊎◌, inl, inr, ℕ, Bool, true, false, not, List, [], ◌∷◌, ◌++◌, length, get_or, Option, Some, None, IsNone, IsTrue, refl, ap, subst, true≢false, sym, ◌∙◌, arith, All, AllByRecursion, All-get_or, cases_lt, length_push, get_or_append_left, get_or_push, quiver_of, Model, Shape, Problem, Found, IsClaimNumber, IsZeroIn, assumptions_of, claim_polynomial, Refutes, IsShapeOf, IsCandidate, candidate_count, naming, NoneBreaksAt, TellsBreaks, AreBroken, AreFlags, AreOfClaims, IsTested}
use Rattle.model_search.proofs.Breaking.{named_fits, breaks_where_it_refutes, none_where_it_does_not, none_without_model}

module _ (problem : Problem) (seed number k : ℕ) (s : Shape) (of : IsShapeOf problem number s) (claims : List ℕ) (found : List (Option Found)) where
  none_tested : ((claim : ℕ) → NoneBreaksAt problem claim seed number k) → IsTested problem seed number claims found k None
  none_tested none = record { one_each = tt; each = λ place within free. none (get_or claims place 0) }

  pub tested_without_model : IsCandidate problem number s seed k None → IsTested problem seed number claims found k None
  tested_without_model is = none_tested (λ claim. none_without_model problem claim number seed k s of is)

  module _ (m : Model) (is : IsCandidate problem number s seed k (Some m)) where
    tells : (claim : ℕ) (flag : Bool) → k < candidate_count (quiver_of problem.parts.quiver) s → IsTrue flag ↔ Refutes problem (naming claim m)
        → TellsBreaks problem claim seed number k flag
    tells claim true in_range told = (naming claim m, breaks_where_it_refutes problem claim number seed k s of m is in_range (told.0 refl))
    tells claim false in_range told =
        none_where_it_does_not problem claim number seed k s of m is (λ refutes. absurd (true≢false (sym (told.1 refutes))))

    pub tested_by : k < candidate_count (quiver_of problem.parts.quiver) s → (broken : Option (List Bool)) → AreBroken problem m claims found broken
        → IsTested problem seed number claims found k broken
    tested_by in_range None other =
        none_tested (λ claim. none_where_it_does_not problem claim number seed k s of m is (λ refutes. other refutes.assumptions.zero))
    tested_by in_range (Some flags) told = record {
      one_each = told.one_each;
      each = λ place within free. tells (get_or claims place 0) (get_or flags place false) in_range (told.each place within free);
    }

    -- where the assumptions are zero, a claim that isn't is refuted
    pub flags_refute : All (IsClaimNumber problem) claims → AllByRecursion (IsZeroIn problem m) (assumptions_of problem) → (flags : List Bool)
        → AreOfClaims problem m claims found flags → AreFlags problem m claims found flags
    flags_refute numbers zero flags told = record {
      one_each = told.one_each;
      each = λ place within free.
          let claim = get_or claims place 0 in
          let fitting = named_fits problem claim number seed k s of m is (All-get_or (IsClaimNumber problem) claims place 0 within numbers) in (
            λ flag. record { assumptions = record { fitting = fitting; zero = zero }; claim = (told.each place within free).0 flag },
            λ refutes. (told.each place within free).1 refutes.claim,
          );
    }

-- the flags of the first claims
pub record TellFirst (problem : Problem) (m : Model) (claims : List ℕ) (found : List (Option Found)) (count : ℕ) (flags : List Bool) : Type 0 where
  pub size : length flags ≡ count
  pub each : (place : ℕ) → place < count → IsNone (get_or found place None)
      → IsTrue (get_or flags place false) ↔ (¬ IsZeroIn problem m (claim_polynomial problem (get_or claims place 0)))

pub tell_none : (problem : Problem) (m : Model) (claims : List ℕ) (found : List (Option Found)) (flags : List Bool) → flags ≡ []
    → TellFirst problem m claims found 0 flags
tell_none problem m claims found flags none = record { size = ap length none; each = λ place below. absurd (omega (arith, below)) }

-- and of one more
pub tell_more : (problem : Problem) (m : Model) (claims : List ℕ) (found : List (Option Found)) (count : ℕ) (flags : List Bool) (flag : Bool)
    → TellFirst problem m claims found count flags
    → (IsNone (get_or found count None) → IsTrue flag ↔ (¬ IsZeroIn problem m (claim_polynomial problem (get_or claims count 0))))
    → TellFirst problem m claims found (count + 1) (flags ++ flag ∷ [])
tell_more problem m claims found count flags flag before told = record {
  size = length_push flags flag ∙ ap (λ n. n + 1) before.size;
  each = λ place below free. go place free (cases_lt place count) (omega (arith, below));
}
  where
    go : (place : ℕ) → IsNone (get_or found place None) → (place < count) ⊎ (count ≤ place) → place ≤ count
        → IsTrue (get_or (flags ++ flag ∷ []) place false) ↔ (¬ IsZeroIn problem m (claim_polynomial problem (get_or claims place 0)))
    go place free (inl h) last =
        subst (λ b. IsTrue b ↔ (¬ IsZeroIn problem m (claim_polynomial problem (get_or claims place 0))))
        (sym (get_or_append_left flags (flag ∷ []) false place (omega (arith, before.size, h)))) (before.each place h free)
    go place free (inr h) last =
        let same : count ≡ place = omega (arith, h, last) in
        subst (λ b. IsTrue b ↔ (¬ IsZeroIn problem m (claim_polynomial problem (get_or claims place 0))))
        (sym (get_or_push flags flag false place (before.size ∙ same)))
        (subst (λ k. IsNone (get_or found k None) → IsTrue flag ↔ (¬ IsZeroIn problem m (claim_polynomial problem (get_or claims k 0)))) same told free)

-- a flag that is the opposite
pub told_not : (b : Bool) (Z : Type 0) → IsTrue b ↔ Z → IsTrue (not b) ↔ (¬ Z)
told_not true Z told = (λ other. absurd (true≢false (sym other)), λ none. absurd (none (told.0 refl)))
told_not false Z told = (λ other zero. absurd (true≢false (sym (told.1 zero))), λ none. refl)
