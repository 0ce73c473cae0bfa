-- The answers to the tests of candidates in a row, and the first of them that breaks a claim.
use Rattle.model_search.proofs.Prelude.{◌≡◌, ℕ, zero, suc, ◌+◌, ◌-◌, ◌<◌, ◌≤◌, Bool, false, List, [], ◌∷◌, length, get_or, Option, Some, None, IsNone, Result, Ok, Err, IfOk, sym, subst, ◌∙◌, arith, AllZip, range_with_len, length-range_with_len, AllZip-long, Problem, Found, NoneBreaksAt, TellsBreaks, flag_at, IsTested, AreTested, HasFlag, IsFlag, AreUnbroken, IsFirstBroken, AreTold, IsFoundAt, IsFirstFrom}

-- lists side by side
at_place : {Y : Type 0} (R : ℕ → Y → Type 0) (ys : List Y) (first n : ℕ) → AllZip R (range_with_len first n) ys → (j : ℕ) (d : Y) → j < n
    → R (first + j) (get_or ys j d)
at_place R ys first zero zipped j d within = absurd (omega (arith, within))
at_place R [] first (suc n) zipped j d within = absurd zipped
at_place R (y ∷ ys) first (suc n) zipped zero d within = subst (λ k. R k y) (omega arith) zipped.0
at_place R (y ∷ ys) first (suc n) zipped (suc j) d within =
    subst (λ k. R k (get_or ys j d)) (omega arith) (at_place R ys (first + 1) n zipped.1 j d (omega (arith, within)))

module _ {E : Type 0} (problem : Problem) (seed number : ℕ) where
  -- the answers about a claim
  pub told_from_tested : (claims : List ℕ) (found : List (Option Found)) (first place : ℕ) (answers : List (Result (Option (List Bool)) E))
      → AreTested problem seed number claims found first (length answers) answers
      → place < length claims → IsNone (get_or found place None) → AreTold problem (get_or claims place 0) seed number first place answers
  told_from_tested claims found first place answers tested within free = record {
    flags = λ j d inside. flag (first + j) (get_or answers j d) (at_place _ answers first (length answers) tested j d inside);
    each = λ j inside. told (first + j) (get_or answers j (Ok None)) (at_place _ answers first (length answers) tested j (Ok None) inside);
  }
    where
      flag : (k : ℕ) (answer : Result (Option (List Bool)) E) → IfOk answer (IsTested problem seed number claims found k) → HasFlag place answer
      flag k (Err e) is = tt
      flag k (Ok None) is = tt
      flag k (Ok (Some flags)) is = omega (arith, within, is.one_each)

      told : (k : ℕ) (answer : Result (Option (List Bool)) E) → IfOk answer (IsTested problem seed number claims found k)
          → IfOk answer (λ broken. TellsBreaks problem (get_or claims place 0) seed number k (flag_at place broken))
      told k (Err e) is = tt
      told k (Ok broken) is = is.each place within free

  module _ (claim first place : ℕ) (answers : List (Result (Option (List Bool)) E)) (told : AreTold problem claim seed number first place answers) where
    flagged : (k : ℕ) (flag : Bool) (answer : Result (Option (List Bool)) E)
        → IfOk answer (λ broken. TellsBreaks problem claim seed number k (flag_at place broken)) → IsFlag place flag answer
        → TellsBreaks problem claim seed number k flag
    flagged k flag (Err e) is here = absurd here
    flagged k flag (Ok broken) is here = subst (TellsBreaks problem claim seed number k) here is

    pub none_of_answers : (n : ℕ) → n ≤ length answers → AreUnbroken place n answers → (k : ℕ) → first ≤ k → k < first + n
        → NoneBreaksAt problem claim seed number k
    none_of_answers n few unbroken k from below =
        let j = k - first in
        let within : j < n = omega (arith, from, below) in
        subst (NoneBreaksAt problem claim seed number) (omega (arith, from))
        (flagged (first + j) false (get_or answers j (Ok None)) (told.each j (omega (arith, within, few))) (unbroken j within))

    pub first_of_answers : (j : ℕ) (f : Found) → IsFirstBroken place answers j → IsFoundAt problem claim seed number (first + j) f
        → IsFirstFrom problem claim seed number first f
    first_of_answers j f is at = record {
      found = subst (λ k. IsFoundAt problem claim seed number k f) (sym at.candidate_is) at;
      least = omega (arith, at.candidate_is);
      earlier = λ k from below. none_of_answers j (omega (arith, is.within)) is.earlier k from (omega (arith, below, at.candidate_is));
    }

  -- the answers, one for each candidate
  pub answers_are : (claims : List ℕ) (found : List (Option Found)) (first n : ℕ) (answers : List (Result (Option (List Bool)) E))
      → AreTested problem seed number claims found first n answers → length answers ≡ n
  answers_are claims found first n answers tested = AllZip-long _ (range_with_len first n) answers tested ∙ length-range_with_len first n

  -- the same answers
  pub tested_moved : (claims : List ℕ) (found other : List (Option Found)) (first n : ℕ) (answers more : List (Result (Option (List Bool)) E))
      → other ≡ found → more ≡ answers → AreTested problem seed number claims found first n answers
      → AreTested problem seed number claims other first (length more) more
  tested_moved claims found other first n answers more same_found same tested =
      subst (λ fs. AreTested problem seed number claims fs first (length more) more) (sym same_found)
      (subst (λ xs. AreTested problem seed number claims found first (length xs) xs) (sym same)
      (subst (λ k. AreTested problem seed number claims found first k answers) (sym (answers_are claims found first n answers tested)) tested))
