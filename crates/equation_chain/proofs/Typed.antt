-- One word decides whether a row is typed: either all its words are paths of a signature, or none is.
use Rattle.equation_chain.proofs.Prelude.{◌≡◌, ◌≢◌, ◌⊎◌, inl, inr, ℕ, pos, Bool, true, false, ◌&&◌, ◌||◌, List, [], ◌∷◌, ◌++◌, filter, length, slice_get, Some, refl, sym, ap, subst, ◌∙◌, arith, not, All, list_all, int_eq, and_parts, and_from, or_cases, or_left, or_right, Decides-int_eq, All-head, All-weaker, filter_passes, recursion_from_All, ℤ_discrete, Term, coefficient_of, Quiver, leads, is_path, IsPath, Row, generator_at, is_typed_row, HasSignature, at_word, Fits, fits_from_path, path_from_fits, IsShaped, IsNonzero, recursion_from_IsDescending, AreDistinct, distinct-descending, first_coefficient, words_listed, quiver_of, CertRow, Certificate, row_of, Problem, polynomials, generators_have_signatures, claim_ends, generator_of, is_empty, counts, is_typed, is_step, steps_of, IsTypedStep, StepsAreTyped}
use Rattle.equation_chain.proofs.Generators.{signed_or_zero, generator_shaped}

pub same_test : (a b : Bool) → (a ≡ true → b ≡ true) → (b ≡ true → a ≡ true) → a ≡ b
same_test true b there back = sym (there refl)
same_test false true there back = back refl
same_test false false there back = refl

-- a word that has a letter is a path where it leads
path_is_leads : (q : Quiver) (u v a : ℕ) (l w r : List ℕ) → is_path q u v (l ++ ((a ∷ w) ++ r)) ≡ leads q u v (l ++ ((a ∷ w) ++ r))
path_is_leads q u v a [] w r = refl
path_is_leads q u v a (b ∷ l) w r = refl

module _ (q : Quiver) (u v : ℕ) (generators : List (List Term)) (row : Row) where
  abbrev words : List Term
  words = generator_at generators row.generator

  abbrev passes : List ℕ → Bool
  passes w = int_eq (coefficient_of words w) (pos 0) || is_path q u v (row.left ++ (w ++ row.right))

  -- each word of a typed row is a path
  pub words_are_paths : is_typed_row q u v generators row ≡ true → (w : List ℕ) → coefficient_of words w ≢ pos 0 → is_path q u v (row.left ++ (w ++ row.right)) ≡ true
  words_are_paths typed w there = go (at_word passes words w typed)
    where
      pick : (int_eq (coefficient_of words w) (pos 0) ≡ true) ⊎ (is_path q u v (row.left ++ (w ++ row.right)) ≡ true) → is_path q u v (row.left ++ (w ++ row.right)) ≡ true
      pick (inl nothing) = absurd (there ((Decides-int_eq _ _).0 nothing))
      pick (inr path) = path

      go : (passes w ≡ true) ⊎ (coefficient_of words w ≡ pos 0) → is_path q u v (row.left ++ (w ++ row.right)) ≡ true
      go (inl h) = pick (or_cases _ _ h)
      go (inr nothing) = absurd (there nothing)

  module _ (has : HasSignature q words) where
    -- where the row's words fit, each word is a path
    fits_is_typed : Fits q u v has.source has.target row.left row.right → is_typed_row q u v generators row ≡ true
    fits_is_typed fits = every words
      where
        every : (xs : List Term) → list_all (λ t. passes t.1) xs ≡ true
        every [] = refl
        every (t ∷ xs) = and_from _ _ (go (ℤ_discrete (coefficient_of words t.1) (pos 0))) (every xs)
          where
            go : Dec (coefficient_of words t.1 ≡ pos 0) → passes t.1 ≡ true
            go (yes nothing) = or_left _ _ ((Decides-int_eq _ _).1 nothing)
            go (no there) = or_right _ _ (path_from_fits q u v has.source has.target row.left t.1 row.right fits (has.typed.at t.1 there))

    -- and one word that leads from end to end shows that they fit
    pub one_decides : (w : List ℕ) → coefficient_of words w ≢ pos 0 → is_typed_row q u v generators row ≡ leads q u v (row.left ++ (w ++ row.right))
    one_decides w there = go w there (has.typed.at w there)
      where
        go : (w : List ℕ) → coefficient_of words w ≢ pos 0 → is_path q has.source has.target w ≡ true → is_typed_row q u v generators row ≡ leads q u v (row.left ++ (w ++ row.right))
        go [] there path = absurd cc
        go (a ∷ w) there path =
            let same = path_is_leads q u v a row.left w row.right in
            same_test (is_typed_row q u v generators row) (leads q u v (row.left ++ ((a ∷ w) ++ row.right)))
            (λ typed. sym same ∙ words_are_paths typed (a ∷ w) there)
            (λ lead. fits_is_typed (fits_from_path q u v has.source has.target row.left (a ∷ w) row.right path (same ∙ lead)))

-- the rows of a problem
module _ (problem : Problem) (claim : ℕ) (row : CertRow) where
  abbrev drawn : Quiver
  drawn = quiver_of problem.parts.quiver

  shaped : IsShaped (generator_of problem row)
  shaped = generator_shaped problem.generators row.generator

  distinct : AreDistinct (generator_of problem row)
  distinct = distinct-descending (generator_of problem row) (recursion_from_IsDescending (generator_of problem row) shaped.descending)

  signed : (t : Term) (rest : List Term) → generator_of problem row ≡ t ∷ rest → HasSignature drawn (generator_of problem row)
  signed t rest is = go (signed_or_zero drawn (polynomials problem.generators) row.generator (generators_have_signatures problem.parts problem.posed problem.generators problem.closed))
    where
      go : HasSignature drawn (generator_of problem row) ⊎ (generator_of problem row ≡ []) → HasSignature drawn (generator_of problem row)
      go (inl has) = has
      go (inr none) = let both : (let p : List Term = [] in p) ≡ t ∷ rest = sym none ∙ is in absurd cc

  -- the first word of the generator has a coefficient
  first_there : (t : Term) (rest : List Term) → generator_of problem row ≡ t ∷ rest → coefficient_of (generator_of problem row) t.1 ≢ pos 0
  first_there t rest is none =
      let apart : AreDistinct (t ∷ rest) = subst AreDistinct is distinct in
      All-head IsNonzero t rest (subst (All IsNonzero) is shaped.nonzero) (sym (first_coefficient t rest apart.0) ∙ sym (ap (λ p. coefficient_of p t.1) is) ∙ none)

  -- it decides whether the row is typed
  pub first_decides : (t : Term) (rest : List Term) → generator_of problem row ≡ t ∷ rest
      → is_typed problem claim row ≡ leads drawn (claim_ends problem claim).0 (claim_ends problem claim).1 (row.left ++ (t.1 ++ row.right))
  first_decides t rest is =
      one_decides drawn (claim_ends problem claim).0 (claim_ends problem claim).1 (polynomials problem.generators) (row_of row) (signed t rest is) t.1 (first_there t rest is)

  -- a step is typed
  pub step_is_typed : is_step problem claim row ≡ true → IsTypedStep problem claim row
  step_is_typed is =
      let parts = and_parts (counts (polynomials problem.generators) (row_of row)) (is_typed problem claim row) is in
      let both = and_parts (not (int_eq row.coef (pos 0))) (not (is_empty (generator_of problem row))) parts.0 in
      record {
        coefficient = λ zero. not_both (int_eq row.coef (pos 0)) ((Decides-int_eq row.coef (pos 0)).1 zero) both.0;
        generator = λ none. not_both (is_empty (generator_of problem row)) (ap is_empty none) both.1;
        words = recursion_from_All _ (generator_of problem row) (words_listed (λ w. IsPath drawn (claim_ends problem claim).0 (claim_ends problem claim).1 (row.left ++ (w ++ row.right))) (generator_of problem row) distinct shaped.nonzero
            (words_are_paths drawn (claim_ends problem claim).0 (claim_ends problem claim).1 (polynomials problem.generators) (row_of row) parts.1));
      }
    where
      not_both : (b : Bool) → b ≡ true → not b ≡ true → ⊥
      not_both true one other = absurd cc
      not_both false one other = absurd cc

-- what passes the test has what that shows
pub all_kept : {X : Type 0} (P : X → Type 0) (test : X → Bool) → ((x : X) → test x ≡ true → P x) → (xs : List X) → All P (filter test xs)
all_kept P test shows xs = All-weaker (λ x. test x ≡ true) P shows (filter test xs) (filter_passes test xs)

pub each_typed : (problem : Problem) (c : Certificate) → All (IsTypedStep problem c.claim) (steps_of problem c)
each_typed problem c = all_kept (IsTypedStep problem c.claim) (is_step problem c.claim) (step_is_typed problem c.claim) c.rows

pub steps_typed : StepsAreTyped
steps_typed problem c = recursion_from_All (IsTypedStep problem c.claim) (steps_of problem c) (each_typed problem c)

-- the test of a row
counts_when : (gs : List (List Term)) (row : Row) (t : Term) (rest : List Term) → generator_at gs row.generator ≡ t ∷ rest → row.coefficient ≢ pos 0 → counts gs row ≡ true
counts_when gs row t rest is nonzero =
    and_from (not (int_eq row.coefficient (pos 0))) (not (is_empty (generator_at gs row.generator))) (unequal (int_eq row.coefficient (pos 0)) (λ e. nonzero ((Decides-int_eq row.coefficient (pos 0)).0 e))) (ap (λ g. not (is_empty g)) is)
  where
    unequal : (b : Bool) → (b ≡ true → ⊥) → not b ≡ true
    unequal true never = absurd (never refl)
    unequal false never = refl

-- where both coefficient and generator are not zero, the first word decides
pub step_by_first : (problem : Problem) (claim : ℕ) (row : CertRow) (t : Term) (u v : ℕ) → slice_get (generator_of problem row) 0 ≡ Some t → row.coef ≢ pos 0 → (u, v) ≡ claim_ends problem claim
    → leads (quiver_of problem.parts.quiver) u v (row.left ++ (t.1 ++ row.right)) ≡ is_step problem claim row
step_by_first problem claim row t u v there nonzero ends = go (generator_of problem row) refl there
  where
    go : (g : List Term) → generator_of problem row ≡ g → slice_get g 0 ≡ Some t → leads (quiver_of problem.parts.quiver) u v (row.left ++ (t.1 ++ row.right)) ≡ is_step problem claim row
    go [] is first = absurd cc
    go (s ∷ rest) is first =
        let same : s ≡ t = cc in
        let typed = first_decides problem claim row t rest (is ∙ ap (λ (x : Term). x ∷ rest) same) in
        ap (λ (e : ℕ × ℕ). leads (quiver_of problem.parts.quiver) e.0 e.1 (row.left ++ (t.1 ++ row.right))) ends
        ∙ sym typed
        ∙ ap (λ b. b && is_typed problem claim row) (sym (counts_when (polynomials problem.generators) (row_of row) s rest is nonzero))

-- a row whose coefficient or generator is zero is no step
pub zero_is_none : (problem : Problem) (claim : ℕ) (row : CertRow) → row.coef ≡ pos 0 → is_step problem claim row ≡ false
zero_is_none problem claim row nothing =
    ap (λ b. (not b && not (is_empty (generator_of problem row))) && is_typed problem claim row) ((Decides-int_eq row.coef (pos 0)).1 nothing)

pub empty_is_none : (problem : Problem) (claim : ℕ) (row : CertRow) → generator_of problem row ≡ [] → is_step problem claim row ≡ false
empty_is_none problem claim row none =
    ap (λ (g : List Term). (not (int_eq row.coef (pos 0)) && not (is_empty g)) && is_typed problem claim row) none
    ∙ ap (λ b. b && is_typed problem claim row) (and_false (not (int_eq row.coef (pos 0))))
  where
    and_false : (b : Bool) → (b && false) ≡ false
    and_false true = refl
    and_false false = refl

pub no_terms : (g : List Term) → length g ≡ 0 → g ≡ []
no_terms [] none = refl
no_terms (t ∷ g) none = absurd (omega arith)
