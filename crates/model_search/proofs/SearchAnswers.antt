-- A claim has one least breaking candidate at most, and one or none, and such a candidate is a model.
use Rattle.model_search.proofs.Prelude.{◌≡◌, ℕ, zero, suc, ◌+◌, ◌<◌, ◌≤◌, length, Option, Some, None, slice_get, ◌⊎◌, inl, inr, refl, sym, ap, subst, ◌∙◌, arith, cases_lt, cases_eq, slice_get_within, quiver_of, letters-quiver_of, Model, Shape, Problem, IsModel, Refutes, IsShapeOf, IsCandidate, candidate_count, naming, Breaks, IsEarlier, NoneBreaks, LeastBreakingIsUnique, NoneBreaksLeavesNoLeast, HasLeastBreaking, EachSearchHasAnAnswer, BreakingCandidatesRefute, NoneBreaksAt, shape_is_one, each_number_has_a_candidate, IsDecided, refutes_decided}
use Rattle.model_search.proofs.Breaking.{named_model, breaks_where_it_refutes, none_without_model, none_where_it_does_not, breaking_model_is_one}

-- of two places one is earlier, or they are one
either_earlier : (n k n' k' : ℕ) → IsEarlier n k n' k' ⊎ IsEarlier n' k' n k ⊎ ((n ≡ n') × (k ≡ k'))
either_earlier n k n' k' = shapes (cases_lt n n') (cases_lt n' n)
  where
    numbers : n ≡ n' → (k < k') ⊎ (k' ≤ k) → (k' < k) ⊎ (k ≤ k') → IsEarlier n k n' k' ⊎ IsEarlier n' k' n k ⊎ ((n ≡ n') × (k ≡ k'))
    numbers same (inl h) d = inl (inr (same, h))
    numbers same (inr h) (inl d) = inr (inl (inr (sym same, d)))
    numbers same (inr h) (inr d) = inr (inr (same, omega (arith, h, d)))

    shapes : (n < n') ⊎ (n' ≤ n) → (n' < n) ⊎ (n ≤ n') → IsEarlier n k n' k' ⊎ IsEarlier n' k' n k ⊎ ((n ≡ n') × (k ≡ k'))
    shapes (inl h) d = inl (inl h)
    shapes (inr h) (inl d) = inr (inl (inl d))
    shapes (inr h) (inr d) = numbers (omega (arith, h, d)) (cases_lt k k') (cases_lt k' k)

pub least_breaking_is_unique : LeastBreakingIsUnique
least_breaking_is_unique problem claim seed n k n' k' m m' one other = go (either_earlier n k n' k')
  where
    go : IsEarlier n k n' k' ⊎ IsEarlier n' k' n k ⊎ ((n ≡ n') × (k ≡ k')) → (n ≡ n') × (k ≡ k') × (m ≡ m')
    go (inl earlier) = absurd (other.least n k m earlier one.breaks)
    go (inr (inl earlier)) = absurd (one.least n' k' m' earlier other.breaks)
    go (inr (inr same)) = (
      same.0,
      same.1,
      breaking_model_is_one problem claim n seed k m m' one.breaks
          (subst (λ x. Breaks problem claim seed x k m') (sym same.0)
          (subst (λ x. Breaks problem claim seed n' x m') (sym same.1) other.breaks)),
    )

pub none_breaks_leaves_no_least : NoneBreaksLeavesNoLeast
none_breaks_leaves_no_least problem claim seed n k m none least = none n k m least.breaks

-- the first number below the end with something, or nothing at any
pub record First (P : ℕ → Type 0) (Q : ℕ → Type 0) : Type 0 where
  pub place : ℕ
  pub here : P place
  pub earlier : (k : ℕ) → k < place → Q k

pub first_or_none : (P Q : ℕ → Type 0) → ((k : ℕ) → P k ⊎ Q k) → (end : ℕ) → First P Q ⊎ ((k : ℕ) → k < end → Q k)
first_or_none P Q each zero = inr (λ k below. absurd (omega (arith, below)))
first_or_none P Q each (suc n) = go (first_or_none P Q each n) (each n)
  where
    go : First P Q ⊎ ((k : ℕ) → k < n → Q k) → P n ⊎ Q n → First P Q ⊎ ((k : ℕ) → k < suc n → Q k)
    go (inl first) d = inl first
    go (inr none) (inl here) = inl (record { place = n; here = here; earlier = none })
    go (inr none) (inr here) = inr (λ k below. last k below (cases_eq k n))
      where
        last : (k : ℕ) → k < suc n → (k ≡ n) ⊎ (k ≡ n → ⊥) → Q k
        last k below (inl same) = subst Q (sym same) here
        last k below (inr other) = none k (omega (arith, below, other))

module _ (problem : Problem) (claim seed : ℕ) where
  abbrev count : Shape → ℕ
  count s = candidate_count (quiver_of problem.parts.quiver) s

  abbrev BreaksAt : ℕ → ℕ → Type 0
  BreaksAt number k = (m : Model) × Breaks problem claim seed number k m

  abbrev NoneAt : ℕ → ℕ → Type 0
  NoneAt number k = NoneBreaksAt problem claim seed number k

  -- a candidate in range breaks the claim or doesn't
  candidate_decided : (number k : ℕ) (s : Shape) → IsShapeOf problem number s → k < count s → BreaksAt number k ⊎ NoneAt number k
  candidate_decided number k s of in_range =
      let one = each_number_has_a_candidate problem number s seed k of in
      go one.0 one.1
    where
      judged : (m : Model) → IsCandidate problem number s seed k (Some m) → IsDecided (Refutes problem (naming claim m))
          → BreaksAt number k ⊎ NoneAt number k
      judged m is (inl refutes) = inl (naming claim m, breaks_where_it_refutes problem claim number seed k s of m is in_range refutes)
      judged m is (inr other) = inr (none_where_it_does_not problem claim number seed k s of m is other)

      go : (c : Option Model) → IsCandidate problem number s seed k c → BreaksAt number k ⊎ NoneAt number k
      go None is = inr (none_without_model problem claim number seed k s of is)
      go (Some m) is = judged m is (refutes_decided problem (naming claim m))

  -- and so does any number
  number_decided : (number : ℕ) (s : Shape) → IsShapeOf problem number s → (k : ℕ) → BreaksAt number k ⊎ NoneAt number k
  number_decided number s of k = go (cases_lt k (count s))
    where
      go : (k < count s) ⊎ (count s ≤ k) → BreaksAt number k ⊎ NoneAt number k
      go (inl in_range) = candidate_decided number k s of in_range
      go (inr past) = inr (λ m b.
          let in_range = subst (λ t. k < count t) (shape_is_one problem number b.shape s b.numbered of) b.in_range in
          absurd (omega (arith, past, in_range)))

  abbrev FirstOf : ℕ → Type 0
  FirstOf number = First (BreaksAt number) (NoneAt number)

  abbrev NoneOf : ℕ → Type 0
  NoneOf number = (k : ℕ) → NoneAt number k

  -- a shape has a first breaking candidate or none
  shape_decided : (number : ℕ) (s : Shape) → IsShapeOf problem number s → FirstOf number ⊎ NoneOf number
  shape_decided number s of = go (first_or_none (BreaksAt number) (NoneAt number) (number_decided number s of) (count s))
    where
      go : FirstOf number ⊎ ((k : ℕ) → k < count s → NoneAt number k) → FirstOf number ⊎ NoneOf number
      go (inl first) = inl first
      go (inr none) = inr (λ k m b. none k (subst (λ t. k < count t) (shape_is_one problem number b.shape s b.numbered of) b.in_range) m b)

  -- where there is no shape, there is no candidate
  no_shape : (number : ℕ) → ((s : Shape) → ¬ IsShapeOf problem number s) → NoneOf number
  no_shape number none k m b = none b.shape b.numbered

  shapes_decided : (number : ℕ) → FirstOf number ⊎ NoneOf number
  shapes_decided zero = inr (no_shape zero (λ s of. absurd (omega (arith, of.numbered))))
  shapes_decided (suc before) = go (slice_get problem.parts.shapes before) refl
    where
      next : suc before ≡ before + 1
      next = omega arith

      go : (o : Option Shape) → slice_get problem.parts.shapes before ≡ o → FirstOf (suc before) ⊎ NoneOf (suc before)
      go (Some s) there = shape_decided (suc before) s (record { before = before; numbered = next; there = there })
      go None past = inr (no_shape (suc before) (λ s of. none s of.there (omega (arith, of.numbered, next))))
        where
          none : (s : Shape) {n : ℕ} → slice_get problem.parts.shapes n ≡ Some s → n ≡ before → ⊥
          none s there same = let here = sym past ∙ ap (slice_get problem.parts.shapes) (sym same) ∙ there in absurd (cc)

  answer : HasLeastBreaking problem claim seed ⊎ NoneBreaks problem claim seed
  answer = go (first_or_none FirstOf NoneOf shapes_decided (length problem.parts.shapes + 1))
    where
      go : First FirstOf NoneOf ⊎ ((number : ℕ) → number < length problem.parts.shapes + 1 → NoneOf number)
          → HasLeastBreaking problem claim seed ⊎ NoneBreaks problem claim seed
      go (inl first) = inl (record {
        number = first.place;
        k = first.here.place;
        model = first.here.here.0;
        least = record { breaks = first.here.here.1; least = least };
      })
        where
          least : (number k : ℕ) (m : Model) → IsEarlier number k first.place first.here.place → ¬ Breaks problem claim seed number k m
          least number k m (inl earlier) b = first.earlier number earlier k m b
          least number k m (inr same) b = first.here.earlier k same.1 m (subst (λ n. Breaks problem claim seed n k m) same.0 b)
      go (inr none) = inr (λ number k m b. none number (inside b) k m b)
        where
          inside : {number k : ℕ} {m : Model} (b : Breaks problem claim seed number k m) → number < length problem.parts.shapes + 1
          inside b = omega (arith, b.numbered.numbered, slice_get_within problem.parts.shapes b.numbered.before b.shape b.numbered.there)

pub each_search_has_an_answer : EachSearchHasAnAnswer
each_search_has_an_answer problem claim seed = answer problem claim seed

-- models
pub breaking_candidates_refute : BreakingCandidatesRefute
breaking_candidates_refute problem claim seed number k m b =
    let q = quiver_of problem.parts.quiver in
    let model : IsModel q m = subst (IsModel q) (sym b.named)
    (named_model problem claim number seed k b.shape b.numbered b.candidate b.is_candidate) in
    record {
      model = model;
      sides = model.side_of_each;
      maps = model.place_of_each ∙ letters-quiver_of problem.parts.quiver;
      named = ap (λ x. x.claim) b.named;
      refutes = b.refutes;
    }
