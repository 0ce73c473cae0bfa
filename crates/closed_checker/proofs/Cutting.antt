-- A list that is cut where a test fails for the first time and from there on.
use Rattle.closed_checker.proofs.Prelude.{◌≡◌, ◌≢◌, ◌⊎◌, inl, inr, ℕ, ◌+◌, ◌<◌, ◌≤◌, Bool, true, false, not, nat_lt, nat_eq, cond, List, [], ◌∷◌, ◌++◌, length, take, drop, filter, refl, sym, ap, ap₂, ◌∙◌, arith, All, IsPartitionPoint, cases_lt, lt-ltb, le-ltb, eqb_tells, append-nil, take-append-drop, length-take-le, length-drop, get_or-take, get_or-drop, All-head, All-tail, filter-append}

module _ {X : Type 0} (p : X → Bool) where
  filter_all : (xs : List X) → All (λ x. p x ≡ true) xs → filter p xs ≡ xs
  filter_all [] each = refl
  filter_all (x ∷ xs) each =
      ap (λ b. cond b (x ∷ filter p xs) (filter p xs)) (All-head (λ x. p x ≡ true) x xs each)
      ∙ ap (λ ys. x ∷ ys) (filter_all xs (All-tail (λ x. p x ≡ true) x xs each))

  filter_none : (xs : List X) → All (λ x. p x ≡ false) xs → filter p xs ≡ []
  filter_none [] each = refl
  filter_none (x ∷ xs) each =
      ap (λ b. cond b (x ∷ filter p xs) (filter p xs)) (All-head (λ x. p x ≡ false) x xs each)
      ∙ filter_none xs (All-tail (λ x. p x ≡ false) x xs each)

module _ {X : Type 0} (p : X → Bool) (xs : List X) (i : ℕ) (within : i ≤ length xs) (point : IsPartitionPoint (λ x. p x ≡ true) (λ x. p x ≡ false) xs i) where
  front : All (λ x. p x ≡ true) (take i xs)
  front k d inside =
      let early : k < i = omega (arith, inside, length-take-le i xs within) in
      ap p (get_or-take i xs k d early) ∙ point.0 k d (omega arith) early

  back : All (λ x. p x ≡ false) (drop i xs)
  back k d inside = ap p (get_or-drop i xs k d) ∙ point.1 (i + k) d (omega arith) (omega (arith, inside, length-drop i xs))

  pub cut-front : take i xs ≡ filter p xs
  cut-front = sym (
      ap (filter p) (sym (take-append-drop i xs))
      ∙ filter-append p (take i xs) (drop i xs)
      ∙ ap₂ ◌++◌ (filter_all p (take i xs) front) (filter_none p (drop i xs) back)
      ∙ append-nil (take i xs)
      )

  pub cut-back : drop i xs ≡ filter (λ x. not (p x)) xs
  cut-back = sym (
      ap (filter (λ x. not (p x))) (sym (take-append-drop i xs))
      ∙ filter-append (λ x. not (p x)) (take i xs) (drop i xs)
      ∙ ap₂ ◌++◌ (filter_none (λ x. not (p x)) (take i xs) (λ k d inside. ap not (front k d inside)))
      (filter_all (λ x. not (p x)) (drop i xs) (λ k d inside. ap not (back k d inside)))
      )

-- those between two bounds
module _ {X : Type 0} (rank : X → ℕ) (n : ℕ) where
  abbrev below : X → Bool
  below x = nat_lt (rank x) (n + 1)

  abbrev above : X → Bool
  above x = not (nat_lt (rank x) n)

  abbrev at_rank : X → Bool
  at_rank x = nat_eq (rank x) n

  module _ (x : X) (least same : List X) (rest : filter below least ≡ same) where
    tested : (b : Bool) → below x ≡ b → filter below (x ∷ least) ≡ cond b (x ∷ same) same
    tested b e = ap₂ (λ c ys. cond c (x ∷ ys) ys) e rest

    with_one : (rank x < n) ⊎ (n ≤ rank x) → ((at_rank x ≡ true) × (rank x ≡ n)) ⊎ ((at_rank x ≡ false) × (rank x ≢ n))
        → filter below (cond (not (nat_lt (rank x) n)) (x ∷ least) least) ≡ cond (at_rank x) (x ∷ same) same
    with_one (inl less) (inl level) = absurd (omega (arith, less, level.1))
    with_one (inl less) (inr other) = rw (lt-ltb (rank x) n less, other.0) rest
    with_one (inr past) (inl level) = rw (le-ltb (rank x) n past, level.0) (tested true (lt-ltb (rank x) (n + 1) (omega (arith, level.1))))
    with_one (inr past) (inr other) = rw (le-ltb (rank x) n past, other.0) (tested false (le-ltb (rank x) (n + 1) (omega (arith, past, other.1))))

  -- of those whose number is at least n, those whose number is at most n are those whose number is n
  pub filter-between : (xs : List X) → filter below (filter above xs) ≡ filter at_rank xs
  filter-between [] = refl
  filter-between (x ∷ xs) = with_one x (filter above xs) (filter at_rank xs) (filter-between xs) (cases_lt (rank x) n) (eqb_tells (rank x) n)
