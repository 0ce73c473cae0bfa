-- The listed places are those at which an end of the left word is a beginning of the right one.
use Rattle.word_core.proofs.Prelude.{◌≡◌, ◌≢◌, ◌⊎◌, inl, inr, ℕ, zero, suc, ◌+◌, ◌-◌, ◌<◌, ◌≤◌, Bool, true, false, List, [], ◌∷◌, ◌++◌, length, take, drop, cond, sym, refl, subst, ap, ◌∙◌, ◌↔◌, arith, nat_eq, drop-append_seam, take-append_seam, eqb_tells, Decides-and, Decides-ltb, Decides-eqb, Decides-like, length-append, length-drop, length-take-le, take-append-drop, All-filter, All-contains, All-from_get_or, Contains-append_right, filter_passes, get_or-range_with_len, length-range_with_len, slice_eq-Decides, Decides, All, Contains, range_with_len, overlaps_at, overlap_places, OverlapsAt, filter}

module _ (left right : List ℕ) (place : ℕ) where
  -- the letters from the place on are fewer than those of the right word, which begins with them
  abbrev BeginsRight : Type 0
  BeginsRight = (length left - place < length right) × (drop place left ≡ take (length left - place) right)

  overlap_cut : 0 < place → place < length left → BeginsRight → OverlapsAt left right place
  overlap_cut some inside begins = record {
    before = take place left;
    shared = drop place left;
    after = drop (length left - place) right;
    left_splits = sym (take-append-drop place left);
    right_splits = sym (take-append-drop (length left - place) right) ∙ ap (λ w. w ++ drop (length left - place) right) (sym begins.1);
    at_place = length-take-le place left (omega arith);
    before_letters = omega (arith, length-take-le place left (omega arith));
    shared_letters = omega (arith, length-drop place left);
    after_letters = omega (arith, length-drop (length left - place) right, begins.0);
  }

  overlap_begins : OverlapsAt left right place → BeginsRight
  overlap_begins at =
      let left_length = ap length at.left_splits ∙ length-append at.before at.shared in
      let right_length = ap length at.right_splits ∙ length-append at.shared at.after in
      let rest : length left - place ≡ length at.shared = omega (arith, left_length, at.at_place) in (
        omega (arith, right_length, rest, at.after_letters),
        ap (drop place) at.left_splits
            ∙ ap (λ n. drop n (at.before ++ at.shared)) (sym at.at_place)
            ∙ drop-append_seam at.before at.shared
            ∙ sym (ap (take (length left - place)) at.right_splits ∙ ap (λ n. take n (at.shared ++ at.after)) rest ∙ take-append_seam at.shared at.after),
      )

  -- the test of a place inside the left word decides whether the words overlap there
  pub overlaps_at-Decides : 0 < place → place < length left → Decides (overlaps_at left right place) (OverlapsAt left right place)
  overlaps_at-Decides some inside =
      Decides-like _ (overlap_cut some inside) overlap_begins
      (Decides-and _ _ (Decides-ltb (length left - place) (length right))
      (slice_eq-Decides Decides-eqb (drop place left) (take (length left - place) right) _ refl))

-- what a list has, it has after another item
contains_behind : (b : Bool) (x k : ℕ) (xs : List ℕ) → Contains xs k → Contains (cond b (x ∷ xs) xs) k
contains_behind true x k xs at = Contains-append_right (x ∷ []) xs k at
contains_behind false x k xs at = at

contains_first : (b : Bool) (x k : ℕ) (xs : List ℕ) → b ≡ true → x ≡ k → Contains (cond b (x ∷ xs) xs) k
contains_first true x k xs passes same = (0, omega arith, same)
contains_first false x k xs passes same = absurd (cc)

-- a number of the range that passes the test is in the list
contains_passed : (p : ℕ → Bool) (n a k : ℕ) → a ≤ k → k < a + n → p k ≡ true → Contains (filter p (range_with_len a n)) k
contains_passed p zero a k low high passes = absurd (omega arith)
contains_passed p (suc n) a k low high passes = go (eqb_tells a k) (λ further. contains_passed p n (a + 1) k (omega arith) (omega arith) passes)
  where
    rest : List ℕ
    rest = filter p (range_with_len (a + 1) n)

    go : ((nat_eq a k ≡ true) × (a ≡ k)) ⊎ ((nat_eq a k ≡ false) × (a ≢ k)) → (a < k → Contains rest k) → Contains (filter p (range_with_len a (suc n))) k
    go (inl same) later = contains_first (p a) a k rest (ap p same.1 ∙ passes) same.1
    go (inr other) later = contains_behind (p a) a k rest (later (omega (arith, other.1)))

-- the range's numbers
range_within : (a n : ℕ) → All (λ k. (a ≤ k) × (k < a + n)) (range_with_len a n)
range_within a n = All-from_get_or (λ k. (a ≤ k) × (k < a + n)) (range_with_len a n) 0 (λ i inside.
    let counted : i < n = subst (λ m. i < m) (length-range_with_len a n) inside in
    subst (λ k. (a ≤ k) × (k < a + n)) (sym (get_or-range_with_len a n i 0 counted)) (omega arith, omega arith))

-- a number in the list is in the range, and passes the test
kept_within : (p : ℕ → Bool) (n a k : ℕ) → Contains (filter p (range_with_len a n)) k → (a ≤ k) × (k < a + n)
kept_within p n a k at = All-contains (λ j. (a ≤ j) × (j < a + n)) _ k (All-filter p (λ j. (a ≤ j) × (j < a + n)) _ (range_within a n)) at

kept_passes : (p : ℕ → Bool) (xs : List ℕ) (k : ℕ) → Contains (filter p xs) k → p k ≡ true
kept_passes p xs k at = All-contains (λ j. p j ≡ true) (filter p xs) k (filter_passes p xs) at

-- a place is listed exactly where the words overlap there
pub overlap_places-tells : (left right : List ℕ) (place : ℕ) → Contains (overlap_places left right) place ↔ OverlapsAt left right place
overlap_places-tells left right place = (listed_overlaps, overlap_listed)
  where
    listed_overlaps : Contains (overlap_places left right) place → OverlapsAt left right place
    listed_overlaps at =
        let within = kept_within (overlaps_at left right) (length left - 1) 1 place at in
        let inside : place < length left = omega (arith, within.0, within.1) in
        (overlaps_at-Decides left right place (omega (arith, within.0)) inside).0 (kept_passes (overlaps_at left right) (range_with_len 1 (length left - 1)) place at)

    overlap_listed : OverlapsAt left right place → Contains (overlap_places left right) place
    overlap_listed at =
        let left_length = ap length at.left_splits ∙ length-append at.before at.shared in
        let some : 0 < place = omega (arith, at.at_place, at.before_letters) in
        let inside : place < length left = omega (arith, left_length, at.at_place, at.shared_letters) in
        contains_passed (overlaps_at left right) (length left - 1) 1 place some (omega (arith, inside)) ((overlaps_at-Decides left right place some inside).1 at)
