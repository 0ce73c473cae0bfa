-- What is 0 outside of a stretch of a row stays as it is, and where a row's first factor can stand after a step.
use Rattle.matrix_models.proofs.Prelude.{◌≡◌, ℕ, zero, suc, ◌+◌, ◌-◌, ◌*◌, ◌%◌, ◌<◌, ◌≤◌, List, length, get_or, set, Option, Some, None, ◌⊎◌, inl, inr, refl, sym, ap, ap₂, subst, ◌∙◌, arith, mul-zero, zero-mul, bit_or, cases_eq, cases_lt, le_or_l, le_or_r, get_or-set_same, get_or-set_other, get_or_past, length-set, zero-mod, total, IsPivot, HasNoFactor, LiesIn, AreFirsts}
use Rattle.matrix_models.proofs.Rows.{no_factor_sum}

-- a number that becomes 0, or is 0
pub none_set : (place : ℕ) (row : List ℕ) (k : ℕ) → get_or row k 0 ≡ 0 → get_or (set row place 0) k 0 ≡ 0
none_set place row k none = go (cases_eq k place) (cases_lt place (length row))
  where
    go : (k ≡ place) ⊎ (k ≡ place → ⊥) → (place < length row) ⊎ (length row ≤ place) → get_or (set row place 0) k 0 ≡ 0
    go (inl here) (inl within) = ap (λ x. get_or (set row place 0) x 0) here ∙ get_or-set_same row place 0 0 within
    go (inl here) (inr past) = get_or_past (set row place 0) k 0 (omega (arith, length-set row place 0, past, here))
    go (inr other) _ = get_or-set_other row place k 0 0 other ∙ none

-- a multiple of 0
pub nothing_added : (t x y : ℕ) → y ≡ 0 → x ≡ x + t * y
nothing_added t x y none = sym (ap (λ z. x + z) (ap (λ z. t * z) none ∙ mul-zero t) ∙ omega arith)

-- a product with 0
pub nothing_scaled : (m t x : ℕ) → x ≡ 0 → 0 ≡ (x * t) % m
nothing_scaled m t x none = sym (ap (λ z. (z * t) % m) none ∙ ap (λ z. z % m) (zero-mul t) ∙ zero-mod m)

-- the sum before the first factor
pub none_before_sum : (m first : ℕ) (w : ℕ → ℕ) (row : List ℕ) → HasNoFactor first row → 0 ≡ total first (λ k. get_or row k 0 * w k) % m
none_before_sum m first w row none = sym (ap (λ x. x % m) (no_factor_sum first w row none) ∙ zero-mod m)

-- the first factor of a pivot is not behind its place
pub first_within : (n place first : ℕ) (row : List ℕ) → IsPivot n place row → HasNoFactor first row → first ≤ place
first_within n place first row is_pivot none = go (cases_lt place first)
  where
    go : (place < first) ⊎ (first ≤ place) → first ≤ place
    go (inl behind) = absurd (omega (arith, none place behind, is_pivot.one))
    go (inr within) = within

-- a pivot lies in the stretch up to its place
pub pivot_lies : (n place first : ℕ) (row : List ℕ) → IsPivot n place row → HasNoFactor first row → LiesIn n first place row
pivot_lies n place first row is_pivot none =
    record { order = first_within n place first row is_pivot none; before = none; behind = is_pivot.last }

-- a row whose entries are done before a place, where there is nothing to do from there on
pub done_before : (f : ℕ → ℕ) (old now : List ℕ) (n place : ℕ) → ((k : ℕ) → k < place → get_or now k 0 ≡ f k)
    → ((k : ℕ) → place ≤ k → get_or now k 0 ≡ get_or old k 0) → ((k : ℕ) → place ≤ k → k < n → get_or old k 0 ≡ f k)
    → (k : ℕ) → k < n → get_or now k 0 ≡ f k
done_before f old now n place done rest behind k within = go (cases_lt k place)
  where
    go : (k < place) ⊎ (place ≤ k) → get_or now k 0 ≡ f k
    go (inl before) = done k before
    go (inr past) = rest k past ∙ behind k past within

-- and one whose entry at the place is done too
pub done_with : (f : ℕ → ℕ) (old now : List ℕ) (n place value : ℕ) → place < length now → value ≡ f place
    → ((k : ℕ) → k < place → get_or now k 0 ≡ f k) → ((k : ℕ) → place ≤ k → get_or now k 0 ≡ get_or old k 0)
    → ((k : ℕ) → place < k → k < n → get_or old k 0 ≡ f k)
    → (k : ℕ) → k < n → get_or (set now place value) k 0 ≡ f k
done_with f old now n place value inside value_is done rest behind k within = go (cases_eq k place)
  where
    go : (k ≡ place) ⊎ (k ≡ place → ⊥) → get_or (set now place value) k 0 ≡ f k
    go (inl here) = ap (λ x. get_or (set now place value) x 0) here ∙ get_or-set_same now place value 0 inside ∙ value_is ∙ ap f (sym here)
    go (inr other) = get_or-set_other now place k value 0 other ∙ beside (cases_lt k place)
      where
        beside : (k < place) ⊎ (place ≤ k) → get_or now k 0 ≡ f k
        beside (inl before) = done k before
        beside (inr past) = rest k past ∙ behind k (omega (arith, past, other)) within

-- then the right side
pub done_right : (f : ℕ → ℕ) (now : List ℕ) (n value : ℕ) → length now ≡ n + 1 → value ≡ f n → ((k : ℕ) → k < n → get_or now k 0 ≡ f k)
    → (k : ℕ) → k < n + 1 → get_or (set now (length now - 1) value) k 0 ≡ f k
done_right f now n value size value_is done k within =
    let last : length now - 1 ≡ n = omega (arith, size) in
    subst (λ x. get_or (set now x value) k 0 ≡ f k) (sym last)
    (done_with f now now (n + 1) n value (omega (arith, size)) value_is done (λ _ _. refl) (λ j after l. absurd (omega (arith, after, l))) k within)

-- what a step leaves before both firsts, where the last unknown becomes 0
pub none_before_multiple : (n t first second least place : ℕ) (row pivot new : List ℕ) → HasNoFactor first row → HasNoFactor second pivot
    → least ≤ first → least ≤ second → least ≤ n
    → ((k : ℕ) → k < n + 1 → get_or new k 0 ≡ get_or row k 0 + t * get_or pivot k 0)
    → HasNoFactor least (set new place 0)
none_before_multiple n t first second least place row pivot new none pivot_none by_first by_second within each k before =
    none_set place new k
    (each k (omega (arith, within, before))
    ∙ ap₂ (λ x y. x + y) (none k (omega (arith, before, by_first))) (ap (λ y. t * y) (pivot_none k (omega (arith, before, by_second))) ∙ mul-zero t))

-- a new pivot with its first factor
pub firsts-set : (pivots : List (Option (List ℕ))) (firsts : List ℕ) (place first : ℕ) (row : List ℕ) → place < length pivots → AreFirsts pivots firsts
    → HasNoFactor first row → AreFirsts (set pivots place (Some row)) (set firsts place first)
firsts-set pivots firsts place first row within are none = record {
  size = length-set firsts place first ∙ are.size ∙ sym (length-set pivots place (Some row));
  none_before = λ at found found_is. go at found (cases_eq at place) found_is;
}
  where
    go : (at : ℕ) (found : List ℕ) → (at ≡ place) ⊎ (at ≡ place → ⊥) → get_or (set pivots place (Some row)) at None ≡ Some found
        → HasNoFactor (get_or (set firsts place first) at 0) found
    go at found (inl here) found_is =
        let same : Some row ≡ Some found =
        sym (get_or-set_same pivots place (Some row) None within) ∙ ap (λ x. get_or (set pivots place (Some row)) x None) (sym here) ∙ found_is in
        let row_is : row ≡ found = cc in
        let first_is : get_or (set firsts place first) at 0 ≡ first =
        ap (λ x. get_or (set firsts place first) x 0) here ∙ get_or-set_same firsts place first 0 (omega (arith, within, are.size)) in
        subst (λ x. HasNoFactor x found) (sym first_is) (subst (HasNoFactor first) row_is none)
    go at found (inr other) found_is =
        subst (λ x. HasNoFactor x found) (sym (get_or-set_other firsts place at first 0 other))
        (are.none_before at found (sym (get_or-set_other pivots place at (Some row) None other) ∙ found_is))

-- numbers whose bits together are 0
pub or_none : (a b : ℕ) → bit_or a b ≡ 0 → (a ≡ 0) × (b ≡ 0)
or_none a b none =
    let left = le_or_l a b in
    let right = le_or_r a b in (omega (arith, none, left), omega (arith, none, right))

-- what is so at eight places
pub eight_places : (P : ℕ → Type 0) → P 0 → P 1 → P 2 → P 3 → P 4 → P 5 → P 6 → P 7 → (k : ℕ) → k < 8 → P k
eight_places P a b c d e f g h zero within = a
eight_places P a b c d e f g h (suc zero) within = b
eight_places P a b c d e f g h (suc (suc zero)) within = c
eight_places P a b c d e f g h (suc (suc (suc zero))) within = d
eight_places P a b c d e f g h (suc (suc (suc (suc zero)))) within = e
eight_places P a b c d e f g h (suc (suc (suc (suc (suc zero))))) within = f
eight_places P a b c d e f g h (suc (suc (suc (suc (suc (suc zero)))))) within = g
eight_places P a b c d e f g h (suc (suc (suc (suc (suc (suc (suc zero))))))) within = h
eight_places P a b c d e f g h (suc (suc (suc (suc (suc (suc (suc (suc k)))))))) within = absurd (omega (arith, within))
