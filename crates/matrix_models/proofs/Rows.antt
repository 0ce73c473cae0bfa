-- What a step of elimination keeps: multiples of pivots are taken off a row, a row is multiplied, and a new pivot is set.
use Rattle.matrix_models.proofs.Prelude.{◌≡◌, ◌↔◌, ℕ, ◌+◌, ◌-◌, ◌*◌, ◌%◌, ◌<◌, List, length, get_or, set, Option, Some, None, All, ◌⊎◌, inl, inr, sym, ap, ap₂, subst, ◌∙◌, arith, add-mul, mul_assoc, mul_comm, zero-mul, cases_eq, none-some, mod-mod, zero-mod, mul-mod_first, get_or-set_same, get_or-set_other, total, total_mod, total_zero, total_add, total_mul, total_mul_right, Meets, MeetsAll, IsPivot, ArePivots, AreSmall, IsFree, HasNoFactor, MeetsAlike, IsAdded, IsAgainst}
use Rattle.matrix_models.proofs.Congruences.{complete, add_alike, mul_alike, add_cancel, mul_cancel}

-- a multiple of a pivot
sum-multiple : (m n t : ℕ) (w : ℕ → ℕ) (row pivot new : List ℕ)
    → ((k : ℕ) → k < n + 1 → get_or new k 0 % m ≡ (get_or row k 0 + t * get_or pivot k 0) % m)
    → total n (λ k. get_or new k 0 * w k) % m ≡ (total n (λ k. get_or row k 0 * w k) + t * total n (λ k. get_or pivot k 0 * w k)) % m
sum-multiple m n t w row pivot new each =
    total_mod m n _ (λ k. get_or row k 0 * w k + t * (get_or pivot k 0 * w k)) term
    ∙ ap (λ x. x % m) (sym (total_add n _ _) ∙ ap (λ x. total n (λ k. get_or row k 0 * w k) + x) (sym (total_mul n t _)))
  where
    term : (k : ℕ) → k < n → (get_or new k 0 * w k) % m ≡ (get_or row k 0 * w k + t * (get_or pivot k 0 * w k)) % m
    term k l =
        sym (mul-mod_first (get_or new k 0) (w k) m)
        ∙ ap (λ x. (x * w k) % m) (each k (omega arith))
        ∙ mul-mod_first (get_or row k 0 + t * get_or pivot k 0) (w k) m
        ∙ ap (λ x. x % m) (add-mul (get_or row k 0) (t * get_or pivot k 0) (w k) ∙ ap (λ x. get_or row k 0 * w k + x) (mul_assoc t (get_or pivot k 0) (w k)))

-- a row says the same with a multiple of one that holds
pub meets-multiple : (m n t : ℕ) (w : ℕ → ℕ) (row pivot new : List ℕ) → 0 < m → Meets m n w pivot
    → ((k : ℕ) → k < n + 1 → get_or new k 0 % m ≡ (get_or row k 0 + t * get_or pivot k 0) % m)
    → Meets m n w row ↔ Meets m n w new
meets-multiple m n t w row pivot new positive pivot_holds each = (
  λ holds. left_is ∙ add_alike m _ (get_or row n 0) _ (t * get_or pivot n 0) holds multiple ∙ sym right_is,
  λ holds. add_cancel m _ (get_or row n 0) _ (t * get_or pivot n 0) positive (sym left_is ∙ holds ∙ right_is) multiple,
)
  where
    left_is : total n (λ k. get_or new k 0 * w k) % m ≡ (total n (λ k. get_or row k 0 * w k) + t * total n (λ k. get_or pivot k 0 * w k)) % m
    left_is = sum-multiple m n t w row pivot new each

    right_is : get_or new n 0 % m ≡ (get_or row n 0 + t * get_or pivot n 0) % m
    right_is = each n (omega arith)

    multiple : (t * total n (λ k. get_or pivot k 0 * w k)) % m ≡ (t * get_or pivot n 0) % m
    multiple = mul_alike m t _ _ pivot_holds

-- it says the same as one whose numbers are congruent to its own
pub meets-congruent : (m n : ℕ) (w : ℕ → ℕ) (row new : List ℕ) → ((k : ℕ) → k < n + 1 → get_or new k 0 % m ≡ get_or row k 0 % m)
    → Meets m n w row ↔ Meets m n w new
meets-congruent m n w row new each = (
  λ holds. left_is ∙ holds ∙ sym (each n (omega arith)),
  λ holds. sym left_is ∙ holds ∙ each n (omega arith),
)
  where
    left_is : total n (λ k. get_or new k 0 * w k) % m ≡ total n (λ k. get_or row k 0 * w k) % m
    left_is = total_mod m n _ _ (λ k l.
        sym (mul-mod_first (get_or new k 0) (w k) m) ∙ ap (λ x. (x * w k) % m) (each k (omega arith)) ∙ mul-mod_first (get_or row k 0) (w k) m)

-- a number is replaced by one that is congruent to it
pub set-congruent : (m place value : ℕ) (row : List ℕ) → place < length row → value % m ≡ get_or row place 0 % m
    → (k : ℕ) → get_or (set row place value) k 0 % m ≡ get_or row k 0 % m
set-congruent m place value row within alike k = go (cases_eq k place)
  where
    go : (k ≡ place) ⊎ (k ≡ place → ⊥) → get_or (set row place value) k 0 % m ≡ get_or row k 0 % m
    go (inl here) =
        ap (λ x. get_or (set row place value) x 0 % m) here ∙ ap (λ x. x % m) (get_or-set_same row place value 0 within)
        ∙ alike ∙ ap (λ x. get_or row x 0 % m) (sym here)
    go (inr other) = ap (λ x. x % m) (get_or-set_other row place k value 0 other)

-- the multiple of a pivot that takes its unknown away, which becomes 0
pub without-unknown : (m n place : ℕ) (row pivot new : List ℕ) → IsPivot n place pivot → place < length new → 0 < m
    → ((k : ℕ) → k < n + 1 → get_or new k 0 ≡ get_or row k 0 + (m - get_or row place 0 % m) * get_or pivot k 0)
    → (k : ℕ) → k < n + 1 → get_or (set new place 0) k 0 % m ≡ (get_or row k 0 + (m - get_or row place 0 % m) * get_or pivot k 0) % m
without-unknown m n place row pivot new is_pivot within positive each k l = go (cases_eq k place)
  where
    go : (k ≡ place) ⊎ (k ≡ place → ⊥)
        → get_or (set new place 0) k 0 % m ≡ (get_or row k 0 + (m - get_or row place 0 % m) * get_or pivot k 0) % m
    go (inl here) =
        let zero_is : get_or (set new place 0) k 0 ≡ 0 = ap (λ x. get_or (set new place 0) x 0) here ∙ get_or-set_same new place 0 0 within in
        let factor : get_or pivot k 0 ≡ 1 = subst (λ x. get_or pivot x 0 ≡ 1) (sym here) is_pivot.one in
        let sum : get_or row k 0 + (m - get_or row place 0 % m) * get_or pivot k 0 ≡ get_or row place 0 + (m - get_or row place 0 % m) =
        ap₂ (λ x y. x + (m - get_or row place 0 % m) * y) (ap (λ x. get_or row x 0) here) factor ∙ omega arith in
        ap (λ x. x % m) zero_is ∙ sym (ap (λ x. x % m) (sum ∙ omega arith) ∙ complete m 0 (get_or row place 0) positive)
    go (inr other) = ap (λ x. x % m) (get_or-set_other new place k 0 0 other ∙ each k l)

-- by what has an inverse: it says the same
pub meets-scaled : (m n u f : ℕ) (w : ℕ → ℕ) (row new : List ℕ) → (f * u) % m ≡ 1
    → ((k : ℕ) → k < n + 1 → get_or new k 0 ≡ (get_or row k 0 * u) % m)
    → Meets m n w row ↔ Meets m n w new
meets-scaled m n u f w row new inverse each = (
  λ holds. left_is ∙ ap (λ x. x % m) (mul_comm _ u) ∙ mul_alike m u _ _ holds ∙ ap (λ x. x % m) (mul_comm u _) ∙ sym right_is,
  λ holds. mul_cancel m _ (get_or row n 0) u f inverse (sym left_is ∙ holds ∙ right_is),
)
  where
    term : (k : ℕ) → k < n → (get_or new k 0 * w k) % m ≡ (get_or row k 0 * w k * u) % m
    term k l =
        ap (λ x. (x * w k) % m) (each k (omega arith))
        ∙ mul-mod_first (get_or row k 0 * u) (w k) m
        ∙ ap (λ x. x % m) (mul_assoc (get_or row k 0) u (w k) ∙ ap (λ x. get_or row k 0 * x) (mul_comm u (w k)) ∙ sym (mul_assoc (get_or row k 0) (w k) u))

    left_is : total n (λ k. get_or new k 0 * w k) % m ≡ (total n (λ k. get_or row k 0 * w k) * u) % m
    left_is = total_mod m n _ (λ k. get_or row k 0 * w k * u) term ∙ ap (λ x. x % m) (sym (total_mul_right n u (λ k. get_or row k 0 * w k)))

    right_is : get_or new n 0 % m ≡ (get_or row n 0 * u) % m
    right_is = ap (λ x. x % m) (each n (omega arith)) ∙ mod-mod _ m

-- a pivot is set
pub pivots-set : (n place : ℕ) (pivots : List (Option (List ℕ))) (row : List ℕ) → place < length pivots → ArePivots n pivots → IsPivot n place row
    → ArePivots n (set pivots place (Some row))
pivots-set n place pivots row within pivots_are is_pivot at found found_is = go (cases_eq at place)
  where
    go : (at ≡ place) ⊎ (at ≡ place → ⊥) → IsPivot n at found
    go (inl here) =
        let same : Some row ≡ Some found = sym (get_or-set_same pivots place (Some row) None within) ∙ ap (λ x. get_or (set pivots place (Some row)) x None) (sym here) ∙ found_is in
        let row_is : row ≡ found = cc in
        subst (λ x. IsPivot n x found) (sym here) (subst (IsPivot n place) row_is is_pivot)
    go (inr other) = pivots_are at found (sym (get_or-set_other pivots place at (Some row) None other) ∙ found_is)

-- a row of small numbers is set
pub small-set : (m place : ℕ) (pivots : List (Option (List ℕ))) (row : List ℕ) → place < length pivots → AreSmall m pivots
    → All (λ entry. entry < m) row → AreSmall m (set pivots place (Some row))
small-set m place pivots row within small below at found found_is = go (cases_eq at place)
  where
    go : (at ≡ place) ⊎ (at ≡ place → ⊥) → All (λ entry. entry < m) found
    go (inl here) =
        let same : Some row ≡ Some found = sym (get_or-set_same pivots place (Some row) None within) ∙ ap (λ x. get_or (set pivots place (Some row)) x None) (sym here) ∙ found_is in
        let row_is : row ≡ found = cc in
        subst (All (λ entry. entry < m)) row_is below
    go (inr other) = small at found (sym (get_or-set_other pivots place at (Some row) None other) ∙ found_is)

pub meets-set : (m n place : ℕ) (w : ℕ → ℕ) (pivots : List (Option (List ℕ))) (row : List ℕ) → place < length pivots → get_or pivots place None ≡ None
    → (MeetsAll m n w pivots × Meets m n w row) ↔ MeetsAll m n w (set pivots place (Some row))
meets-set m n place w pivots row within free = (λ both. forth both.0 both.1, λ all. (back all, all place row (get_or-set_same pivots place (Some row) None within)))
  where
    forth : MeetsAll m n w pivots → Meets m n w row → MeetsAll m n w (set pivots place (Some row))
    forth all holds at found found_is = go (cases_eq at place)
      where
        go : (at ≡ place) ⊎ (at ≡ place → ⊥) → Meets m n w found
        go (inl here) =
            let same : Some row ≡ Some found = sym (get_or-set_same pivots place (Some row) None within) ∙ ap (λ x. get_or (set pivots place (Some row)) x None) (sym here) ∙ found_is in
            let row_is : row ≡ found = cc in
            subst (Meets m n w) row_is holds
        go (inr other) = all at found (sym (get_or-set_other pivots place at (Some row) None other) ∙ found_is)

    back : MeetsAll m n w (set pivots place (Some row)) → MeetsAll m n w pivots
    back all at found found_is = go (cases_eq at place)
      where
        go : (at ≡ place) ⊎ (at ≡ place → ⊥) → Meets m n w found
        go (inl here) = let clash : None ≡ Some found = sym free ∙ ap (λ x. get_or pivots x None) (sym here) ∙ found_is in absurd (none-some _ clash)
        go (inr other) = all at found (get_or-set_other pivots place at (Some row) None other ∙ found_is)

-- a row with no factor
pub no_factor_sum : (n : ℕ) (w : ℕ → ℕ) (row : List ℕ) → HasNoFactor n row → total n (λ k. get_or row k 0 * w k) ≡ 0
no_factor_sum n w row none = total_zero n _ (λ k l. ap (λ x. x * w k) (none k l) ∙ zero-mul (w k))

-- it holds where its right side is 0 modulo the modulus
pub meets-no_factor : (m n : ℕ) (w : ℕ → ℕ) (row : List ℕ) → HasNoFactor n row → get_or row n 0 % m ≡ 0 → Meets m n w row
meets-no_factor m n w row none right = ap (λ x. x % m) (no_factor_sum n w row none) ∙ zero-mod m ∙ sym right

-- and nowhere else
pub right-no_factor : (m n : ℕ) (w : ℕ → ℕ) (row : List ℕ) → HasNoFactor n row → Meets m n w row → get_or row n 0 % m ≡ 0
right-no_factor m n w row none holds = sym holds ∙ ap (λ x. x % m) (no_factor_sum n w row none) ∙ zero-mod m

-- a further step that says the same where the pivots hold
pub alike_through : (m n : ℕ) (pivots : List (Option (List ℕ))) (start row new : List ℕ) → MeetsAlike m n pivots start row
    → ((w : ℕ → ℕ) → MeetsAll m n w pivots → Meets m n w row ↔ Meets m n w new) → MeetsAlike m n pivots start new
alike_through m n pivots start row new alike step w all =
    (λ holds. (step w all).0 ((alike w all).0 holds), λ holds. (alike w all).1 ((step w all).1 holds))

-- the row becomes a pivot
pub added-pivot : (m n place : ℕ) (pivots : List (Option (List ℕ))) (start row : List ℕ) → IsFree pivots place → MeetsAlike m n pivots start row
    → IsAdded m n start pivots (set pivots place (Some row))
added-pivot m n place pivots start row free alike w =
    let both = meets-set m n place w pivots row free.within free.none in (
      λ holds. both.0 (holds.0, (alike w holds.0).0 holds.1),
      λ all. let back = both.1 all in (back.0, (alike w back.0).1 back.1),
    )

-- the row says nothing
pub added-nothing : (m n : ℕ) (pivots : List (Option (List ℕ))) (start row : List ℕ) → HasNoFactor n row → get_or row n 0 % m ≡ 0 → MeetsAlike m n pivots start row
    → IsAdded m n start pivots pivots
added-nothing m n pivots start row none right alike w = (λ holds. holds.0, λ all. (all, (alike w all).1 (meets-no_factor m n w row none right)))

-- the row can't hold
pub against-all : (m n : ℕ) (pivots : List (Option (List ℕ))) (start row : List ℕ) → HasNoFactor n row → (get_or row n 0 % m ≡ 0 → ⊥)
    → MeetsAlike m n pivots start row → IsAgainst m n start pivots
against-all m n pivots start row none nonzero alike w all holds = nonzero (right-no_factor m n w row none ((alike w all).0 holds))
