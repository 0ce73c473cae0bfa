-- The values that pivots and preferences give, and that they are the greedy solution.
use Rattle.matrix_models.proofs.Prelude.{◌≡◌, ℕ, zero, suc, ◌+◌, ◌*◌, ◌%◌, ◌<◌, ◌≤◌, List, [], ◌∷◌, ◌++◌, length, get_or, Option, Some, None, ◌⊎◌, inl, inr, sym, refl, ap, ap₂, subst, ◌∙◌, arith, zero-mul, one-mul, cases_eq, cases_lt, none-some, get_or_past, get_or_push, get_or_append_left, length_push, All-push, total, total_same, MeetsAll, IsPivot, ArePivots, All}

-- The values of the unknowns before `to`: one with no pivot has its preferred value, and one with a pivot the value that its
-- pivot asks for with the values before it.
pub record IsSolvedTo (m n to : ℕ) (pivots : List (Option (List ℕ))) (prefer values : List ℕ) : Type 0 where
  pub size : length values ≡ to
  pub below : All (λ value. value < m) values
  pub free : (place : ℕ) → place < to → get_or pivots place None ≡ None → get_or values place 0 ≡ get_or prefer place 0
  pub fixed : (place : ℕ) (row : List ℕ) → place < to → get_or pivots place None ≡ Some row
      → (total place (λ k. get_or row k 0 * get_or values k 0) + get_or values place 0) % m ≡ get_or row n 0 % m

-- the value at the next place
solved_more : (m n to : ℕ) (pivots : List (Option (List ℕ))) (prefer values : List ℕ) (value : ℕ) → IsSolvedTo m n to pivots prefer values → value < m
    → (get_or pivots to None ≡ None → value ≡ get_or prefer to 0)
    → ((row : List ℕ) → get_or pivots to None ≡ Some row → (total to (λ k. get_or row k 0 * get_or values k 0) + value) % m ≡ get_or row n 0 % m)
    → IsSolvedTo m n (to + 1) pivots prefer (values ++ value ∷ [])
solved_more m n to pivots prefer values value solved small free_value fixed_value = record {
  size = length_push values value ∙ ap (λ x. x + 1) solved.size;
  below = All-push (λ x. x < m) values value solved.below small;
  free = λ place within none. go_free place (cases_eq place to) within none;
  fixed = λ place row within found. go_fixed place row (cases_eq place to) within found;
}
  where
    last : get_or (values ++ value ∷ []) to 0 ≡ value
    last = get_or_push values value 0 to solved.size

    before : (k : ℕ) → k < to → get_or (values ++ value ∷ []) k 0 ≡ get_or values k 0
    before k l = get_or_append_left values (value ∷ []) 0 k (omega (arith, solved.size, l))

    sum_before : (place : ℕ) (row : List ℕ) → place ≤ to → total place (λ k. get_or row k 0 * get_or (values ++ value ∷ []) k 0) ≡ total place (λ k. get_or row k 0 * get_or values k 0)
    sum_before place row within = total_same place _ _ (λ k l. ap (λ x. get_or row k 0 * x) (before k (omega (arith, within, l))))

    go_free : (place : ℕ) → (place ≡ to) ⊎ (place ≡ to → ⊥) → place < to + 1 → get_or pivots place None ≡ None → get_or (values ++ value ∷ []) place 0 ≡ get_or prefer place 0
    go_free place (inl here) within none =
        ap (λ x. get_or (values ++ value ∷ []) x 0) here ∙ last ∙ free_value (ap (λ x. get_or pivots x None) (sym here) ∙ none) ∙ ap (λ x. get_or prefer x 0) (sym here)
    go_free place (inr other) within none = let l : place < to = omega arith in before place l ∙ solved.free place l none

    go_fixed : (place : ℕ) (row : List ℕ) → (place ≡ to) ⊎ (place ≡ to → ⊥) → place < to + 1 → get_or pivots place None ≡ Some row
        → (total place (λ k. get_or row k 0 * get_or (values ++ value ∷ []) k 0) + get_or (values ++ value ∷ []) place 0) % m ≡ get_or row n 0 % m
    go_fixed place row (inl here) within found =
        let sum : total place (λ k. get_or row k 0 * get_or (values ++ value ∷ []) k 0) ≡ total to (λ k. get_or row k 0 * get_or values k 0) =
        sum_before place row (omega arith) ∙ ap (λ x. total x (λ k. get_or row k 0 * get_or values k 0)) here in
        ap₂ (λ x y. (x + y) % m) sum (ap (λ x. get_or (values ++ value ∷ []) x 0) here ∙ last)
        ∙ fixed_value row (ap (λ x. get_or pivots x None) (sym here) ∙ found)
    go_fixed place row (inr other) within found =
        let l : place < to = omega arith in
        ap₂ (λ x y. (x + y) % m) (sum_before place row (omega arith)) (before place l) ∙ solved.fixed place row l found

-- a place with no pivot
pub solved_free : (m n to : ℕ) (pivots : List (Option (List ℕ))) (prefer values : List ℕ) → IsSolvedTo m n to pivots prefer values → get_or pivots to None ≡ None
    → get_or prefer to 0 < m → IsSolvedTo m n (to + 1) pivots prefer (values ++ get_or prefer to 0 ∷ [])
solved_free m n to pivots prefer values solved none small =
    solved_more m n to pivots prefer values _ solved small (λ _. refl) (λ row found. absurd (none-some row (sym none ∙ found)))

-- a place with a pivot
pub solved_fixed : (m n to : ℕ) (pivots : List (Option (List ℕ))) (prefer values row : List ℕ) (value : ℕ) → IsSolvedTo m n to pivots prefer values → get_or pivots to None ≡ Some row
    → value < m → (total to (λ k. get_or row k 0 * get_or values k 0) + value) % m ≡ get_or row n 0 % m
    → IsSolvedTo m n (to + 1) pivots prefer (values ++ value ∷ [])
solved_fixed m n to pivots prefer values row value solved found small left =
    solved_more m n to pivots prefer values value solved small (λ none. absurd (none-some row (sym none ∙ found)))
    (λ other other_found.
    let both : Some row ≡ Some other = sym found ∙ other_found in
    let same : row ≡ other = cc in
    subst (λ x. (total to (λ k. get_or x k 0 * get_or values k 0) + value) % m ≡ get_or x n 0 % m) same left)

-- a sum whose terms after a place are 0
total_to : (n place : ℕ) (f : ℕ → ℕ) → place < n → ((k : ℕ) → place < k → k < n → f k ≡ 0) → total n f ≡ total place f + f place
total_to zero place f within none = absurd (omega arith)
total_to (suc n) place f within none = go (cases_eq place n) (total_to n place f)
  where
    go : (place ≡ n) ⊎ (place ≡ n → ⊥) → (place < n → ((k : ℕ) → place < k → k < n → f k ≡ 0) → total n f ≡ total place f + f place)
        → total n f + f n ≡ total place f + f place
    go (inl here) _ = ap (λ x. total x f + f x) (sym here)
    go (inr other) before =
        let l : place < n = omega arith in
        let rest = before l (λ k after k_within. none k after (omega (arith, k_within))) in
        let last = none n l (omega arith) in
        omega (arith, rest, last)

-- what the equation of a pivot says of the value at its place
pub pivot_sum : (n place : ℕ) (w : ℕ → ℕ) (row : List ℕ) → place < n → IsPivot n place row
    → total n (λ k. get_or row k 0 * w k) ≡ total place (λ k. get_or row k 0 * w k) + w place
pivot_sum n place w row within is_pivot =
    total_to n place (λ k. get_or row k 0 * w k) within (λ k after k_within. ap (λ x. x * w k) (is_pivot.last k after k_within) ∙ zero-mul (w k))
    ∙ ap (λ x. total place (λ k. get_or row k 0 * w k) + x) (ap (λ x. x * w place) is_pivot.one ∙ one-mul (w place))

pub meets-solved : (m n : ℕ) (pivots : List (Option (List ℕ))) (prefer values : List ℕ) → ArePivots n pivots → length pivots ≡ n → IsSolvedTo m n n pivots prefer values
    → MeetsAll m n (λ k. get_or values k 0) pivots
meets-solved m n pivots prefer values pivots_are size solved place row found =
    ap (λ x. x % m) (pivot_sum n place (λ k. get_or values k 0) row within (pivots_are place row found)) ∙ solved.fixed place row within found
  where
    within : place < n
    within = go (cases_lt place n)
      where
        go : (place < n) ⊎ (n ≤ place) → place < n
        go (inl l) = l
        go (inr past) = absurd (none-some row (sym (get_or_past pivots place None (omega (arith, size, past))) ∙ found))
