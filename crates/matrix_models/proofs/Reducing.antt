-- A row that is reduced from its last unknown down to its first: how far it is, and what a step keeps.
use Rattle.matrix_models.proofs.Prelude.{◌≡◌, ℕ, ◌+◌, ◌-◌, ◌*◌, ◌%◌, ◌<◌, ◌≤◌, List, length, get_or, set, Option, Some, None, ◌⊎◌, inl, inr, sym, ap, ap₂, ◌∙◌, arith, mul-zero, cases_eq, cases_lt, mul-le, get_or-set_same, get_or-set_other, get_or_past, length-set, zero-mod, ArePivots, AreSmall, HasNoFactor, MeetsAlike}
use Rattle.matrix_models.proofs.Rows.{meets-multiple, meets-congruent, set-congruent, without-unknown, alike_through}
use Rattle.matrix_models.proofs.Stretches.{none_set, none_before_multiple}

-- The unknowns from `left` on are gone, those before `first` never were, and the wide row says what the row said. Each unknown
-- that is gone added at most 2^32 to a number.
abbrev pub IsReducedTo : ℕ → List (Option (List ℕ)) → List ℕ → ℕ → ℕ → List ℕ → Type 0
IsReducedTo m pivots row first left wide = record {
  size : length wide ≡ length row;
  bound : (k : ℕ) → k < length wide → get_or wide k 0 ≤ 65536 + (length pivots - left) * 4294967296;
  within : left ≤ length pivots;
  alike : MeetsAlike m (length pivots) pivots row wide;
  gone : (k : ℕ) → left ≤ k → k < length pivots → get_or wide k 0 ≡ 0;
  before : HasNoFactor first wide;
}

-- a multiple of a pivot adds at most 2^32
pub multiple_small : (m t : ℕ) (pivot : List ℕ) (k : ℕ) → m ≤ 65537 → t < m → ((j d : ℕ) → j < length pivot → get_or pivot j d < m)
    → t * get_or pivot k 0 ≤ 4294967296
multiple_small m t pivot k small below each =
    let other : get_or pivot k 0 ≤ 65536 = entry (cases_lt k (length pivot)) in
    let product : t * get_or pivot k 0 ≤ 65536 * 65536 = mul-le t (get_or pivot k 0) 65536 65536 (omega (arith, small, below)) other in
    omega (arith, product)
  where
    entry : (k < length pivot) ⊎ (length pivot ≤ k) → get_or pivot k 0 ≤ 65536
    entry (inl inside) = let less = each k 0 inside in omega (arith, less, small)
    entry (inr past) = let none = get_or_past pivot k 0 past in omega (arith, none)

-- the last unknown becomes 0
gone_set : (n place : ℕ) (new : List ℕ) → place < length new → ((k : ℕ) → place + 1 ≤ k → k < n → get_or new k 0 ≡ 0)
    → (k : ℕ) → place ≤ k → k < n → get_or (set new place 0) k 0 ≡ 0
gone_set n place new within gone k from l = go (cases_eq k place)
  where
    go : (k ≡ place) ⊎ (k ≡ place → ⊥) → get_or (set new place 0) k 0 ≡ 0
    go (inl here) = ap (λ x. get_or (set new place 0) x 0) here ∙ get_or-set_same new place 0 0 within
    go (inr other) = get_or-set_other new place k 0 0 other ∙ gone k (omega arith) l

-- no number grows
bound_set : (place bound : ℕ) (new : List ℕ) → ((k : ℕ) → k < length new → get_or new k 0 ≤ bound)
    → (k : ℕ) → k < length (set new place 0) → get_or (set new place 0) k 0 ≤ bound
bound_set place bound new each k l = go (cases_eq k place)
  where
    inside : k < length new
    inside = omega (arith, l, length-set new place 0)

    go : (k ≡ place) ⊎ (k ≡ place → ⊥) → get_or (set new place 0) k 0 ≤ bound
    go (inl here) = let none = ap (λ x. get_or (set new place 0) x 0) here ∙ get_or-set_same new place 0 0 (omega (arith, here, inside)) in omega (arith, none)
    go (inr other) = let same = get_or-set_other new place k 0 0 other in let less = each k inside in omega (arith, same, less)

-- an unknown whose factor is 0 modulo the modulus is passed
pub passed : (m : ℕ) (pivots : List (Option (List ℕ))) (row : List ℕ) (first left : ℕ) (wide : List ℕ) → length row ≡ length pivots + 1
    → 0 < left → get_or wide (left - 1) 0 % m ≡ 0 → IsReducedTo m pivots row first left wide
    → IsReducedTo m pivots row first (left - 1) (set wide (left - 1) 0)
passed m pivots row first left wide row_size positive none now =
    let n = length pivots in
    let place = left - 1 in
    let inside : place < length wide = omega (arith, now.size, row_size, now.within, positive) in
    let step : (k : ℕ) → get_or (set wide place 0) k 0 % m ≡ get_or wide k 0 % m = set-congruent m place 0 wide inside (zero-mod m ∙ sym none) in
    let more : 65536 + (n - left) * 4294967296 ≤ 65536 + (n - place) * 4294967296 = omega (arith, positive) in
    record {
      size = length-set wide place 0 ∙ now.size;
      bound = bound_set place (65536 + (n - place) * 4294967296) wide (λ k l. let less = now.bound k l in omega (arith, less, more));
      within = omega (arith, now.within);
      alike = alike_through m n pivots row wide (set wide place 0) now.alike
          (λ w all. meets-congruent m n w wide (set wide place 0) (λ k l. step k));
      gone = gone_set n place wide inside (λ k from l. now.gone k (omega (arith, from, positive)) l);
      before = λ k l. none_set place wide k (now.before k l);
    }

-- 0 with a multiple of 0
nothing_left : (t x y : ℕ) → x ≡ 0 → y ≡ 0 → x + t * y ≡ 0
nothing_left t x y none other = ap₂ (λ a b. a + t * b) none other ∙ ap (λ b. 0 + b) (mul-zero t)

-- a multiple of its pivot takes the last unknown away
pub taken : (m : ℕ) (pivots : List (Option (List ℕ))) (row : List ℕ) (first left : ℕ) (wide pivot new : List ℕ) (second least : ℕ)
    → 0 < m → m ≤ 65537 → length row ≡ length pivots + 1 → first < left → 0 < get_or wide (left - 1) 0 % m → IsReducedTo m pivots row first left wide
    → get_or pivots (left - 1) None ≡ Some pivot → ArePivots (length pivots) pivots → AreSmall m pivots → HasNoFactor second pivot
    → least ≤ first → least ≤ second → length new ≡ length wide
    → ((k : ℕ) → k < length wide → get_or new k 0 ≡ get_or wide k 0 + (m - get_or wide (left - 1) 0 % m) * get_or pivot k 0)
    → IsReducedTo m pivots row least (left - 1) (set new (left - 1) 0)
taken m pivots row first left wide pivot new second least positive small row_size some factor now found are_pivots are_small none by_first by_second kept each =
    let n = length pivots in
    let place = left - 1 in
    let t = m - get_or wide place 0 % m in
    let is_pivot = are_pivots place pivot found in
    let size : length wide ≡ n + 1 = now.size ∙ row_size in
    let inside : place < length new = omega (arith, kept, size, now.within, some) in
    let each_of : (k : ℕ) → k < n + 1 → get_or new k 0 ≡ get_or wide k 0 + t * get_or pivot k 0 = λ k l. each k (omega (arith, l, size)) in
    let before_right : least ≤ n = omega (arith, by_first, some, now.within) in
    let more : 65536 + (n - left) * 4294967296 + 4294967296 ≤ 65536 + (n - place) * 4294967296 = omega (arith, some, now.within) in
    record {
      size = length-set new place 0 ∙ kept ∙ now.size;
      bound = bound_set place (65536 + (n - place) * 4294967296) new (λ k l.
          let less = now.bound k (omega (arith, l, kept)) in
          let added = multiple_small m t pivot k small (omega (arith, positive, factor)) (λ j d inner. are_small place pivot found j d inner) in
          let is = each k (omega (arith, l, kept)) in
          omega (arith, less, added, is, more));
      within = omega (arith, now.within);
      alike = alike_through m n pivots row wide (set new place 0) now.alike
          (λ w all. meets-multiple m n t w wide pivot (set new place 0) positive (all place pivot found)
          (without-unknown m n place wide pivot new is_pivot inside positive each_of));
      gone = gone_set n place new inside (λ k from l.
          each_of k (omega (arith, l)) ∙ nothing_left t (get_or wide k 0) (get_or pivot k 0) (now.gone k (omega (arith, from, some)) l) (is_pivot.last k (omega (arith, from)) l));
      before = none_before_multiple n t first second least place wide pivot new now.before none by_first by_second before_right each_of;
    }
