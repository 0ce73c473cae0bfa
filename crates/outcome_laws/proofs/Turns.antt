-- Round 0 takes each generator.
use Rattle.outcome_laws.proofs.Prelude.{◌≡◌, ◌⊎◌, inl, inr, ◌≤◌, ◌<◌, ◌+◌, ◌-◌, ℕ, suc, length, get_or, ◌∙◌, arith, cases_lt, All-append, All-from_get_or, Contains-append_left, Contains-append_right, length-range_with_len, get_or-range_with_len, All, range_with_len, units_first, EachGeneratorHasItsTurn, Contains}

pub contains_number : (a n k : ℕ) → a ≤ k → k < a + n → Contains (range_with_len a n) k
contains_number a n k above below =
    let inside : k - a < n = omega (arith, above, below) in
    let here : a + (k - a) ≡ k = omega (arith, above) in
    (k - a, omega (arith, length-range_with_len a n, inside), get_or-range_with_len a n (k - a) k inside ∙ here)

all_numbers : (a n low high : ℕ) → low ≤ a → a + n ≤ suc high → All (λ k. (low ≤ k) × (k ≤ high)) (range_with_len a n)
all_numbers a n low high from to = All-from_get_or (λ k. (low ≤ k) × (k ≤ high)) (range_with_len a n) 0 each
  where
    each : (i : ℕ) → i < length (range_with_len a n) → (low ≤ get_or (range_with_len a n) i 0) × (get_or (range_with_len a n) i 0 ≤ high)
    each i inside =
        let within : i < n = omega (arith, inside, length-range_with_len a n) in
        let is = get_or-range_with_len a n i 0 within in
        (omega (arith, is, from), omega (arith, is, to, within))

pub each_generator_has_its_turn : EachGeneratorHasItsTurn
each_generator_has_its_turn units count most = (in_range, each)
  where
    in_range : All (λ k. (1 ≤ k) × (k ≤ count)) (units_first units count)
    in_range = All-append (λ k. (1 ≤ k) × (k ≤ count)) (range_with_len (suc (count - units)) units) (range_with_len 1 (count - units))
        (all_numbers (suc (count - units)) units 1 count (omega arith) (omega (arith, most))) (all_numbers 1 (count - units) 1 count (omega arith) (omega arith))

    each : (n : ℕ) → 1 ≤ n → n ≤ count → Contains (units_first units count) n
    each n first last = go (cases_lt (count - units) n)
      where
        go : (count - units < n) ⊎ (n ≤ count - units) → Contains (units_first units count) n
        go (inl unit) = Contains-append_left (range_with_len (suc (count - units)) units) (range_with_len 1 (count - units)) n (contains_number (suc (count - units)) units n (omega (arith, unit)) (omega (arith, last, most)))
        go (inr other) = Contains-append_right (range_with_len (suc (count - units)) units) (range_with_len 1 (count - units)) n (contains_number 1 (count - units) n first (omega (arith, other)))
