-- Numbers that pass a test, ascending.
use Rattle.statement_names.proofs.Prelude.{◌≡◌, ℕ, ◌<◌, Bool, true, length, get_or, map, All, AllPairs, ap, arith, range_with_len, length-map, get_or-map, All-filter, All-map, filter_passes, length-range_with_len, get_or-range_with_len, AllPairs-filter, numbers_that}

-- the numbers of a range
range_below : (n : ℕ) → All (λ k. k < n) (range_with_len 0 n)
range_below n i d inside =
    let below : i < n = omega (arith, inside, length-range_with_len 0 n) in
    omega (arith, get_or-range_with_len 0 n i d below, below)

range_ascends : (n : ℕ) → AllPairs (λ x y. x < y) (range_with_len 0 n)
range_ascends n i j d less inside =
    let below : j < n = omega (arith, inside, length-range_with_len 0 n) in
    let before : i < n = omega (arith, less, below) in
    omega (arith, get_or-range_with_len 0 n i d before, get_or-range_with_len 0 n j d below, less)

-- what is numbered so
module _ {A : Type 0} (make : ℕ → A) (n : ℕ) (test : ℕ → Bool) where
  pub numbers_hold : (P : A → Type 0) → ((k : ℕ) → k < n → test k ≡ true → P (make k)) → All P (map make (numbers_that n test))
  numbers_hold P holds =
      All-map P make (numbers_that n test) (λ i d inside.
      holds (get_or (numbers_that n test) i d) (All-filter test (λ k. k < n) (range_with_len 0 n) (range_below n) i d inside)
      (filter_passes test (range_with_len 0 n) i d inside))

  pub numbers_ascend : (number : A → ℕ) → ((k : ℕ) → number (make k) ≡ k) → AllPairs (λ x y. number x < number y) (map make (numbers_that n test))
  numbers_ascend number same i j d less inside =
      let ks = numbers_that n test in
      let there : j < length ks = omega (arith, inside, length-map ks make) in
      let here : i < length ks = omega (arith, less, there) in
      let ascends = AllPairs-filter (λ x y. x < y) test (range_with_len 0 n) (range_ascends n) i j 0 less there in
      omega (arith, ascends, same (get_or ks i 0), same (get_or ks j 0), ap number (get_or-map make ks i 0 d here), ap number (get_or-map make ks j 0 d there))
