-- That the moduli of fields are primes, by trial division up to their roots, and inverses modulo a prime.
use Rattle.matrix_models.proofs.Prelude.{◌≡◌, ℕ, zero, suc, ◌+◌, ◌-◌, ◌*◌, ◌/◌, ◌%◌, ◌<◌, ◌≤◌, Bool, true, not, ◌&&◌, nat_eq, List, [], ◌∷◌, ◌⊎◌, inl, inr, sym, refl, ap, subst, ◌∙◌, arith, mod-lt, div-add-mod', mul-add, mul_assoc, cases_eq, cases_lt, and_parts, or_cases, eqb-true, eq-eqb, not-true, both_ways, false≢true, mul-le, mul-mod_first, mul-mod_second, mul-mod_left, mul-mod_right, mod-add-div, mod_self, mod-eq_of_lt, div-le_self, list_any, AllByRecursion, field_moduli, IsFieldModulus}
use Rattle.matrix_models.proofs.Congruences.{add_cancel}

-- no number from 2 on below m divides it
abbrev IsPrime : ℕ → Type 0
IsPrime m = (d : ℕ) → 1 < d → d < m → 0 < m % d

-- no number from 2 to n + 1 divides m
abbrev undivided : ℕ → ℕ → Bool
undivided m zero = true
undivided m (suc n) = not (nat_eq (m % (n + 2)) 0) && undivided m n

undivided_at : (m n d : ℕ) → undivided m n ≡ true → 2 ≤ d → d ≤ n + 1 → m % d ≡ 0 → ⊥
undivided_at m zero d tried least most divides = absurd (omega arith)
undivided_at m (suc n) d tried least most divides = go (cases_eq d (n + 2)) (undivided_at m n d)
  where
    parts : (not (nat_eq (m % (n + 2)) 0) ≡ true) × (undivided m n ≡ true)
    parts = and_parts _ _ tried

    go : (d ≡ n + 2) ⊎ (d ≡ n + 2 → ⊥) → (undivided m n ≡ true → 2 ≤ d → d ≤ n + 1 → m % d ≡ 0 → ⊥) → ⊥
    go (inl here) _ = both_ways _ (not-true _ parts.0) (eq-eqb _ 0 (subst (λ x. m % x ≡ 0) here divides))
    go (inr other) before = before parts.1 least (omega arith) divides

-- no number divides m where none up to the root does
prime_from : (m n : ℕ) → undivided m n ≡ true → m < (n + 2) * (n + 2) → IsPrime m
prime_from m n tried root d least most = go (cases_eq (m % d) 0)
  where
    none : m % d ≡ 0 → ⊥
    none divides = by_size (cases_lt d (n + 2))
      where
        e : ℕ
        e = m / d

        product : m ≡ e * d
        product = let whole = div-add-mod' m d in omega (arith, whole, divides)

        other_divides : m % e ≡ 0
        other_divides = ap (λ x. x % e) product ∙ mul-mod_right e d

        by_size : (d < n + 2) ⊎ (n + 2 ≤ d) → ⊥
        by_size (inl small) = undivided_at m n d tried (omega arith) (omega arith) divides
        by_size (inr large) = by_other (cases_lt e 2) (cases_lt e (n + 2))
          where
            by_other : (e < 2) ⊎ (2 ≤ e) → (e < n + 2) ⊎ (n + 2 ≤ e) → ⊥
            by_other (inl one) _ = let most_is : e * d ≤ 1 * d = mul-le e d 1 d (omega arith) (omega arith) in absurd (omega (arith, product, most_is))
            by_other (inr two) (inl small) = undivided_at m n e tried two (omega arith) other_divides
            by_other (inr two) (inr big) = let least_is = mul-le (n + 2) (n + 2) e d big large in absurd (omega (arith, product, least_is, root))

    go : (m % d ≡ 0) ⊎ (m % d ≡ 0 → ⊥) → 0 < m % d
    go (inl divides) = absurd (none divides)
    go (inr nonzero) = omega arith

-- what holds of each number of a list holds of any that is among them
pub any_of : (P : ℕ → Type 0) (m : ℕ) (ks : List ℕ) → AllByRecursion P ks → list_any (nat_eq m) ks ≡ true → P m
any_of P m [] each is = absurd (false≢true is)
any_of P m (k ∷ ks) each is = go (or_cases _ _ is) (any_of P m ks each.1)
  where
    go : (nat_eq m k ≡ true) ⊎ (list_any (nat_eq m) ks ≡ true) → (list_any (nat_eq m) ks ≡ true → P m) → P m
    go (inl here) later = subst P (sym (eqb-true m k here)) each.0
    go (inr there) later = later there

each_prime : AllByRecursion IsPrime field_moduli
each_prime =
    let largest : AllByRecursion IsPrime (32003 ∷ 65537 ∷ []) = (prime_from 32003 177 refl (omega arith), (prime_from 65537 255 refl (omega arith), tt)) in
    let large : AllByRecursion IsPrime (5 ∷ 7 ∷ 101 ∷ 32003 ∷ 65537 ∷ []) =
    (prime_from 5 1 refl (omega arith), (prime_from 7 1 refl (omega arith), (prime_from 101 9 refl (omega arith), largest))) in
    (prime_from 2 0 refl (omega arith), (prime_from 3 0 refl (omega arith), large))

pub field_prime : (m : ℕ) → IsFieldModulus m → IsPrime m
field_prime m is = any_of IsPrime m field_moduli each_prime is

-- a number that isn't 0, and so above it
pub field_positive : (m : ℕ) → IsFieldModulus m → 0 < m
field_positive m is = go (cases_eq m 0)
  where
    go : (m ≡ 0) ⊎ (m ≡ 0 → ⊥) → 0 < m
    go (inl zero_is) = absurd (false≢true (subst IsFieldModulus zero_is is))
    go (inr other) = omega arith

-- and at most the greatest of them
pub field_small : (m : ℕ) → IsFieldModulus m → m ≤ 65537
field_small m is =
    let large : AllByRecursion (λ k. k ≤ 65537) (7 ∷ 101 ∷ 32003 ∷ 65537 ∷ []) = (omega arith, (omega arith, (omega arith, (omega arith, tt)))) in
    any_of (λ k. k ≤ 65537) m field_moduli (omega arith, (omega arith, (omega arith, large))) is

-- the product of r with the modulus less its quotient by r is congruent to its remainder by r
pub remainder_alike : (m r : ℕ) → 0 < r → r < m → (r * (m - m / r)) % m ≡ m % r
remainder_alike m r positive below =
    let all : r * (m - m / r) + r * (m / r) ≡ r * m = sym (mul-add r (m - m / r) (m / r)) ∙ ap (λ x. r * x) (omega (arith, div-le_self m r)) in
    let left : (r * (m - m / r) + r * (m / r)) % m ≡ 0 = ap (λ x. x % m) all ∙ mul-mod_left r m in
    let right : (m % r + r * (m / r)) % m ≡ 0 = ap (λ x. x % m) (mod-add-div m r) ∙ mod_self m in
    let small : m % r < r = mod-lt m positive in
    add_cancel m (r * (m - m / r)) (m % r) (r * (m / r)) (r * (m / r)) (omega arith) (left ∙ sym right) refl ∙ mod-eq_of_lt (omega (arith, small, below))

-- one step from a factor of a number to the next
pub next_factor : (m number factor rest : ℕ) → (number * factor) % m ≡ rest → 0 < rest → rest < m
    → (number * (factor * (m - m / rest) % m)) % m ≡ m % rest
next_factor m number factor rest product positive below =
    mul-mod_second number (factor * (m - m / rest)) m
    ∙ ap (λ x. x % m) (sym (mul_assoc number factor (m - m / rest)))
    ∙ sym (mul-mod_first (number * factor) (m - m / rest) m)
    ∙ ap (λ x. (x * (m - m / rest)) % m) product
    ∙ remainder_alike m rest positive below
