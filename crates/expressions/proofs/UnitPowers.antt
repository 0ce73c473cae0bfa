-- The power of one term whose coefficient is 1 or -1: no product is too large.
use Rattle.expressions.proofs.Prelude.{◌≡◌, ◌≢◌, ◌⊎◌, inl, inr, ℕ, zero, suc, ◌+◌, ◌-◌, ◌*◌, ◌%◌, ◌<◌, ◌≤◌, ◌^◌, ℤ, pos, negsuc, ◌*ℤ◌, Bool, true, false, nat_lt, [], ◌∷◌, length, replicate, Result, Ok, refl, sym, ap, ap₂, subst, ◌∙◌, arith, ltb-true, ltb-false, IsCoefficient, Poly, Term, PolyFault, Explains, size_fault, IsCanonical, one-*ℤ, product_from, product_poly, repeated_word, unsigned_abs}
use Rattle.expressions.proofs.RepeatedWords.{length-repeated}
use Rattle.expressions.proofs.TermPowers.{short-alone, term-too_long, term-next, canonical-next}

-- the coefficient
abbrev pub unit_after : ℤ → ℕ → ℤ
unit_after u zero = pos 1
unit_after u (suc n) = unit_after u n *ℤ u

unit-next : (u : ℤ) (i : ℕ) → unit_after u (i + 1) ≡ unit_after u i *ℤ u
unit-next u i = let next : i + 1 ≡ suc i = omega arith in ap (unit_after u) next

square : (u : ℤ) → unsigned_abs u ≡ 1 → u *ℤ u ≡ pos 1
square (pos n) e = ap (λ k. pos k *ℤ pos k) e
square (negsuc n) e = let none : n ≡ 0 = omega (arith, e) in ap (λ k. negsuc k *ℤ negsuc k) none

abbrev IsAfter : ℤ → ℕ → Type 0
IsAfter u n = ((n % 2 ≡ 0) × (unit_after u n ≡ pos 1)) ⊎ ((n % 2 ≡ 1) × (unit_after u n ≡ u))

by_turns : (u : ℤ) → unsigned_abs u ≡ 1 → (n : ℕ) → IsAfter u n
by_turns u unit zero = inl (refl, refl)
by_turns u unit (suc n) = elim (by_turns u unit n) [
  | inl (even, is) ↦ inr (omega (arith, even), ap (λ c. c *ℤ u) is ∙ one-*ℤ u)
  | inr (odd, is) ↦ inl (omega (arith, odd), ap (λ c. c *ℤ u) is ∙ square u unit)
]

pub unit-even : (u : ℤ) → unsigned_abs u ≡ 1 → (n : ℕ) → n % 2 ≡ 0 → unit_after u n ≡ pos 1
unit-even u unit n even = elim (by_turns u unit n) [
  | inl (e, is) ↦ is
  | inr (odd, is) ↦ absurd (omega (arith, even, odd))
]

pub unit-odd : (u : ℤ) → unsigned_abs u ≡ 1 → (n : ℕ) → n % 2 ≢ 0 → unit_after u n ≡ u
unit-odd u unit n odd = elim (by_turns u unit n) [
  | inl (even, is) ↦ absurd (odd even)
  | inr (e, is) ↦ is
]

unit_in : (u : ℤ) → unsigned_abs u ≡ 1 → (n : ℕ) → IsCoefficient (unit_after u n)
unit_in u unit n = elim (by_turns u unit n) [
  | inl (e, is) ↦ subst IsCoefficient (sym is) (let small : 1 < 2 ^ 127 = omega arith in small)
  | inr (e, is) ↦ subst IsCoefficient (sym is) (let small : unsigned_abs u < 2 ^ 127 = omega (arith, unit) in small)
]

-- the power
module _ (t : Term) (canonical : IsCanonical (t ∷ [])) (unit : unsigned_abs t.0 ≡ 1) (n : ℕ) where
  abbrev after : ℕ → Poly
  after i = (unit_after t.0 i, repeated_word i t.1) ∷ []

  abbrev whole : Result Poly PolyFault
  whole = product_poly (replicate n (t ∷ []))

  -- the factors that are left, after the power so far, make the whole power
  abbrev Leads : ℕ → Type 0
  Leads i = product_from (after i) (replicate (n - i) (t ∷ [])) ≡ whole

  next_is : (i : ℕ) → (unit_after t.0 i *ℤ t.0, repeated_word (i + 1) t.1) ∷ [] ≡ after (i + 1)
  next_is i = ap (λ c. (c, repeated_word (i + 1) t.1) ∷ []) (sym (unit-next t.0 i))

  fits : (i : ℕ) → IsCoefficient (unit_after t.0 i *ℤ t.0)
  fits i = subst IsCoefficient (unit-next t.0 i) (unit_in t.0 unit (i + 1))

  module _ (i : ℕ) (leads : Leads i) (so_far : IsCanonical (after i)) (inside : i < n) (short : length (repeated_word i t.1) + length t.1 ≤ 500) where
    leads-next : Leads (i + 1)
    leads-next = subst (λ p. product_from p (replicate (n - (i + 1)) (t ∷ [])) ≡ whole) (next_is i) (term-next t canonical n i (unit_after t.0 i) leads so_far inside short (fits i))

    canonical-after : IsCanonical (after (i + 1))
    canonical-after = subst IsCanonical (next_is i) (canonical-next t canonical n i (unit_after t.0 i) leads so_far inside short (fits i))

  -- the letters of a part of the power and of one more factor
  part : (i k : ℕ) → n ≡ i + suc k → length (repeated_word i t.1) + length t.1 ≤ n * length t.1
  part i k e =
      let count : length (repeated_word i t.1) ≡ i * length t.1 = length-repeated i t.1 in
      subst (λ m. length (repeated_word i t.1) + length t.1 ≤ m * length t.1) (sym e) (grind (arith, count))

  ends : (k i : ℕ) → n ≡ i + k → n * length t.1 ≤ 500 → Leads i → IsCanonical (after i) → (whole ≡ Ok (after n)) × IsCanonical (after n)
  ends zero i e short leads so_far =
      let at : i ≡ n = omega (arith, e) in
      let none : n - n ≡ 0 = omega arith in (
        sym (subst (λ j. product_from (after j) (replicate (n - j) (t ∷ [])) ≡ whole) at leads) ∙ ap (λ m. product_from (after n) (replicate m (t ∷ []))) none,
        subst (λ j. IsCanonical (after j)) at so_far,
      )
  ends (suc k) i e short leads so_far =
      let within : length (repeated_word i t.1) + length t.1 ≤ 500 = omega (arith, part i k e, short) in
      ends k (i + 1) (omega (arith, e)) short (leads-next i leads so_far (omega (arith, e)) within) (canonical-after i leads so_far (omega (arith, e)) within)

  step : (i : ℕ) → Leads i → IsCanonical (after i) → i < n → (length (repeated_word i t.1) + length t.1 ≤ 500 → Explains whole (size_fault true))
      → (b : Bool) → nat_lt 500 (length (repeated_word i t.1) + length t.1) ≡ b → Explains whole (size_fault true)
  step i leads so_far inside later true h = term-too_long t canonical n i (unit_after t.0 i) leads so_far inside (ltb-true 500 (length (repeated_word i t.1) + length t.1) h)
  step i leads so_far inside later false h = later (ltb-false 500 (length (repeated_word i t.1) + length t.1) h)

  stops : (k i : ℕ) → n ≡ i + k → 500 < n * length t.1 → Leads i → IsCanonical (after i) → Explains whole (size_fault true)
  stops zero i e long leads so_far =
      let at : i * length t.1 ≡ n * length t.1 = ap (λ m. m * length t.1) (omega (arith, e)) in
      absurd (omega (arith, at, short-alone (unit_after t.0 i, repeated_word i t.1) so_far, length-repeated i t.1, long))
  stops (suc k) i e long leads so_far =
      let inside : i < n = omega (arith, e) in
      step i leads so_far inside
      (λ within. stops k (i + 1) (omega (arith, e)) long (leads-next i leads so_far inside within) (canonical-after i leads so_far inside within))
      (nat_lt 500 (length (repeated_word i t.1) + length t.1)) refl

-- one factor is the term itself
module _ (t : Term) (canonical : IsCanonical (t ∷ [])) (unit : unsigned_abs t.0 ≡ 1) where
  abbrev first : Poly
  first = (unit_after t.0 1, repeated_word 1 t.1) ∷ []

  first_is : first ≡ t ∷ []
  first_is = ap (λ c. (c, t.1) ∷ []) (one-*ℤ t.0)

  begins : (n : ℕ) → product_from first (replicate (suc n - 1) (t ∷ [])) ≡ product_poly (replicate (suc n) (t ∷ []))
  begins n = let less : suc n - 1 ≡ n = omega arith in ap₂ (λ p m. product_from p (replicate m (t ∷ []))) first_is less

  power : (n : ℕ) → 1 ≤ n → n * length t.1 ≤ 500
      → (product_poly (replicate n (t ∷ [])) ≡ Ok ((unit_after t.0 n, repeated_word n t.1) ∷ [])) × IsCanonical ((unit_after t.0 n, repeated_word n t.1) ∷ [])
  power zero some short = absurd (omega (arith, some))
  power (suc n) some short = ends t canonical unit (suc n) n 1 (omega arith) short (begins n) (subst IsCanonical (sym first_is) canonical)

  module _ (n : ℕ) (some : 1 ≤ n) (short : n * length t.1 ≤ 500) (c : ℤ) (is : unit_after t.0 n ≡ c) where
    pub unit-power : product_poly (replicate n (t ∷ [])) ≡ Ok ((c, repeated_word n t.1) ∷ [])
    unit-power = (power n some short).0 ∙ ap (λ k. Ok ((k, repeated_word n t.1) ∷ [])) is

    pub canonical-unit : IsCanonical ((c, repeated_word n t.1) ∷ [])
    canonical-unit = subst (λ k. IsCanonical ((k, repeated_word n t.1) ∷ [])) is (power n some short).1

  pub unit-too_long : (n : ℕ) → 1 ≤ n → 500 < n * length t.1 → Explains (product_poly (replicate n (t ∷ []))) (size_fault true)
  unit-too_long zero some long = absurd (omega (arith, some))
  unit-too_long (suc n) some long = stops t canonical unit (suc n) n 1 (omega arith) long (begins n) (subst IsCanonical (sym first_is) canonical)
