-- The power of one term, by its coefficient and its word factor by factor, and the power of zero.
use Rattle.expressions.proofs.Prelude.{◌≡◌, ◌≢◌, ℕ, zero, suc, ◌+◌, ◌-◌, ◌<◌, ◌≤◌, ℤ, pos, negsuc, ◌*ℤ◌, true, List, [], ◌∷◌, ◌++◌, length, replicate, Ok, sym, ap, subst, ◌∙◌, arith, refl, length-append, Overflow, product_of, IsCoefficient, Poly, Term, PolyFault, Explains, size_fault, product_step, product_result, IsCanonical, canonical_none, one-left_fault, long_word, overflows-one, from-step, canonical-step, step_refuses, product_from, product_poly, power_poly, repeated_word}
use Rattle.nc_polynomial.specs.declared.fault.PolyFault.TheVariants as fault
use Rattle.expressions.proofs.Copies.{power-next, power-fault}

module _ (t : Term) (canonical : IsCanonical (t ∷ [])) where
  pub coefficient-alone : IsCoefficient t.0
  coefficient-alone = canonical.shaped.in_range 0 t (omega arith)

  nonzero-alone : t.0 ≢ pos 0
  nonzero-alone = canonical.shaped.nonzero 0 t (omega arith)

  pub short-alone : length t.1 ≤ 500
  short-alone = canonical.short 0 t (omega arith)

-- one more time
pub repeated-next : (i : ℕ) (w : List ℕ) → repeated_word (i + 1) w ≡ repeated_word i w ++ w
repeated-next i w = let next : i + 1 ≡ suc i = omega arith in ap (λ k. repeated_word k w) next

pub length-repeated-next : (i : ℕ) (w : List ℕ) → length (repeated_word (i + 1) w) ≡ length (repeated_word i w) + length w
length-repeated-next i w = ap length (repeated-next i w) ∙ length-append (repeated_word i w) w

-- the power so far and the factors that are left
module _ (t : Term) (canonical : IsCanonical (t ∷ [])) (n i : ℕ) (c : ℤ) (rest : product_from ((c, repeated_word i t.1) ∷ []) (replicate (n - i) (t ∷ [])) ≡ product_poly (replicate n (t ∷ [])))
    (so_far : IsCanonical ((c, repeated_word i t.1) ∷ [])) (inside : i < n) where
  abbrev s : Term
  s = (c, repeated_word i t.1)

  stops : (e : PolyFault) → Explains (product_step [] s (t ∷ [])) e → Explains (product_poly (replicate n (t ∷ []))) e
  stops e why = subst (λ r. Explains r e) rest (power-fault (t ∷ []) (s ∷ []) n i inside e (one-left_fault s (t ∷ []) e why))

  -- too many letters
  pub term-too_long : 500 < length (repeated_word i t.1) + length t.1 → Explains (product_poly (replicate n (t ∷ []))) (size_fault true)
  term-too_long long = stops (size_fault true) (step_refuses [] c (repeated_word i t.1) (t ∷ []) (size_fault true) (long_word t (nonzero-alone t canonical) s long))

  module _ (short : length (repeated_word i t.1) + length t.1 ≤ 500) where
    -- a coefficient that is too large
    pub term-overflows : (o : Overflow) → o ≡ product_of c t.0 → ¬ IsCoefficient (c *ℤ t.0) → Explains (product_poly (replicate n (t ∷ []))) (fault.Overflow o)
    term-overflows o is over = stops (fault.Overflow o) (overflows-one t (nonzero-alone t canonical) [] s o canonical_none.shaped short is over)

    module _ (fits : IsCoefficient (c *ℤ t.0)) where
      abbrev next : Poly
      next = (c *ℤ t.0, repeated_word (i + 1) t.1) ∷ []

      next_is : (c *ℤ t.0, repeated_word i t.1 ++ t.1) ∷ [] ≡ next
      next_is = ap (λ w. (c *ℤ t.0, w) ∷ []) (sym (repeated-next i t.1))

      made : product_result (s ∷ []) (t ∷ []) ≡ Ok next
      made = from-step t (nonzero-alone t canonical) [] s [] [] so_far refl canonical_none fits short ∙ ap Ok next_is

      pub term-next : product_from next (replicate (n - (i + 1)) (t ∷ [])) ≡ product_poly (replicate n (t ∷ []))
      term-next = power-next (t ∷ []) (s ∷ []) n i inside next made ∙ rest

      pub canonical-next : IsCanonical next
      canonical-next = subst IsCanonical next_is (canonical-step t (nonzero-alone t canonical) [] s [] [] so_far refl canonical_none fits short)

-- powers of zero
zeros : (n : ℕ) → product_from [] (replicate n []) ≡ Ok []
zeros zero = refl
zeros (suc n) = zeros n

pub power-zero : (exponent : ℤ) → power_poly exponent [] ≡ Ok []
power-zero (pos (suc n)) = zeros n
power-zero (pos zero) = refl
power-zero (negsuc n) = refl
