-- the terms of a sum, and those that a scale does not divide
use Rattle.cofactor_checker.proofs.Prelude.{◌≡◌, inl, inr, ℕ, zero, suc, ℤ, pos, negsuc, ◌+ℤ◌, ◌*ℤ◌, neg_ℤ, ◌≤ℤ◌, int_div, List, [], ◌∷◌, ◌++◌, map, length, Bool, true, false, cond, nat_lt, Result, Ok, Err, refl, sym, ap, ap₂, subst, ◌∙◌, arith, ints, unsigned_abs-mul, dvd-mul_right, BTreeMap, IsOrdered, ◌∣◌, unsigned_abs, All-push, word_cmp, Overflow, poly_multiple, *ℤ-+ℤ, *ℤ-neg_ℤ, *ℤ_zero, quotient_times, sized, size_fault, has_long_word, PolyFault, reversed, collected, DividesEach, coefficient_of-collected, descending-collected, nonzero-collected, descending-table, nonzero-table, coefficient_of-table, descending_unique, IsSumOf, IsLeastIndivisible}
use Rattle.nc_polynomial.specs.declared.fault.PolyFault.TheVariants as fault

-- the terms of a map are those of each polynomial with its coefficients
pub collected_is : (m : BTreeMap (List ℕ) ℤ) (p : List (ℤ × List ℕ)) → IsOrdered word_cmp m → IsSumOf m p → reversed m.entries [] ≡ collected p
collected_is m p ordered sum =
    descending_unique (reversed m.entries []) (collected p) (descending-table m ordered) (descending-collected p) (nonzero-table m ordered) (nonzero-collected p)
    (record { at = λ w. coefficient_of-table m ordered w ∙ sum.at w ∙ sym (coefficient_of-collected p w) })

-- the last term, and those before it
pub last_indivisible : (s : ℤ) (greater : List (ℤ × List ℕ)) (t : ℤ × List ℕ) → (unsigned_abs s ∣ unsigned_abs t.0 → ⊥) → IsLeastIndivisible s (greater ++ t ∷ []) t.1 t.0
last_indivisible s [] t not = inr ((λ k d below. absurd (omega arith)), (not, refl))
last_indivisible s (u ∷ greater) t not = inl (last_indivisible s greater t not)

pub indivisible_before : (s : ℤ) (greater : List (ℤ × List ℕ)) (t : ℤ × List ℕ) (word : List ℕ) (got : ℤ) → unsigned_abs s ∣ unsigned_abs t.0 → IsLeastIndivisible s greater word got → IsLeastIndivisible s (greater ++ t ∷ []) word got
indivisible_before s [] t word got divides found = absurd found
indivisible_before s (u ∷ greater) t word got divides (inl later) = inl (indivisible_before s greater t word got divides later)
indivisible_before s (u ∷ greater) t word got divides (inr here) = inr (All-push (λ x. unsigned_abs s ∣ unsigned_abs x.0) greater t here.0 divides, here.1)

pub all_divisible : (s : ℤ) (greater : List (ℤ × List ℕ)) (t : ℤ × List ℕ) → unsigned_abs s ∣ unsigned_abs t.0 → DividesEach (unsigned_abs s) greater → DividesEach (unsigned_abs s) (greater ++ t ∷ [])
all_divisible s greater t divides each = All-push (λ x. unsigned_abs s ∣ unsigned_abs x.0) greater t each divides

-- a positive factor is cancelled
cancelled : (s x y : ℤ) → pos 1 ≤ℤ s → s *ℤ x ≡ s *ℤ y → x ≡ y
cancelled (pos zero) x y least same = absurd (omega (arith, ints))
cancelled (negsuc n) x y least same = absurd (omega (arith, ints))
cancelled (pos (suc n)) x y least same =
    let apart : pos (suc n) *ℤ (x +ℤ neg_ℤ y) ≡ pos 0 =
    *ℤ-+ℤ (pos (suc n)) x (neg_ℤ y) ∙ ap (λ z. pos (suc n) *ℤ x +ℤ z) (*ℤ-neg_ℤ (pos (suc n)) y) ∙ difference (pos (suc n) *ℤ x) (pos (suc n) *ℤ y) same in
    let none : x +ℤ neg_ℤ y ≡ pos 0 = *ℤ_zero n (x +ℤ neg_ℤ y) apart in
    omega (arith, ints)
  where
    difference : (a b : ℤ) → a ≡ b → a +ℤ neg_ℤ b ≡ pos 0
    difference a b e = omega (arith, ints)

-- a quotient of a multiple
pub quotient_back : (s : ℤ) (p : List (ℤ × List ℕ)) → pos 1 ≤ℤ s → map (λ t. (int_div t.0 s, t.1)) (poly_multiple s p) ≡ p
quotient_back s [] least = refl
quotient_back s (t ∷ p) least = ap₂ (λ z q. (z, t.1) ∷ q) one (quotient_back s p least)
  where
    one : int_div (s *ℤ t.0) s ≡ t.0
    one = cancelled s (int_div (s *ℤ t.0) s) t.0 least (quotient_times (s *ℤ t.0) s (subst (λ n. unsigned_abs s ∣ n) (sym (unsigned_abs-mul s t.0)) (dvd-mul_right (unsigned_abs s) (unsigned_abs t.0))))

-- the size of a polynomial is no overflow
pub no_overflow : (p : List (ℤ × List ℕ)) (o : Overflow) → sized p ≡ Err (fault.Overflow o) → ⊥
no_overflow p o is = by (has_long_word p) (nat_lt 20000 (length p)) is
  where
    by : (a b : Bool) → ◌≡◌ {A = Result (List (ℤ × List ℕ)) PolyFault} (cond a (Err (size_fault true)) (cond b (Err (size_fault false)) (Ok p))) (Err (fault.Overflow o)) → ⊥
    by true b same = absurd cc
    by false true same = absurd cc
    by false false same = absurd cc

-- a list of no items
pub empty : {X : Type 0} (xs : List X) → length xs ≡ 0 → xs ≡ []
empty [] none = refl
empty (x ∷ xs) none = absurd (omega arith)
