-- Each polynomial has a content, and can be divided by it.
use Rattle.confluence.proofs.Prelude.{◌≡◌, ◌≢◌, ◌<◌, ◌<ℤ◌, ℕ, zero, suc, ℤ, pos, negsuc, List, [], ◌∷◌, length, map, refl, ap, ap₂, arith, All, ◌∣◌, unsigned_abs, ints, dvd-zero, dvd_trans, All-nil, All-cons, All-head, All-tail, All-weaker, gcd_of, gcd_of-IsGcd, Term, poly_multiple, IsContent, quotient_times, content-zero, int_div}

pub record HasContent (p : List Term) : Type 0 where
  pub content : ℤ
  pub is : IsContent p content

zero_content : IsContent [] (pos 0)
zero_content = record {
  nonnegative = omega (arith, ints);
  divides = All-nil (λ (t : Term). 0 ∣ unsigned_abs t.0);
  greatest = λ d each. dvd-zero d;
}

content_with : (t : Term) (p : List Term) (g : ℤ) → IsContent p g → IsContent (t ∷ p) (gcd_of g t.0)
content_with t p g content =
    let both = gcd_of-IsGcd g t.0 in
    let d : ℕ = unsigned_abs (gcd_of g t.0) in
    record {
      nonnegative = omega (arith, ints);
      divides = All-cons (λ (u : Term). d ∣ unsigned_abs u.0) t p both.1
          (All-weaker (λ (u : Term). unsigned_abs g ∣ unsigned_abs u.0) (λ (u : Term). d ∣ unsigned_abs u.0) (λ u each. dvd_trans d both.0 each) p content.divides);
      greatest = λ e each. both.2 e (content.greatest e (All-tail (λ (u : Term). e ∣ unsigned_abs u.0) t p each)) (All-head (λ (u : Term). e ∣ unsigned_abs u.0) t p each);
    }

pub has_content : (p : List Term) → HasContent p
has_content [] = record { content = pos 0; is = zero_content }
has_content (t ∷ p) = let rest = has_content p in record { content = gcd_of rest.content t.0; is = content_with t p rest.content rest.is }

-- that of a polynomial other than zero is positive
pub positive_content : (p : List Term) (g : ℤ) → 0 < length p → All (λ t. t.0 ≢ pos 0) p → IsContent p g → pos 0 <ℤ g
positive_content p (pos zero) some nonzero content = absurd (omega (arith, some, ap length ((content-zero p (pos 0) nonzero content).0 refl)))
positive_content p (pos (suc n)) some nonzero content = omega (arith, ints)
positive_content p (negsuc n) some nonzero content = absurd (omega (arith, ints, content.nonnegative))

-- the polynomial with its coefficients divided
abbrev pub quotient : ℤ → List Term → List Term
quotient k p = map (λ t. (int_div t.0 k, t.1)) p

-- Where the number divides each coefficient, its multiple is the polynomial.
pub multiple_of_quotient : (k : ℤ) (p : List Term) → All (λ t. unsigned_abs k ∣ unsigned_abs t.0) p → poly_multiple k (quotient k p) ≡ p
multiple_of_quotient k [] each = refl
multiple_of_quotient k (t ∷ p) each = ap₂ (λ (z : ℤ) rest. (z, t.1) ∷ rest) (quotient_times t.0 k (each 0 t (omega arith))) (multiple_of_quotient k p (All-tail (λ (u : Term). unsigned_abs k ∣ unsigned_abs u.0) t p each))
