-- Common divisors of coefficients, and quotients that leave nothing.
use Rattle.std.proofs.Common.{◌≡◌, ◌≢◌, ℕ, zero, suc, ◌<◌, ◌≤◌, ℤ, pos, negsuc, neg_ℤ, ◌+ℤ◌, ◌*◌, ◌*ℤ◌, List, [], ◌∷◌, ◌++◌, length, Some, take, get_or, ◌↔◌, sym, refl, ap, subst, ◌∙◌, arith}
use Rattle.std.proofs.Math.IntN.{*ℤ_comm, *ℤ-zero, +ℤ_idr}
use Rattle.std.proofs.Math.Nat.{one-dvd, eq-zero_of_zero-dvd, le-mul_of_pos_right, mul_comm}
use Rattle.std.proofs.lemmas.Int.{quot-rem, unsigned_abs-mul}
use Rattle.std.proofs.lemmas.List.{length-map, get_or-map}
use Rattle.std.proofs.lemmas.List.Elements.{All-take, All-weaker, All-pop, All-push}
use Rattle.std.proofs.lemmas.Nat.Gcd.{mod-eq-zero_of_dvd, dvd_trans}
use Rattle.std.specs.Int.{◌∣◌, IsGcd, IsNonNegative}
use Rattle.std.specs.Int.RustNames.{unsigned_abs, int_div, int_rem}
use Rattle.std.specs.List.{All}
use Rattle.definitions.specs.Poly.{Term, poly_multiple}
use Rattle.coef_int.specs.Range.{IsCoefficient}
use Rattle.nc_polynomial.specs.Content.{IsContent, DividesEach}
use Rattle.nc_polynomial.specs.Shape.{IsCanonical}
use Rattle.nc_polynomial.proofs.Shapes.{Descends, IsBelow, IsInRange, IsNonzero, IsDescending-from_recursion, recursion_from_IsDescending}

-- a number that divides leaves no remainder
no_remainder : (a d : ℤ) → unsigned_abs d ∣ unsigned_abs a → int_rem a d ≡ pos 0
no_remainder (pos a) d h = ap pos (mod-eq-zero_of_dvd (unsigned_abs d) h)
no_remainder (negsuc a) d h = ap (λ n. neg_ℤ (pos n)) (mod-eq-zero_of_dvd (unsigned_abs d) h)

pub quotient_times : (a d : ℤ) → unsigned_abs d ∣ unsigned_abs a → d *ℤ int_div a d ≡ a
quotient_times a d h =
    *ℤ_comm d (int_div a d)
    ∙ sym (+ℤ_idr (int_div a d *ℤ d)) ∙ ap (λ r. int_div a d *ℤ d +ℤ r) (sym (no_remainder a d h))
    ∙ quot-rem a d

-- the content
parts_of : (d : ℕ) (p : List Term) (t : Term) → DividesEach d (p ++ t ∷ []) → DividesEach d p × (d ∣ unsigned_abs t.0)
parts_of d p t h = All-pop (λ (u : Term). d ∣ unsigned_abs u.0) (p ++ t ∷ []) p (Some t) refl h

-- with a coefficient more
pub content-more : (p : List Term) (g : ℤ) (t : Term) (h : ℤ) → IsContent p g → IsGcd (unsigned_abs g) (unsigned_abs t.0) (unsigned_abs h) → IsNonNegative h → IsContent (p ++ t ∷ []) h
content-more p g t h content gcd sign = record {
  nonnegative = sign;
  divides = All-push (λ u. unsigned_abs h ∣ unsigned_abs u.0) p t (All-weaker (λ (u : Term). unsigned_abs g ∣ unsigned_abs u.0) (λ (u : Term). unsigned_abs h ∣ unsigned_abs u.0) (λ u each. dvd_trans (unsigned_abs h) gcd.0 each) p content.divides) gcd.1;
  greatest = λ d each. gcd.2 d (content.greatest d (parts_of d p t each).0) (parts_of d p t each).1;
}

abs_zero : (z : ℤ) → unsigned_abs z ≡ 0 → z ≡ pos 0
abs_zero (pos n) e = ap pos e
abs_zero (negsuc n) e = absurd (omega arith)

-- it is 0 for the polynomial zero alone
pub content-zero : (p : List Term) (g : ℤ) → All (λ t. t.0 ≢ pos 0) p → IsContent p g → (g ≡ pos 0) ↔ (p ≡ [])
content-zero [] g nonzero content = (λ e. refl, λ e. abs_zero g (eq-zero_of_zero-dvd (content.greatest 0 (λ i x h. absurd (omega arith)))))
content-zero (t ∷ p) g nonzero content = (λ e. absurd (nonzero 0 t (omega arith) (abs_zero t.0 (eq-zero_of_zero-dvd (subst (λ n. n ∣ unsigned_abs t.0) (ap unsigned_abs e) (content.divides 0 t (omega arith)))))), λ e. cc)

-- the quotient
pub abs_positive : (k : ℤ) → k ≢ pos 0 → 0 < unsigned_abs k
abs_positive (pos zero) h = absurd (h refl)
abs_positive (pos (suc n)) h = omega arith
abs_positive (negsuc n) h = omega arith

pub quotient_in : (a d : ℤ) → IsCoefficient a → d ≢ pos 0 → unsigned_abs d ∣ unsigned_abs a → IsCoefficient (int_div a d)
quotient_in a d h nonzero divides =
    let below = le-mul_of_pos_right (unsigned_abs (int_div a d)) (abs_positive d nonzero) in
    let size : unsigned_abs d * unsigned_abs (int_div a d) ≡ unsigned_abs a = sym (unsigned_abs-mul d (int_div a d)) ∙ ap unsigned_abs (quotient_times a d divides) in
    let turned = mul_comm (unsigned_abs d) (unsigned_abs (int_div a d)) in
    omega arith

-- what holds of each term of a multiple
pub at_multiple : (k : ℤ) (P : Term → Type 0) (v : List Term) → All P (poly_multiple k v) → All (λ t. P (k *ℤ t.0, t.1)) v
at_multiple k P v h i t lt =
    let size : length (poly_multiple k v) ≡ length v = length-map v (λ (u : Term). (k *ℤ u.0, u.1)) in
    subst P (get_or-map (λ (u : Term). (k *ℤ u.0, u.1)) v i t (k *ℤ t.0, t.1) lt) (h i (k *ℤ t.0, t.1) (omega arith))

module _ (k : ℤ) (nonzero : k ≢ pos 0) where
  descending_back : (v : List Term) → Descends (poly_multiple k v) → Descends v
  descending_back [] d = tt
  descending_back (t ∷ v) d = (at_multiple k (IsBelow t.1) v d.0, descending_back v d.1)

  smaller : (z : ℤ) → IsCoefficient (k *ℤ z) → IsCoefficient z
  smaller z whole =
      let product = unsigned_abs-mul k z in
      let at_most = le-mul_of_pos_right (unsigned_abs z) (abs_positive k nonzero) in
      let turned = mul_comm (unsigned_abs z) (unsigned_abs k) in
      omega arith

  -- a polynomial that has a canonical multiple is canonical
  pub canonical_back : (v p : List Term) → poly_multiple k v ≡ p → IsCanonical p → IsCanonical v
  canonical_back v p e h =
      let q : IsCanonical (poly_multiple k v) = subst IsCanonical (sym e) h in
      record {
        shaped = record {
          descending = IsDescending-from_recursion v (descending_back v (recursion_from_IsDescending (poly_multiple k v) q.shaped.descending));
          nonzero = λ i t lt e. at_multiple k IsNonzero v q.shaped.nonzero i t lt (ap (λ z. k *ℤ z) e ∙ *ℤ-zero k);
          in_range = λ i t lt. smaller (get_or v i t).0 (at_multiple k IsInRange v q.shaped.in_range i t lt);
        };
        short = at_multiple k (λ (t : Term). length t.1 ≤ 500) v q.short;
        few = subst (λ n. n ≤ 20000) (length-map v (λ (t : Term). (k *ℤ t.0, t.1))) q.few;
      }

pub multiple-append : (k : ℤ) (p : List Term) (t : Term) → poly_multiple k (p ++ t ∷ []) ≡ poly_multiple k p ++ (k *ℤ t.0, t.1) ∷ []
multiple-append k [] t = refl
multiple-append k (u ∷ p) t = ap (λ rest. (k *ℤ u.0, u.1) ∷ rest) (multiple-append k p t)

-- where the first terms have no common divisor but 1, neither have all
pub content-one : (n : ℕ) (p : List Term) → IsContent (take n p) (pos 1) → IsContent p (pos 1)
content-one n p front = record {
  nonnegative = front.nonnegative;
  divides = λ k d below. one-dvd (unsigned_abs (get_or p k d).0);
  greatest = λ d each. front.greatest d (All-take (λ t. d ∣ unsigned_abs t.0) n p each);
}
