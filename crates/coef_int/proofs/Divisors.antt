-- The greatest common divisor is that of the division with remainder.
use Rattle.std.proofs.Common.{◌≡◌, ℕ, zero, suc, ◌<◌, ◌+◌, ◌*◌, ◌/◌, ◌%◌, ℤ, pos, ◌<ℤ◌, refl, sym, subst, ap, ◌∙◌, arith}
use Rattle.std.proofs.Math.Nat.{div-add-mod, dvd-add_iff_right, dvd-mul_right_of_dvd, pos_of_dvd_of_pos}
use Rattle.std.proofs.lemmas.Int.{ints}
use Rattle.std.proofs.lemmas.Nat.Gcd.{IsGcd-from_mod, IsGcd-from_zero, same_from_IsGcd}
use Rattle.std.specs.Int.{◌∣◌, IsGcd}
use Rattle.std.specs.Int.RustNames.{unsigned_abs}
use Rattle.coef_int.specs.Divisor.{gcd_within, gcd_of}
use Rattle.coef_int.specs.Laws.{DivisorsAreGreatest}

pub gcd_within-IsGcd : (n a b : ℕ) → b < n → IsGcd a b (gcd_within n a b)
gcd_within-IsGcd zero a b enough = absurd (omega arith)
gcd_within-IsGcd (suc n) a zero enough = IsGcd-from_zero a zero refl
gcd_within-IsGcd (suc n) a (suc b) enough = IsGcd-from_mod a (suc b) (gcd_within n (suc b) (a % (suc b))) (gcd_within-IsGcd n (suc b) (a % (suc b)) (omega arith))

pub gcd_of-IsGcd : (x y : ℤ) → IsGcd (unsigned_abs x) (unsigned_abs y) (unsigned_abs (gcd_of x y))
gcd_of-IsGcd x y = gcd_within-IsGcd (suc (unsigned_abs y)) (unsigned_abs x) (unsigned_abs y) (omega arith)

pub divisors_are_greatest : DivisorsAreGreatest
divisors_are_greatest x y = let is_gcd = gcd_of-IsGcd x y in record { left = is_gcd.0; right = is_gcd.1; greatest = is_gcd.2; sign = tt }

-- what divides two numbers times a third one divides their greatest common divisor times that
scaled_rest : (k a m d : ℕ) → d ∣ k * a → d ∣ k * m → d ∣ k * (a % m)
scaled_rest k a m d of_a of_m = (dvd-add_iff_right d (dvd-mul_right_of_dvd d of_m (a / m))).1 (subst (λ n. d ∣ n) whole of_a)
  where
    spread : (m q r : ℕ) → k * (m * q + r) ≡ k * m * q + k * r
    spread m q r = grind arith

    whole : k * a ≡ k * m * (a / m) + k * (a % m)
    whole = ap (λ n. k * n) (sym (div-add-mod a m)) ∙ spread m (a / m) (a % m)

gcd_within-scaled : (n a b k d : ℕ) → b < n → d ∣ k * a → d ∣ k * b → d ∣ k * gcd_within n a b
gcd_within-scaled zero a b k d enough of_a of_b = absurd (omega arith)
gcd_within-scaled (suc n) a zero k d enough of_a of_b = of_a
gcd_within-scaled (suc n) a (suc b) k d enough of_a of_b =
    gcd_within-scaled n (suc b) (a % (suc b)) k d (omega arith) of_b (scaled_rest k a (suc b) d of_a of_b)

pub gcd_of-scaled : (x y : ℤ) (k d : ℕ) → d ∣ k * unsigned_abs x → d ∣ k * unsigned_abs y → d ∣ k * unsigned_abs (gcd_of x y)
gcd_of-scaled x y k d = gcd_within-scaled (suc (unsigned_abs y)) (unsigned_abs x) (unsigned_abs y) k d (omega arith)

pub gcd_same : (a b g : ℕ) → IsGcd a b g → g ≡ gcd_within (suc b) a b
gcd_same a b g is_gcd = same_from_IsGcd a b g (gcd_within (suc b) a b) is_gcd (gcd_within-IsGcd (suc b) a b (omega arith))

pub gcd_positive : (a b g : ℕ) → IsGcd a b g → 0 < b → 0 < g
gcd_positive a b g is_gcd above = pos_of_dvd_of_pos is_gcd.1 above

pub gcd_of-positive : (x y : ℤ) → pos 0 <ℤ x → pos 0 <ℤ gcd_of x y
gcd_of-positive x y above =
    let left : 0 < unsigned_abs x = omega (arith, ints) in
    let divides = gcd_of-IsGcd x y in
    let nonzero : 0 < gcd_within (suc (unsigned_abs y)) (unsigned_abs x) (unsigned_abs y) = pos_of_dvd_of_pos divides.0 left in
    omega (arith, ints, nonzero)

pub gcd_of-positive_right : (x y : ℤ) → pos 0 <ℤ y → pos 0 <ℤ gcd_of x y
gcd_of-positive_right x y above =
    let right : 0 < unsigned_abs y = omega (arith, ints) in
    let divides = gcd_of-IsGcd x y in
    let nonzero : 0 < gcd_within (suc (unsigned_abs y)) (unsigned_abs x) (unsigned_abs y) = pos_of_dvd_of_pos divides.1 right in
    omega (arith, ints, nonzero)
