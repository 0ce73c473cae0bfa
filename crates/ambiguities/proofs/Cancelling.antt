-- The factors of the two rules make their leading coefficients equal.
use Rattle.std.proofs.Common.{◌≡◌, ℕ, suc, ◌*◌, ◌/◌, ℤ, pos, negsuc, neg_ℤ, ◌+ℤ◌, ◌*ℤ◌, ◌<ℤ◌, int_div, sym, ap, ◌∙◌, arith}
use Rattle.std.proofs.Math.IntN.{*ℤ_comm}
use Rattle.std.proofs.Math.Nat.{div-mul_cancel, mul_comm, mul_assoc}
use Rattle.std.proofs.lemmas.Int.{ints}
use Rattle.std.specs.Int.{IsGcd}
use Rattle.definitions.proofs.Integers.{*ℤ-neg_ℤ}
use Rattle.coef_int.proofs.Divisors.{gcd_within-IsGcd}
use Rattle.coef_int.specs.Divisor.{gcd_within, gcd_of}

-- (b / g) a = (a / g) b
crossed : (a b g : ℕ) → IsGcd a b g → (b / g) * a ≡ b * (a / g)
crossed a b g is_gcd =
    ap (λ n. (b / g) * n) (sym (div-mul_cancel g is_gcd.0) ∙ mul_comm (a / g) g)
    ∙ sym (mul_assoc (b / g) g (a / g)) ∙ ap (λ n. n * (a / g)) (div-mul_cancel g is_gcd.1)

nothing_left : (z : ℤ) → z +ℤ neg_ℤ z ≡ pos 0
nothing_left z = omega (arith, ints)

pub factors_cancel : (k l : ℤ) → pos 0 <ℤ k → pos 0 <ℤ l → int_div l (gcd_of k l) *ℤ k +ℤ neg_ℤ (int_div k (gcd_of k l)) *ℤ l ≡ pos 0
factors_cancel (pos a) (pos b) k_above l_above =
    let g = gcd_within (suc b) a b in
    let same : (b / g) * a ≡ b * (a / g) = crossed a b g (gcd_within-IsGcd (suc b) a b (omega arith)) in
    ap (λ z. pos ((b / g) * a) +ℤ z) (*ℤ_comm (neg_ℤ (pos (a / g))) (pos b) ∙ *ℤ-neg_ℤ (pos b) (pos (a / g)) ∙ ap (λ n. neg_ℤ (pos n)) (sym same))
    ∙ nothing_left (pos ((b / g) * a))
factors_cancel (pos a) (negsuc b) k_above l_above = absurd (omega (arith, ints, l_above))
factors_cancel (negsuc a) l k_above l_above = absurd (omega (arith, ints, k_above))
