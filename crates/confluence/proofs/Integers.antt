-- Integers whose sign or product is known.
use Rattle.std.proofs.Common.{◌≡◌, ◌≢◌, ◌⊎◌, inl, inr, ℕ, ◌<◌, refl, ap, sym, ◌∙◌, true, false, ℤ, pos, negsuc, ◌+ℤ◌, ◌*ℤ◌, ◌<ℤ◌, neg_ℤ, zero, suc, arith}
use Rattle.std.proofs.Math.IntN.{*ℤ_comm}
use Rattle.std.proofs.lemmas.Bool.Decides.{Decides-int_eq}
use Rattle.std.proofs.lemmas.Int.{ints}
use Rattle.std.specs.Ordering.{int_eq}
use Rattle.definitions.proofs.Integers.{*ℤ-neg_ℤ, *ℤ_zero}

pub neg_ℤ-*ℤ : (a b : ℤ) → neg_ℤ a *ℤ b ≡ neg_ℤ (a *ℤ b)
neg_ℤ-*ℤ a b = *ℤ_comm (neg_ℤ a) b ∙ *ℤ-neg_ℤ b a ∙ ap neg_ℤ (*ℤ_comm b a)

pub *ℤ_cancel : (e : ℕ) (a : ℤ) → 0 < e → pos e *ℤ a ≡ pos 0 → a ≡ pos 0
*ℤ_cancel zero a h z = absurd (omega arith)
*ℤ_cancel (suc e) a h z = *ℤ_zero e a z

pub positive_nat : (m : ℤ) → pos 0 <ℤ m → (n : ℕ) × (0 < n) × (m ≡ pos n)
positive_nat (pos n) h = (n, omega (arith, ints, h), refl)
positive_nat (negsuc n) h = absurd (omega (arith, ints, h))

-- the summands of a sum
pub first_part : (x a t : ℤ) → x ≡ a +ℤ t → x +ℤ neg_ℤ t ≡ a
first_part x a t e = omega (arith, ints, e)

pub second_part : (x a t : ℤ) → x ≡ a +ℤ t → x +ℤ neg_ℤ a ≡ t
second_part x a t e = omega (arith, ints, e)

pub nonzero_or : (x : ℤ) → (x ≡ pos 0) ⊎ (x ≢ pos 0)
nonzero_or x = (elim (int_eq x (pos 0)) as (λ b. int_eq x (pos 0) ≡ b → (x ≡ pos 0) ⊎ (x ≢ pos 0)) [
  | true ↦ λ e. inl ((Decides-int_eq x (pos 0)).0 e)
  | false ↦ λ e. inr (λ z. (cc (sym ((Decides-int_eq x (pos 0)).1 z) ∙ e)))
]) refl
