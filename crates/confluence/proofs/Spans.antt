-- What some positive multiple is a sum of multiples of given polynomials, by coefficients.
use Rattle.std.proofs.Common.{◌≡◌, ℕ, ◌<◌, refl, sym, ap, ◌∙◌, ℤ, pos, ◌+ℤ◌, ◌*ℤ◌, arith}
use Rattle.std.proofs.Math.IntN.{*ℤ_comm, +ℤ_assoc, *ℤ-zero, +ℤ_idl}
use Rattle.std.proofs.lemmas.Int.{ints}
use Rattle.definitions.proofs.Integers.{*ℤ-+ℤ, *ℤ_assoc}
use Rattle.definitions.specs.Poly.{Word}

-- the coefficients of a polynomial
abbrev pub Coefs : Type 0
Coefs = Word → ℤ

-- what some positive multiple is a sum of multiples of
pub data Span (Base : Coefs → Type 0) : Coefs → Type 0 where
  nothing : (f : Coefs) → ((w : Word) → f w ≡ pos 0) → Span Base f
  more : (f g b : Coefs) (c : ℤ) → Base b → Span Base g → ((w : Word) → f w ≡ c *ℤ b w +ℤ g w) → Span Base f
  part : (f g : Coefs) (e : ℕ) → 0 < e → Span Base g → ((w : Word) → g w ≡ pos e *ℤ f w) → Span Base f

pub span_same : (Base : Coefs → Type 0) (f g : Coefs) → Span Base f → ((w : Word) → g w ≡ f w) → Span Base g
span_same Base _ g (nothing f h) s = nothing g (λ w. s w ∙ h w)
span_same Base _ g (more f k b c hb hk h) s = more g k b c hb hk (λ w. s w ∙ h w)
span_same Base _ g (part f k e pe hk h) s = part g k e pe hk (λ w. h w ∙ ap (λ x. pos e *ℤ x) (sym (s w)))

pub mul_swap : (a b c : ℤ) → a *ℤ (b *ℤ c) ≡ b *ℤ (a *ℤ c)
mul_swap a b c = sym (*ℤ_assoc a b c) ∙ ap (λ x. x *ℤ c) (*ℤ_comm a b) ∙ *ℤ_assoc b a c

pub span_scale : (Base : Coefs → Type 0) (c : ℤ) (f : Coefs) → Span Base f → Span Base (λ w. c *ℤ f w)
span_scale Base c _ (nothing f h) = nothing _ (λ w. ap (λ x. c *ℤ x) (h w) ∙ *ℤ-zero c)
span_scale Base c _ (more f g b d hb hg h) = more _ (λ w. c *ℤ g w) b (c *ℤ d) hb (span_scale Base c g hg) (λ w. ap (λ x. c *ℤ x) (h w) ∙ *ℤ-+ℤ c (d *ℤ b w) (g w) ∙ ap (λ x. x +ℤ c *ℤ g w) (sym (*ℤ_assoc c d (b w))))
span_scale Base c _ (part f g e pe hg h) = part _ (λ w. c *ℤ g w) e pe (span_scale Base c g hg) (λ w. ap (λ x. c *ℤ x) (h w) ∙ mul_swap c (pos e) (f w))

pub span_add : (Base : Coefs → Type 0) (f g : Coefs) → Span Base f → Span Base g → Span Base (λ w. f w +ℤ g w)
span_add Base _ g (nothing f h) hg = span_same Base g _ hg (λ w. ap (λ x. x +ℤ g w) (h w) ∙ +ℤ_idl (g w))
span_add Base _ g (more f k b c hb hk h) hg = more _ (λ w. k w +ℤ g w) b c hb (span_add Base k g hk hg) (λ w. ap (λ x. x +ℤ g w) (h w) ∙ +ℤ_assoc (c *ℤ b w) (k w) (g w))
span_add Base _ g (part f k e pe hk h) hg = part _ (λ w. k w +ℤ pos e *ℤ g w) e pe (span_add Base k (λ w. pos e *ℤ g w) hk (span_scale Base (pos e) g hg)) (λ w. ap (λ x. x +ℤ pos e *ℤ g w) (h w) ∙ sym (*ℤ-+ℤ (pos e) (f w) (g w)))

pub single : (Base : Coefs → Type 0) (b : Coefs) → Base b → Span Base b
single Base b h = more b (λ _. pos 0) b (pos 1) h (nothing _ (λ _. refl)) (λ w. omega (arith, ints))
