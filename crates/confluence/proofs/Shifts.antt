-- The coefficients of a polynomial between two words, and other maps of coefficients that keep sums and multiples.
use Rattle.std.proofs.Common.{◌≡◌, ◌≢◌, ◌⊎◌, inl, inr, refl, subst, sym, ap, ◌∙◌, List, ◌++◌, ◌+◌, ◌-◌, length, take, drop, Bool, true, false, true≢false, cond, ℤ, pos, negsuc, ◌+ℤ◌, ◌*ℤ◌, arith}
use Rattle.std.proofs.Math.IntN.{*ℤ-zero, +ℤ_idr}
use Rattle.std.proofs.lemmas.Bool.{false_from_ne_true}
use Rattle.std.proofs.lemmas.Int.{ints}
use Rattle.std.proofs.lemmas.List.{take_at, drop_at, length-append}
use Rattle.definitions.proofs.Linear.{word_eq-true, word_eq-same}
use Rattle.definitions.proofs.Projection.{coefficient_of-between_zero}
use Rattle.definitions.specs.Poly.{poly_between, Word, Term, word_eq, coefficient_of}
use Rattle.ambiguities.proofs.Multiples.{coefficient_of-around}
use Rattle.confluence.proofs.Integers.{nonzero_or}
use Rattle.confluence.proofs.Spans.{Coefs, Span, nothing, more, part, single, span_same, span_add, span_scale}

-- maps that keep sums and multiples
pub record IsLinear (T : Coefs → Coefs) : Type 0 where
  pub same : (f g : Coefs) → ((w : Word) → f w ≡ g w) → (w : Word) → T f w ≡ T g w
  pub sum : (c : ℤ) (f g : Coefs) (w : Word) → T (λ v. c *ℤ f v +ℤ g v) w ≡ c *ℤ T f w +ℤ T g w

module _ (T : Coefs → Coefs) (linear : IsLinear T) where
  pub linear-zero : (f : Coefs) → ((w : Word) → f w ≡ pos 0) → (w : Word) → T f w ≡ pos 0
  linear-zero f h w = linear.same f (λ v. negsuc 0 *ℤ f v +ℤ f v) (λ v. omega (arith, ints, h v)) w
      ∙ linear.sum (negsuc 0) f f w ∙ omega (arith, ints)

  pub linear-scale : (c : ℤ) (f : Coefs) (w : Word) → T (λ v. c *ℤ f v) w ≡ c *ℤ T f w
  linear-scale c f w = linear.same _ _ (λ v. sym (+ℤ_idr (c *ℤ f v))) w
      ∙ linear.sum c f (λ _. pos 0) w ∙ ap (λ z. c *ℤ T f w +ℤ z) (linear-zero (λ _. pos 0) (λ _. refl) w) ∙ +ℤ_idr _

  pub span_map : (Base Other : Coefs → Type 0) → ((b : Coefs) → Base b → Span Other (T b)) → (f : Coefs) → Span Base f → Span Other (T f)
  span_map Base Other each _ (nothing f h) = nothing _ (linear-zero f h)
  span_map Base Other each _ (more f g b c hb hg h) =
      span_same Other (λ w. c *ℤ T b w +ℤ T g w) _ (span_add Other _ _ (span_scale Other c _ (each b hb)) (span_map Base Other each g hg))
      (λ w. linear.same f _ h w ∙ linear.sum c b g w)
  span_map Base Other each _ (part f g e pe hg h) =
      part _ (T g) e pe (span_map Base Other each g hg) (λ w. linear.same g _ h w ∙ linear-scale (pos e) f w)

-- where each of the one kind is in the span of the other
pub span_bind : (Base Other : Coefs → Type 0) → ((b : Coefs) → Base b → Span Other b) → (f : Coefs) → Span Base f → Span Other f
span_bind = span_map (λ f. f) (record { same = λ f g h. h; sum = λ c f g w. refl })

-- what stands between l and r, if the word begins and ends so
middle : Word → Word → Word → Word
middle l r w = take (length w - (length l + length r)) (drop (length l) w)

middle-between : (l v r : Word) → middle l r (l ++ (v ++ r)) ≡ v
unfolding middle
middle-between l v r = ap (take (length (l ++ (v ++ r)) - (length l + length r))) (drop_at l (v ++ r) (length l) refl)
    ∙ take_at v r _ (omega (arith, length-append l (v ++ r), length-append v r))

is_between : Word → Word → Word → Bool
is_between l r w = word_eq (l ++ (middle l r w ++ r)) w

is_between-true : (l v r : Word) → is_between l r (l ++ (v ++ r)) ≡ true
unfolding is_between
is_between-true l v r = ap (λ u. word_eq (l ++ (u ++ r)) (l ++ (v ++ r))) (middle-between l v r) ∙ word_eq-same (l ++ (v ++ r))

-- the coefficients of l p r, by those of p
pub shift : Word → Word → Coefs → Coefs
shift l r f w = cond (is_between l r w) (f (middle l r w)) (pos 0)

pub shift_linear : (l r : Word) → IsLinear (shift l r)
unfolding shift
shift_linear l r = record {
  same = λ f g h w. ap (λ z. cond (is_between l r w) z (pos 0)) (h (middle l r w));
  sum = λ c f g w. each c (f (middle l r w)) (g (middle l r w)) (is_between l r w);
}
  where
    each : (c x y : ℤ) (b : Bool) → cond b (c *ℤ x +ℤ y) (pos 0) ≡ c *ℤ cond b x (pos 0) +ℤ cond b y (pos 0)
    each c x y true = refl
    each c x y false = sym (ap (λ z. z +ℤ pos 0) (*ℤ-zero c))

pub span_shift : (Base Other : Coefs → Type 0) (l r : Word) → ((b : Coefs) → Base b → Other (shift l r b)) → (f : Coefs) → Span Base f → Span Other (shift l r f)
span_shift Base Other l r each = span_map (shift l r) (shift_linear l r) Base Other (λ b h. single Other (shift l r b) (each b h))

pub coefficient_of-between : (l r : Word) (p : List Term) (w : Word) → coefficient_of (poly_between l p r) w ≡ shift l r (coefficient_of p) w
unfolding shift is_between
coefficient_of-between l r p w = go (is_between l r w) refl
  where
    go : (b : Bool) → is_between l r w ≡ b → coefficient_of (poly_between l p r) w ≡ cond b (coefficient_of p (middle l r w)) (pos 0)
    go true e = ap (coefficient_of (poly_between l p r)) (sym (word_eq-true _ w e)) ∙ coefficient_of-around l r (middle l r w) p
    go false e = coefficient_of-between_zero l r w p (λ v _. false_from_ne_true (word_eq (l ++ (v ++ r)) w)
        (λ h. true≢false (sym (subst (λ x. is_between l r x ≡ true) (word_eq-true _ w h) (is_between-true l v r)) ∙ e)))

-- A word of l p r is l v r for a word v of p.
pub between_word : (l r : Word) (p : List Term) (w : Word)
    → (coefficient_of (poly_between l p r) w ≡ pos 0) ⊎ ((v : Word) × (w ≡ l ++ (v ++ r)) × (coefficient_of p v ≢ pos 0))
unfolding shift is_between
between_word l r p w = go (is_between l r w) refl (nonzero_or (coefficient_of p (middle l r w)))
  where
    at : (b : Bool) → is_between l r w ≡ b → coefficient_of (poly_between l p r) w ≡ cond b (coefficient_of p (middle l r w)) (pos 0)
    at b e = coefficient_of-between l r p w ∙ ap (λ t. cond t (coefficient_of p (middle l r w)) (pos 0)) e

    go : (b : Bool) → is_between l r w ≡ b → (coefficient_of p (middle l r w) ≡ pos 0) ⊎ (coefficient_of p (middle l r w) ≢ pos 0)
        → (coefficient_of (poly_between l p r) w ≡ pos 0) ⊎ ((v : Word) × (w ≡ l ++ (v ++ r)) × (coefficient_of p v ≢ pos 0))
    go false e _ = inl (at false e)
    go true e (inl none) = inl (at true e ∙ none)
    go true e (inr some) = inr (middle l r w, sym (word_eq-true _ w e), some)
