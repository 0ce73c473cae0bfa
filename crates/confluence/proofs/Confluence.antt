-- Where two rows of one top word differ by lower rows, a sum of rows has a top word of a row.
use Rattle.std.proofs.Common.{◌≡◌, ◌≢◌, ℕ, ◌*◌, ◌<◌, ◌⊎◌, inl, inr, refl, arith, subst, sym, ap, ◌∙◌, ℤ, pos, ◌+ℤ◌, ◌*ℤ◌, neg_ℤ}
use Rattle.std.proofs.Math.IntN.{*ℤ_comm, +ℤ_assoc, zero-*ℤ, *ℤ-zero, +ℤ_idl, +ℤ_idr}
use Rattle.std.proofs.Math.Nat.{mul-pos}
use Rattle.std.proofs.lemmas.Int.{ints}
use Rattle.definitions.proofs.Integers.{+ℤ-*ℤ, *ℤ-+ℤ, *ℤ_assoc, *ℤ-neg_ℤ}
use Rattle.definitions.specs.Poly.{Word}
use Rattle.confluence.proofs.Integers.{*ℤ_cancel, nonzero_or}
use Rattle.confluence.proofs.Spans.{Coefs, Span, nothing, more, part, single, span_same, span_scale, span_add, mul_swap}
use Rattle.confluence.proofs.Shifts.{span_bind}

-- an order of words and rows with a top word each. `Row M b`: b are the coefficients of a row whose greatest word is M
pub record Setting : Type 1 where
  pub Less : Word → Word → Type 0
  pub Row : Word → Coefs → Type 0
  pub less_trans : (u v w : Word) → Less u v → Less v w → Less u w
  pub induction : (P : Word → Type 0) → ((M : Word) → ((L : Word) → Less L M → P L) → P M) → (M : Word) → P M
  -- of two tops one is the greater, or they are one word
  pub compare : (M N : Word) (a b : Coefs) → Row M a → Row N b → (M ≡ N) ⊎ (Less M N ⊎ Less N M)
  pub lead : (M : Word) (b : Coefs) → Row M b → (k : ℕ) × (0 < k) × (b M ≡ pos k)
  pub above : (M w : Word) (b : Coefs) → Row M b → Less M w → b w ≡ pos 0
  -- two rows of one top differ, with multipliers, by lower rows
  pub meet : (M : Word) (a b : Coefs) → Row M a → Row M b → (e : ℕ) × (c : ℤ) × (0 < e) × Span (λ d. (L : Word) × Less L M × Row L d) (λ w. pos e *ℤ a w +ℤ neg_ℤ (c *ℤ b w))

left_over : (x y : ℤ) → pos 1 *ℤ (x +ℤ y) +ℤ neg_ℤ x ≡ y
left_over x y = ap (λ z. z +ℤ neg_ℤ x) (*ℤ-+ℤ (pos 1) x y) ∙ omega (arith, ints)

filtered : (d c b g n : ℤ) → d *ℤ (c *ℤ b +ℤ g) +ℤ n ≡ (d *ℤ c) *ℤ b +ℤ (d *ℤ g +ℤ n)
filtered d c b g n = ap (λ z. z +ℤ n) (*ℤ-+ℤ d (c *ℤ b) g ∙ ap (λ z. z +ℤ d *ℤ g) (sym (*ℤ_assoc d c b))) ∙ +ℤ_assoc ((d *ℤ c) *ℤ b) (d *ℤ g) n

joined : (x d c y k a b g : ℤ) → (x *ℤ d) *ℤ (c *ℤ b +ℤ g) +ℤ neg_ℤ (((d *ℤ c) *ℤ y +ℤ x *ℤ k) *ℤ a) ≡ (d *ℤ c) *ℤ (x *ℤ b +ℤ neg_ℤ (y *ℤ a)) +ℤ x *ℤ (d *ℤ g +ℤ neg_ℤ (k *ℤ a))
joined x d c y k a b g = simp (*ℤ-+ℤ, +ℤ-*ℤ, *ℤ_assoc, *ℤ-neg_ℤ) (let e : x *ℤ (d *ℤ (c *ℤ b)) ≡ d *ℤ (c *ℤ (x *ℤ b)) =
    (mul_swap x d (c *ℤ b) ∙ ap (λ z. d *ℤ z) (mul_swap x c b)) in omega (arith, ints, e))

module _ (s : Setting) where
  abbrev pub Lower : Word → Coefs → Type 0
  Lower M d = (L : Word) × s.Less L M × s.Row L d

  abbrev pub AtMost : Word → Coefs → Type 0
  AtMost M d = (L : Word) × ((L ≡ M) ⊎ s.Less L M) × s.Row L d

  pub lower_zero : (M : Word) (f : Coefs) → Span (Lower M) f → f M ≡ pos 0
  lower_zero M _ (nothing f h) = h M
  lower_zero M _ (more f g b c hb hg h) = h M ∙ ap (λ x. c *ℤ x +ℤ g M) (s.above hb.0 M b hb.2 hb.1) ∙ ap (λ x. x +ℤ g M) (*ℤ-zero c) ∙ +ℤ_idl (g M) ∙ lower_zero M g hg
  lower_zero M _ (part f g e pe hg h) = *ℤ_cancel e (f M) pe (sym (h M) ∙ lower_zero M g hg)

  -- one row at M is enough
  pub data Collapsed (M : Word) (f : Coefs) : Type 0 where
    low : Span (Lower M) f → Collapsed M f
    one_row : (e : ℕ) (c : ℤ) (b : Coefs) → 0 < e → s.Row M b → Span (Lower M) (λ w. pos e *ℤ f w +ℤ neg_ℤ (c *ℤ b w)) → Collapsed M f

  pub collapse : (M : Word) (f : Coefs) → Span (AtMost M) f → Collapsed M f
  collapse M _ (nothing f h) = low (nothing f h)
  collapse M _ (more f g b c (L, which, row) hg h) = after (collapse M g hg) which
    where
      after : Collapsed M g → ((L ≡ M) ⊎ s.Less L M) → Collapsed M f
      after (low l) (inl e) = one_row 1 c b (omega arith) (subst (λ X. s.Row X b) e row) (span_same (Lower M) g _ l (λ w. ap (λ x. pos 1 *ℤ x +ℤ neg_ℤ (c *ℤ b w)) (h w) ∙ left_over (c *ℤ b w) (g w)))
      after (low l) (inr lt) = low (more f g b c (L, lt, row) l h)
      after (one_row d k a pd ha l) (inr lt) = one_row d k a pd ha (more _ (λ w. pos d *ℤ g w +ℤ neg_ℤ (k *ℤ a w)) b (pos d *ℤ c) (L, lt, row) l (λ w. ap (λ x. pos d *ℤ x +ℤ neg_ℤ (k *ℤ a w)) (h w) ∙ filtered (pos d) c (b w) (g w) (neg_ℤ (k *ℤ a w))))
      after (one_row d k a pd ha l) (inl e) = let (x, y, px, sp) = s.meet M b a (subst (λ X. s.Row X b) e row) ha in
          one_row (x * d) ((pos d *ℤ c) *ℤ y +ℤ pos x *ℤ k) a (mul-pos px pd) ha (span_same (Lower M) (λ w. (pos d *ℤ c) *ℤ (pos x *ℤ b w +ℤ neg_ℤ (y *ℤ a w)) +ℤ pos x *ℤ (pos d *ℤ g w +ℤ neg_ℤ (k *ℤ a w))) _ (span_add (Lower M) _ _ (span_scale (Lower M) (pos d *ℤ c) _ sp) (span_scale (Lower M) (pos x) _ l)) (λ w. ap (λ z. pos (x * d) *ℤ z +ℤ neg_ℤ (((pos d *ℤ c) *ℤ y +ℤ pos x *ℤ k) *ℤ a w)) (h w) ∙ joined (pos x) (pos d) c y k (a w) (b w) (g w)))
  collapse M _ (part f g e pe hg h) = elim (collapse M g hg) [
    | low l ↦ low (part f g e pe l h)
    | one_row d c b pd hb l ↦ one_row (d * e) c b (mul-pos pd pe) hb (span_same (Lower M) (λ w. pos d *ℤ g w +ℤ neg_ℤ (c *ℤ b w)) _ l (λ w. ap (λ x. x +ℤ neg_ℤ (c *ℤ b w)) (*ℤ_assoc (pos d) (pos e) (f w) ∙ ap (λ x. pos d *ℤ x) (sym (h w)))))
  ]

  at_most_weaker : (M N : Word) → ((M ≡ N) ⊎ s.Less M N) → (f : Coefs) → Span (AtMost M) f → Span (AtMost N) f
  at_most_weaker M N r = span_bind (AtMost M) (AtMost N) each
    where
      joined_below : (L : Word) → ((L ≡ M) ⊎ s.Less L M) → ((M ≡ N) ⊎ s.Less M N) → (L ≡ N) ⊎ s.Less L N
      joined_below L (inl e) (inl h) = inl (e ∙ h)
      joined_below L (inl e) (inr h) = inr (subst (λ X. s.Less X N) (sym e) h)
      joined_below L (inr e) (inl h) = inr (subst (λ X. s.Less L X) h e)
      joined_below L (inr e) (inr h) = inr (s.less_trans L M N e h)

      each : (b : Coefs) → AtMost M b → Span (AtMost N) b
      each b (L, w, row) = single (AtMost N) b (L, joined_below L w r, row)

  abbrev pub SomeRow : Word → Type 0
  SomeRow N = (d : Coefs) × s.Row N d

  -- the greatest of the rows, for rows of any kind that have tops
  pub topped : (P : Word → Type 0) (f : Coefs) → Span (λ d. (L : Word) × P L × s.Row L d) f → ((w : Word) → f w ≡ pos 0) ⊎ ((N : Word) × P N × Span (AtMost N) f × SomeRow N)
  topped P _ (nothing f h) = inl h
  topped P _ (more f g b c (L, p, row) hg h) = elim (topped P g hg) [
    | inl z ↦ inr (L, p, more f g b c (L, inl refl, row) (nothing g z) h, (b, row))
    | inr (N, pn, sp, (d, at)) ↦ elim (s.compare L N b d row at) [
      | inl e ↦ inr (N, pn, more f g b c (L, inl e, row) sp h, (d, at))
      | inr (inl e) ↦ inr (N, pn, more f g b c (L, inr e, row) sp h, (d, at))
      | inr (inr e) ↦ inr (L, p, more f g b c (L, inl refl, row) (at_most_weaker N L (inr e) g sp) h, (b, row))
    ]
  ]
    where
      Goal : Type 0
      Goal = ((w : Word) → f w ≡ pos 0) ⊎ ((N : Word) × P N × Span (AtMost N) f × SomeRow N)
  topped P _ (part f g e pe hg h) = elim (topped P g hg) [
    | inl z ↦ inl (λ w. *ℤ_cancel e (f w) pe (sym (h w) ∙ z w))
    | inr (N, pn, sp, at) ↦ inr (N, pn, part f g e pe sp h, at)
  ]

  at_most_zero : (M w : Word) (f : Coefs) → s.Less M w → Span (AtMost M) f → f w ≡ pos 0
  at_most_zero M w _ above (nothing f h) = h w
  at_most_zero M w _ above (more f g b c (L, which, row) hg h) = h w ∙ ap (λ x. c *ℤ x +ℤ g w) (s.above L w b row (over which)) ∙ ap (λ x. x +ℤ g w) (*ℤ-zero c) ∙ +ℤ_idl (g w) ∙ at_most_zero M w g above hg
    where
      over : (L ≡ M) ⊎ s.Less L M → s.Less L w
      over (inl e) = subst (λ X. s.Less X w) (sym e) above
      over (inr less) = s.less_trans L M w less above
  at_most_zero M w _ above (part f g e pe hg h) = *ℤ_cancel e (f w) pe (sym (h w) ∙ at_most_zero M w g above hg)

  -- a word with a nonzero coefficient at which a row ends, and no greater word has one
  pub record HasTopRow (f : Coefs) : Type 0 where
    pub word : Word
    pub occurs : f word ≢ pos 0
    pub greatest : (w : Word) → s.Less word w → f w ≡ pos 0
    pub row : SomeRow word

  -- what is spanned by rows is zero, or a row ends at its greatest word
  pub zero_or_top_row : (M : Word) (f : Coefs) → Span (AtMost M) f → ((w : Word) → f w ≡ pos 0) ⊎ HasTopRow f
  zero_or_top_row M f = s.induction (λ M. Span (AtMost M) f → ((w : Word) → f w ≡ pos 0) ⊎ HasTopRow f) step M
    where
      step : (M : Word) → ((L : Word) → s.Less L M → Span (AtMost L) f → ((w : Word) → f w ≡ pos 0) ⊎ HasTopRow f) → Span (AtMost M) f → ((w : Word) → f w ≡ pos 0) ⊎ HasTopRow f
      step M ih sp = from_collapsed (collapse M f sp)
        where
          lowered : Span (Lower M) f → ((w : Word) → f w ≡ pos 0) ⊎ HasTopRow f
          lowered l = elim (topped (λ L. s.Less L M) f l) [ inl z ↦ inl z | inr (N, lt, sp', at) ↦ ih N lt sp' ]

          from_collapsed : Collapsed M f → ((w : Word) → f w ≡ pos 0) ⊎ HasTopRow f
          from_collapsed (low l) = lowered l
          from_collapsed (one_row e c b pe hb l) = by_top (nonzero_or (f M))
            where
              by_top : (f M ≡ pos 0) ⊎ (f M ≢ pos 0) → ((w : Word) → f w ≡ pos 0) ⊎ HasTopRow f
              by_top (inr n) = inr (record { word = M; occurs = n; greatest = λ w above. at_most_zero M w f above sp; row = (b, hb) })
              by_top (inl z) = lowered (part f (λ w. pos e *ℤ f w) e pe (span_same (Lower M) _ _ l
                  (λ w. sym (ap (λ z. pos e *ℤ f w +ℤ neg_ℤ (z *ℤ b w)) c_zero ∙ ap (λ z. pos e *ℤ f w +ℤ neg_ℤ z) (zero-*ℤ (b w)) ∙ +ℤ_idr
                  (pos e *ℤ f w)))) (λ w. refl))
                where
                  c_zero : c ≡ pos 0
                  c_zero = let (k, pk, at) = s.lead M b hb in
                      *ℤ_cancel k c pk (*ℤ_comm (pos k) c ∙ ap (λ z. c *ℤ z) (sym at) ∙ alone (pos e *ℤ f M) (c *ℤ b M) (ap (λ z. pos e *ℤ z) z ∙ *ℤ-zero (pos e)) (lower_zero M _ l))
                    where
                      alone : (x y : ℤ) → x ≡ pos 0 → x +ℤ neg_ℤ y ≡ pos 0 → y ≡ pos 0
                      alone x y p q = omega (arith, ints)
