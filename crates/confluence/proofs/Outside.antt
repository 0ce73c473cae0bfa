-- Rows with a bound for their top words, and rows over polynomials that come from such rows.
use Rattle.std.proofs.Common.{◌≡◌, ◌≢◌, ◌⊎◌, inl, inr, refl, subst, sym, ap, ◌∙◌, List, [], ◌∷◌, ◌++◌, Bool, true, false, cond, pos, ◌+ℤ◌, ◌*ℤ◌}
use Rattle.std.proofs.Math.IntN.{*ℤ-zero, +ℤ_idl}
use Rattle.definitions.proofs.Linear.{word_eq-true}
use Rattle.definitions.specs.Poly.{Word, Term, word_eq, coefficient_of, poly_between}
use Rattle.word_orders.specs.Orders.{Order}
use Rattle.ambiguities.proofs.Multiples.{coefficient_of-around}
use Rattle.confluence.proofs.Integers.{*ℤ_cancel}
use Rattle.confluence.proofs.TermWords.{AllWords, all_words_map}
use Rattle.confluence.proofs.Spans.{Coefs, Span, nothing, more, part, span_same}
use Rattle.confluence.proofs.Shifts.{shift, span_shift, coefficient_of-between}
use Rattle.confluence.proofs.Led.{IsAtMostOf}
use Rattle.confluence.proofs.Meets.{Rules, Allowed, may_factor, Row, row_bound, poly, row_shift, tail_below}

pub coefficient_word : (P : Word → Type 0) (p : List Term) (w : Word) → AllWords P p → (coefficient_of p w ≡ pos 0) ⊎ P w
coefficient_word P [] w e = inl refl
coefficient_word P (t ∷ p) w e = by_word (coefficient_word P p w e.1) (word_eq t.1 w) refl
  where
    by_word : (coefficient_of p w ≡ pos 0) ⊎ P w → (b : Bool) → word_eq t.1 w ≡ b → (coefficient_of (t ∷ p) w ≡ pos 0) ⊎ P w
    by_word ih true h = inr (subst P (word_eq-true t.1 w h) e.0)
    by_word (inl z) false h = inl (ap (λ b. cond b t.0 (pos 0) +ℤ coefficient_of p w) h ∙ +ℤ_idl (coefficient_of p w) ∙ z)
    by_word (inr k) false h = inr k

-- at most a word of a polynomial
abbrev pub at_most_of : (o : Order) → List Term → Allowed o
at_most_of o p = record { May = λ u. IsAtMostOf o p u; closed = λ u v h k. record { word = k.word; occurs = k.occurs; at_most = inr (joined u v k.word h k.at_most) } }
  where
    joined : (u v w : Word) → o.Less u v → (v ≡ w) ⊎ o.Less v w → o.Less u w
    joined u v w h (inl e) = subst (λ z. o.Less u z) e h
    joined u v w h (inr k) = o.less_trans u v w h k

module _ (o : Order) (g : Rules o) where
  abbrev pub AnyRow : Allowed o → Coefs → Type 0
  AnyRow q b = (M : Word) × Row o g q M b

  -- a word of a row is in range and may be a top
  pub row_word : (q : Allowed o) (M w : Word) (b : Coefs) → Row o g q M b → (b w ≡ pos 0) ⊎ (o.Range w × q.May w)
  row_word q M w b x = elim (coefficient_word P (poly_between x.left (poly (g.rule x.number)) x.right) w (at_top, each)) [
    | inl z ↦ inl (x.is w ∙ z)
    | inr k ↦ inr k
  ]
    where
      P : Word → Type 0
      P u = o.Range u × q.May u

      at_top : P (x.left ++ ((g.rule x.number).lead ++ x.right))
      at_top = (subst o.Range x.top x.range, subst q.May x.top x.may)

      each : AllWords P (poly_between x.left (g.rule x.number).tail x.right)
      each = all_words_map (λ u. o.Less u M) P (λ u k. (o.less_range u M k, q.closed u M k x.may)) _ (tail_below o g q x.number x.left x.right M x.has x.top x.range)

  pub span_word : (q : Allowed o) (f : Coefs) → Span (AnyRow q) f → (w : Word) → (f w ≡ pos 0) ⊎ (o.Range w × q.May w)
  span_word q _ (nothing f h) w = inl (h w)
  span_word q _ (more f k b c (M, row) hk h) w = both (row_word q M w b row) (span_word q k hk w)
    where
      both : (b w ≡ pos 0) ⊎ (o.Range w × q.May w) → (k w ≡ pos 0) ⊎ (o.Range w × q.May w) → (f w ≡ pos 0) ⊎ (o.Range w × q.May w)
      both (inr r) _ = inr r
      both (inl z) (inr r) = inr r
      both (inl z) (inl y) = inl (h w ∙ ap (λ e. c *ℤ e +ℤ k w) z ∙ ap (λ e. e +ℤ k w) (*ℤ-zero c) ∙ +ℤ_idl (k w) ∙ y)
  span_word q _ (part f k e pe hk h) w = elim (span_word q k hk w) [ inr r ↦ inr r | inl z ↦ inl (*ℤ_cancel e (f w) pe (sym (h w) ∙ z)) ]

  -- rows over other polynomials, in which each word is in range and may be a top
  pub record Piece (q : Allowed o) (inner : List Term) (b : Coefs) : Type 0 where
    pub left : Word
    pub right : Word
    pub words : (w : Word) → (coefficient_of (poly_between left inner right) w ≡ pos 0) ⊎ (o.Range w × q.May w)
    pub is : (w : Word) → b w ≡ coefficient_of (poly_between left inner right) w

  -- where p comes from rows of words that are at most p's own, l p r comes from rows that may be there
  pub piece_span : (q : Allowed o) (p : List Term) (b : Coefs) → Span (AnyRow (at_most_of o p)) (coefficient_of p) → Piece q p b → Span (AnyRow q) b
  piece_span q p b sp t = span_same (AnyRow q) (shift t.left t.right (coefficient_of p)) b (span_shift (AnyRow (at_most_of o p)) (AnyRow q) t.left t.right each (coefficient_of p) sp) (λ w. t.is w ∙ coefficient_of-between t.left t.right p w)
    where
      Fits : Word → Type 0
      Fits v = o.Range (t.left ++ (v ++ t.right)) × q.May (t.left ++ (v ++ t.right))

      placed : (v : Word) → coefficient_of p v ≢ pos 0 → Fits v
      placed v n = elim (t.words (t.left ++ (v ++ t.right))) [
        | inl z ↦ absurd (n (sym (coefficient_of-around t.left t.right v p) ∙ z))
        | inr k ↦ k
      ]

      at_word : (L v : Word) → (L ≡ v) ⊎ o.Less L v → Fits v → Fits L
      at_word L v (inl e) k = subst Fits (sym e) k
      at_word L v (inr h) k = let up = o.compatible t.left L v t.right k.0 h in (o.less_range _ _ up, q.closed _ _ up k.1)

      each : (d : Coefs) → AnyRow (at_most_of o p) d → AnyRow q (shift t.left t.right d)
      each d (L, row) =
          let k = at_word L row.may.word row.may.at_most (placed row.may.word row.may.occurs) in
          let here = row_bound o g (at_most_of o p) q L d row (may_factor o q t.left L t.right k.0 k.1) in
          (t.left ++ (L ++ t.right), row_shift o g q t.left t.right L d k.0 k.1 here)
