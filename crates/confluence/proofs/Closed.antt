-- A sum of rows over resolved rules is zero, or a row ends at its greatest word.
use Rattle.std.proofs.Common.{◌≡◌, ◌≢◌, ℕ, ◌<◌, ◌⊎◌, inl, inr, refl, arith, sym, ap, ◌∙◌, ◌++◌, Bool, true, false, ℤ, pos, ◌+ℤ◌, ◌*ℤ◌, neg_ℤ}
use Rattle.std.proofs.Math.IntN.{+ℤ_invr}
use Rattle.std.proofs.lemmas.List.{append_cancel_left}
use Rattle.definitions.proofs.Linear.{word_eq-true, word_eq-same}
use Rattle.definitions.specs.Poly.{Word, word_eq, coefficient_of, poly_between}
use Rattle.word_orders.specs.Orders.{Order}
use Rattle.confluence.proofs.Spans.{Coefs, Span, nothing, single, span_same}
use Rattle.confluence.proofs.Shifts.{span_bind}
use Rattle.confluence.proofs.Places.{first, second, two_places}
use Rattle.confluence.proofs.Confluence.{Setting, topped, HasTopRow, zero_or_top_row}
use Rattle.confluence.proofs.Meets.{Rules, Allowed, Row, Under, poly, row_lead, row_above, Meets, meets_swap, Resolved, meets}

module _ (o : Order) (g : Rules o) (q : Allowed o) (res : Resolved o g q) where
  abbrev pub Meet : Word → Coefs → Coefs → Type 0
  Meet M a b = (e : ℕ) × (c : ℤ) × (0 < e) × Span (Under o g q M) (λ w. pos e *ℤ a w +ℤ neg_ℤ (c *ℤ b w))

  pub meet_rows : (M : Word) (a b : Coefs) → Row o g q M a → Row o g q M b → Meet M a b
  meet_rows M a b x y = by_number (g.same_number x.number y.number)
    where
      fa : Coefs
      fa = coefficient_of (poly_between x.left (poly (g.rule x.number)) x.right)

      fb : Coefs
      fb = coefficient_of (poly_between y.left (poly (g.rule y.number)) y.right)

      from_meets : Meets o g q M x.left x.number x.right y.left y.number y.right → Meet M a b
      from_meets m = (m.one, pos m.other, m.one_positive, span_same (Under o g q M) (λ w. pos m.one *ℤ fa w +ℤ neg_ℤ (pos m.other *ℤ fb w)) _ m.difference (λ w. ap (λ z. pos m.one *ℤ z +ℤ neg_ℤ (pos m.other *ℤ b w)) (x.is w) ∙ ap (λ z. pos m.one *ℤ fa w +ℤ neg_ℤ (pos m.other *ℤ z)) (y.is w)))

      by_place : (x.number ≡ y.number → x.left ≢ y.left) → Meet M a b
      by_place n = from_meets (elim (two_places (g.rule x.number).lead (g.rule y.number).lead x.left x.right y.left y.right (sym x.top ∙ y.top)) [
        | first p ↦ meets o g q res M x.left x.number x.right y.left y.number y.right x.has y.has x.range x.may x.top y.top n p
        | second p ↦ meets_swap o g q _ _ _ _ _ _ _ (meets o g q res M y.left y.number y.right x.left x.number x.right y.has x.has x.range x.may y.top x.top (λ e l. n (sym e) (sym l)) p)
      ])

      by_number : (x.number ≡ y.number) ⊎ (x.number ≢ y.number) → Meet M a b
      by_number (inr n) = by_place (λ e. absurd (n e))
      by_number (inl e) = by_left (word_eq x.left y.left) refl
        where
          by_left : (t : Bool) → word_eq x.left y.left ≡ t → Meet M a b
          by_left false h = by_place (λ _ l. (cc (sym h ∙ ap (λ z. word_eq x.left z) (sym l) ∙ word_eq-same x.left)))
          by_left true h = (1, pos 1, omega arith, nothing _ (λ w. ap (λ z. pos 1 *ℤ z +ℤ neg_ℤ (pos 1 *ℤ b w)) (equal w) ∙ +ℤ_invr (pos 1 *ℤ b w)))
            where
              rights : x.right ≡ y.right
              rights = append_cancel_left (g.rule x.number).lead x.right y.right (append_cancel_left x.left ((g.rule x.number).lead ++ x.right) ((g.rule x.number).lead ++ y.right) (sym x.top ∙ y.top ∙ ap (λ z. z ++ ((g.rule y.number).lead ++ y.right)) (sym (word_eq-true x.left y.left h)) ∙ ap (λ z. x.left ++ ((g.rule z).lead ++ y.right)) (sym e)))

              equal : (w : Word) → a w ≡ b w
              equal w = x.is w ∙ ap (λ z. coefficient_of (poly_between z (poly (g.rule x.number)) x.right) w) (word_eq-true x.left y.left h) ∙ ap (λ z. coefficient_of (poly_between y.left (poly (g.rule z)) x.right) w) e ∙ ap (λ z. coefficient_of (poly_between y.left (poly (g.rule y.number)) z) w) rights ∙ sym (y.is w)

  abbrev pub setting : Setting
  setting = record {
    Less = o.Less;
    Row = Row o g q;
    less_trans = o.less_trans;
    induction = o.induction;
    compare = λ M N a b x y. o.compare M N x.range y.range;
    lead = row_lead o g q;
    above = row_above o g q;
    meet = meet_rows;
  }

  -- what is a combination of resolved rules is zero, or a row ends at its greatest word
  pub zero_or_reducible : (f : Coefs) → Span (λ b. (M : Word) × Row o g q M b) f → ((w : Word) → f w ≡ pos 0) ⊎ HasTopRow setting f
  zero_or_reducible f sp = elim (topped setting (λ _. Unit {0}) f (span_bind _ _ each f sp)) [
    | inl z ↦ inl z
    | inr (N, u, sp', at) ↦ zero_or_top_row setting N f sp'
  ]
    where
      each : (b : Coefs) → ((M : Word) × Row o g q M b) → Span (λ d. (L : Word) × Unit {0} × Row o g q L d) b
      each b (M, row) = single _ b (M, tt, row)
