-- Normal forms of polynomials with coefficients in a field.
use Rattle.std.proofs.Common.{◌≡◌, ℕ, refl, sym, ap, ap₂, subst, ◌∙◌, List, [], ◌∷◌, ◌++◌, append_assoc, pos}
use Rattle.definitions.specs.Poly.{Word, Term}
use Rattle.word_orders.specs.Orders.{Order}
use Rattle.confluence.proofs.Meets.{Rules}
use Rattle.confluence.proofs.TermWords.{AllWords}
use Rattle.normal_forms.specs.Forms.{Form, with_words}
use Rattle.normal_forms.proofs.Field.{Field}
use Rattle.normal_forms.proofs.FieldLaws.{times_one, minus_times, times_minus}
use Rattle.normal_forms.proofs.Forms.{scaled, scaled-append, scaled-words, Each, each-append, hit, sum-append, Alike}
use Rattle.normal_forms.proofs.Congruence.{lifted, scaled-lifted, look-lifted, row, Cong, rows, cong_refl, cong_append, Irreducible}

module _ {K : Type 0} (k : Field K) (o : Order) (g : Rules o) where
  -- what c l lead r is replaced by
  abbrev pub lower : K → ℕ → Word → Word → Form K
  lower c i l r = with_words (λ u. l ++ (u ++ r)) (lifted k (k.minus (k.times c (k.part (g.rule i).leading))) (g.rule i).tail)

  -- The second is a normal form of the first.
  pub data Normal : Form K → Form K → Type 0 where
    done : Normal [] []
    keep : (c : K) (w : Word) (p q : Form K) → Irreducible k o g w → Normal p q → Normal ((c, w) ∷ p) ((c, w) ∷ q)
    step : (c : K) (w : Word) (i : ℕ) (l r : Word) (n p q : Form K) → g.Has i → w ≡ l ++ ((g.rule i).lead ++ r) → Normal (lower c i l r) n → Normal p q
        → Normal ((c, w) ∷ p) (n ++ q)

  pub normal-append : {a b p q : Form K} → Normal a b → Normal p q → Normal (a ++ p) (b ++ q)
  normal-append done f = f
  normal-append {p} {q} (keep c w a b i e) f = keep c w (a ++ p) (b ++ q) i (normal-append e f)
  normal-append {p} {q} (step c w i l r n a b h e m d) f = subst (λ z. Normal ((c, w) ∷ (a ++ p)) z) (sym (append_assoc n b q))
      (step c w i l r n (a ++ p) (b ++ q) h e m (normal-append d f))

  pub normal_irreducible : {p q : Form K} → Normal p q → Each (Irreducible k o g) q
  normal_irreducible done = tt
  normal_irreducible (keep c w p q i e) = (i, normal_irreducible e)
  normal_irreducible (step c w i l r n p q h e m d) = each-append (Irreducible k o g) n q (normal_irreducible m) (normal_irreducible d)

  -- what replacing a leading word keeps
  abbrev pub Kept : (Word → Type 0) → Type 0
  Kept P = (i : ℕ) (l r : Word) → g.Has i → P (l ++ ((g.rule i).lead ++ r)) → AllWords (λ u. P (l ++ (u ++ r))) (g.rule i).tail

  each-lower : (P : Word → Type 0) (h : Word → Word) (d : K) (p : List Term) → AllWords (λ u. P (h u)) p → Each P (with_words h (lifted k d p))
  each-lower P h d [] e = tt
  each-lower P h d (t ∷ p) e = (e.0, each-lower P h d p e.1)

  pub normal_each : (P : Word → Type 0) → Kept P → {p q : Form K} → Normal p q → Each P p → Each P q
  normal_each P kept done a = tt
  normal_each P kept (keep c w p q i e) a = (a.0, normal_each P kept e a.1)
  normal_each P kept (step c w i l r n p q h e m d) a = each-append P n q
      (normal_each P kept m (each-lower P (λ u. l ++ (u ++ r)) _ (g.rule i).tail (kept i l r h (subst P e a.0)))) (normal_each P kept d a.1)

  pub tail_less : {i : ℕ} (l r : Word) {w : Word} → g.Has i → w ≡ l ++ ((g.rule i).lead ++ r) → o.Range w → AllWords (λ u. o.Less (l ++ (u ++ r)) w) (g.rule i).tail
  tail_less {i} l r {w} h e m = go (g.rule i).tail (g.below i h)
    where
      go : (p : List Term) → AllWords (λ u. o.Less u (g.rule i).lead) p → AllWords (λ u. o.Less (l ++ (u ++ r)) w) p
      go [] a = tt
      go (t ∷ p) a = (subst (λ z. o.Less (l ++ (t.1 ++ r)) z) (sym e) (o.compatible l t.1 (g.rule i).lead r (subst o.Range e m) a.0), go p a.1)

  pub range_kept : Kept o.Range
  range_kept i l r h m = go (g.rule i).tail (tail_less l r h refl m)
    where
      go : (p : List Term) → AllWords (λ u. o.Less (l ++ (u ++ r)) (l ++ ((g.rule i).lead ++ r))) p → AllWords (λ u. o.Range (l ++ (u ++ r))) p
      go [] a = tt
      go (t ∷ p) a = (o.less_range _ _ a.0, go p a.1)

  -- c w is a row and what it is replaced by
  replaced : (c : K) (w : Word) {i : ℕ} (l r : Word) → g.Has i → w ≡ l ++ ((g.rule i).lead ++ r)
      → Alike k ((c, w) ∷ []) (row k o g (k.times c (k.part (g.rule i).leading)) l i r ++ lower c i l r)
  replaced c w {i} l r h e = record {
    at = λ v. sym (sum-append k (λ u. hit k u v) (row k o g d l i r) (lower c i l r)
        ∙ ap₂ k.plus (ap₂ (λ x y. k.plus (k.times x (hit k (l ++ ((g.rule i).lead ++ r)) v)) y) back (look-lifted k at d (g.rule i).tail v))
        (look-lifted k at (k.minus d) (g.rule i).tail v ∙ minus_times k d _) ∙ k.plus_assoc _ _ _
        ∙ ap₂ k.plus (ap (λ x. k.times c (hit k x v)) (sym e)) (k.plus_minus _));
  }
    where
      d : K
      d = k.times c (k.part (g.rule i).leading)

      at : Word → Word
      at u = l ++ (u ++ r)

      back : k.times d (k.int (pos (g.rule i).leading)) ≡ c
      back = k.times_assoc c (k.part (g.rule i).leading) (k.int (pos (g.rule i).leading))
          ∙ ap (k.times c) (k.times_comm (k.part (g.rule i).leading) (k.int (pos (g.rule i).leading)) ∙ k.part_is (g.rule i).leading (g.positive i h))
          ∙ times_one k c

  pub normal_cong : {p q : Form K} → Normal p q → Each o.Range p → Cong k o g p q
  normal_cong done a = cong_refl []
  normal_cong (keep c w p q i e) a = cong_append (cong_refl ((c, w) ∷ [])) (normal_cong e a.1)
  normal_cong (step c w i l r n p q h e m d) a = cong_append
      (rows ((c, w) ∷ []) (lower c i l r) n (k.times c (k.part (g.rule i).leading)) l i r h (subst o.Range e a.0)
      (normal_cong m (each-lower o.Range (λ u. l ++ (u ++ r)) _ (g.rule i).tail (range_kept i l r h (subst o.Range e a.0))))
      (replaced c w l r h e)) (normal_cong d a.1)

  scaled-lower : (d c : K) (i : ℕ) (l r : Word) → scaled k d (lower c i l r) ≡ lower (k.times d c) i l r
  scaled-lower d c i l r =
      scaled-words k d (λ u. l ++ (u ++ r)) (lifted k (k.minus (k.times c (k.part (g.rule i).leading))) (g.rule i).tail)
      ∙ ap (with_words (λ u. l ++ (u ++ r)))
      (scaled-lifted k d (k.minus (k.times c (k.part (g.rule i).leading))) (g.rule i).tail ∙ ap (λ e. lifted k e (g.rule i).tail) inner)
    where
      inner : k.times d (k.minus (k.times c (k.part (g.rule i).leading))) ≡ k.minus (k.times (k.times d c) (k.part (g.rule i).leading))
      inner = times_minus k d (k.times c (k.part (g.rule i).leading)) ∙ ap k.minus (sym (k.times_assoc d c (k.part (g.rule i).leading)))

  -- a multiple of a normal form is one of the multiple
  pub normal_scaled : (d : K) {p q : Form K} → Normal p q → Normal (scaled k d p) (scaled k d q)
  normal_scaled d done = done
  normal_scaled d (keep c w p q i e) = keep (k.times d c) w (scaled k d p) (scaled k d q) i (normal_scaled d e)
  normal_scaled d (step c w i l r n p q h e m rest) = subst (Normal ((k.times d c, w) ∷ scaled k d p)) (sym (scaled-append k d n q))
      (step (k.times d c) w i l r (scaled k d n) (scaled k d p) (scaled k d q) h e
      (subst (λ z. Normal z (scaled k d n)) (scaled-lower d c i l r) (normal_scaled d m)) (normal_scaled d rest))
