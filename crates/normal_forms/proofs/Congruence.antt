-- Polynomials that differ by a sum of rows over the rules, with multipliers in the field.
use Rattle.std.proofs.Common.{◌≡◌, inl, inr, ℕ, ◌<◌, ◌*◌, refl, sym, ap, ap₂, subst, ◌∙◌, Bool, true, false, cond, List, [], ◌∷◌, ◌++◌, append_assoc, arith, ℤ, pos, ◌+ℤ◌, ◌*ℤ◌}
use Rattle.std.proofs.Math.Nat.{mul-pos}
use Rattle.definitions.proofs.Linear.{word_eq-true}
use Rattle.definitions.specs.Poly.{Word, Term, word_eq, coefficient_of, poly_between}
use Rattle.word_orders.specs.Orders.{Order}
use Rattle.confluence.proofs.Closed.{zero_or_reducible}
use Rattle.confluence.proofs.Meets.{Rules, Row, Resolved, poly}
use Rattle.confluence.proofs.Resolve.{everything}
use Rattle.confluence.proofs.Spans.{Coefs, Span, nothing, more, part, span_scale}
use Rattle.confluence.proofs.TermWords.{map_words}
use Rattle.normal_forms.specs.Forms.{Form, with_words}
use Rattle.normal_forms.proofs.Field.{Field}
use Rattle.normal_forms.proofs.FieldLaws.{int_same, part_cancel, minus_plus, none_plus, times_one, times_none, minus_times, times_swap, int_none}
use Rattle.normal_forms.proofs.Forms.{words-words, words-same, words-append, Each, hit, look, scaled, sum-append, Alike, alike-words, alike-append, alike-scaled, scaled-append, scaled-words}

-- a row of a rule, with any word in range on top
abbrev pub AnyRow : (o : Order) → Rules o → Coefs → Type 0
AnyRow o g b = (M : Word) × Row o g (everything o) M b

-- a sum of rows over resolved rules that is zero at the top of each row is zero
no_reducible_word : {o : Order} {g : Rules o} → Resolved o g (everything o) → {f : Coefs}
    → ((N : Word) (b : Coefs) → Row o g (everything o) N b → f N ≡ pos 0) → Span (AnyRow o g) f → (w : Word) → f w ≡ pos 0
no_reducible_word {o} {g} res {f} top span = elim (zero_or_reducible o g (everything o) res f span) [
  | inl zero ↦ zero
  | inr found ↦ absurd (found.occurs (top found.word found.row.0 found.row.1))
]

module _ {K : Type 0} {k : Field K} where
  pub alike_refl : (p : Form K) → Alike k p p
  alike_refl p = record { at = λ w. refl }

  pub alike_sym : {p q : Form K} → Alike k p q → Alike k q p
  alike_sym e = record { at = λ w. sym (e.at w) }

  pub alike_trans : {p q r : Form K} → Alike k p q → Alike k q r → Alike k p r
  alike_trans e f = record { at = λ w. e.at w ∙ f.at w }

  pub alike_same : {p q : Form K} → p ≡ q → Alike k p q
  alike_same e = record { at = λ w. ap (λ z. look k z w) e }

  pub alike-swap : (p q : Form K) → Alike k (p ++ q) (q ++ p)
  alike-swap p q = record { at = λ w. sum-append k (λ u. hit k u w) p q ∙ k.plus_comm (look k p w) (look k q w) ∙ sym (sum-append k (λ u. hit k u w) q p) }

module _ {K : Type 0} (k : Field K) where
  -- the polynomial times c
  abbrev pub lifted : K → List Term → Form K
  lifted c [] = []
  lifted c (t ∷ p) = (k.times c (k.int t.0), t.1) ∷ lifted c p

  int_hit : (z : ℤ) (b : Bool) → k.times (k.int z) (cond b k.one k.none) ≡ k.int (cond b z (pos 0))
  int_hit z true = times_one k (k.int z)
  int_hit z false = times_none k (k.int z) ∙ sym (int_none k)

  pub look-lifted : (h : Word → Word) (c : K) (p : List Term) (w : Word)
      → look k (with_words h (lifted c p)) w ≡ k.times c (k.int (coefficient_of (map_words h p) w))
  look-lifted h c [] w = sym (ap (k.times c) (int_none k) ∙ times_none k c)
  look-lifted h c (t ∷ p) w =
      ap₂ k.plus (k.times_assoc c (k.int t.0) (hit k (h t.1) w) ∙ ap (k.times c) (int_hit t.0 (word_eq (h t.1) w))) (look-lifted h c p w)
      ∙ sym (k.times_plus c _ _) ∙ ap (k.times c) (sym (k.int_plus (cond (word_eq (h t.1) w) t.0 (pos 0)) (coefficient_of (map_words h p) w)))

  pub look-lifted_one : (p : List Term) (w : Word) → look k (lifted k.one p) w ≡ k.int (coefficient_of p w)
  look-lifted_one [] w = sym (int_none k)
  look-lifted_one (t ∷ p) w =
      ap₂ k.plus (ap (λ z. k.times z (hit k t.1 w)) (k.one_times (k.int t.0)) ∙ int_hit t.0 (word_eq t.1 w)) (look-lifted_one p w)
      ∙ sym (k.int_plus (cond (word_eq t.1 w) t.0 (pos 0)) (coefficient_of p w))

  pub scaled-lifted : (d c : K) (p : List Term) → scaled k d (lifted c p) ≡ lifted (k.times d c) p
  scaled-lifted d c [] = refl
  scaled-lifted d c (t ∷ p) = ap₂ (λ x z. (x, t.1) ∷ z) (sym (k.times_assoc d c (k.int t.0))) (scaled-lifted d c p)

  pub look-append : (p q : Form K) (w : Word) → look k (p ++ q) w ≡ k.plus (look k p w) (look k q w)
  look-append p q w = sum-append k (λ u. hit k u w) p q

  ring : (N D c A B S F Q : K) → k.times N c ≡ A → k.times D S ≡ k.plus F (k.times D Q)
      → k.times (k.times N D) (k.plus (k.times c B) S) ≡ k.plus (k.plus (k.times (k.times D A) B) (k.times N F)) (k.times (k.times N D) Q)
  ring N D c A B S F Q e h = k.times_plus (k.times N D) (k.times c B) S ∙ ap₂ k.plus first second
      ∙ sym (k.plus_assoc (k.times (k.times D A) B) (k.times N F) (k.times (k.times N D) Q))
    where
      first : k.times (k.times N D) (k.times c B) ≡ k.times (k.times D A) B
      first = ap (λ z. k.times z (k.times c B)) (k.times_comm N D) ∙ k.times_assoc D N (k.times c B)
          ∙ ap (k.times D) (sym (k.times_assoc N c B) ∙ ap (λ z. k.times z B) e) ∙ sym (k.times_assoc D A B)

      second : k.times (k.times N D) S ≡ k.plus (k.times N F) (k.times (k.times N D) Q)
      second = k.times_assoc N D S ∙ ap (k.times N) h ∙ k.times_plus N F (k.times D Q) ∙ ap (λ z. k.plus (k.times N F) z) (sym (k.times_assoc N D Q))

  module _ (o : Order) (g : Rules o) where
    -- c l g r
    abbrev pub row : K → Word → ℕ → Word → Form K
    row c l i r = with_words (λ u. l ++ (u ++ r)) (lifted c (poly (g.rule i)))

    pub look-row : (c : K) (l : Word) (i : ℕ) (r w : Word)
        → look k (row c l i r) w ≡ k.times c (k.int (coefficient_of (poly_between l (poly (g.rule i)) r) w))
    look-row c l i r w = look-lifted (λ u. l ++ (u ++ r)) c (poly (g.rule i)) w

    pub data Cong : Form K → Form K → Type 0 where
      alike : (p q : Form K) → Alike k p q → Cong p q
      rows : (p s q : Form K) (c : K) (l : Word) (i : ℕ) (r : Word) → g.Has i → o.Range (l ++ ((g.rule i).lead ++ r)) → Cong s q
          → Alike k p (row c l i r ++ s) → Cong p q

    -- a row is removed again
    pub off : {p : Form K} (s : Form K) (c : K) (l : Word) (i : ℕ) (r : Word)
        → Alike k p (row c l i r ++ s) → Alike k s (row (k.minus c) l i r ++ p)
    off {p} s c l i r f = record {
      at = λ w. sym (look-append (row (k.minus c) l i r) p w
          ∙ ap₂ k.plus (look-row (k.minus c) l i r w ∙ minus_times k c (k.int (coefficient_of (poly_between l (poly (g.rule i)) r) w)))
          (f.at w ∙ look-append (row c l i r) s w ∙ ap (λ z. k.plus z (look k s w)) (look-row c l i r w)) ∙ minus_plus k _ (look k s w));
    }

module _ {K : Type 0} {k : Field K} {o : Order} {g : Rules o} where
  pub cong_refl : (p : Form K) → Cong k o g p p
  cong_refl p = alike p p (alike_refl p)

  pub cong_same : {p q : Form K} → p ≡ q → Cong k o g p q
  cong_same {p} {q} e = alike p q (alike_same e)

  pub cong_left : {p' p q : Form K} → Alike k p' p → Cong k o g p q → Cong k o g p' q
  cong_left {p'} e (alike p q f) = alike p' q (alike_trans e f)
  cong_left {p'} e (rows p s q c l i r h m t f) = rows p' s q c l i r h m t (alike_trans e f)

  pub cong_trans : {p q t : Form K} → Cong k o g p q → Cong k o g q t → Cong k o g p t
  cong_trans (alike p q f) d = cong_left f d
  cong_trans {t} (rows p s q c l i r h m e f) d = rows p s t c l i r h m (cong_trans e d) f

  pub cong_after : {p q : Form K} (t : Form K) → Cong k o g p q → Cong k o g (p ++ t) (q ++ t)
  cong_after t (alike p q f) = alike (p ++ t) (q ++ t) (alike-append k f (alike_refl t))
  cong_after t (rows p s q c l i r h m e f) = rows (p ++ t) (s ++ t) (q ++ t) c l i r h m (cong_after t e)
      (alike_trans (alike-append k f (alike_refl t)) (alike_same (append_assoc (row k o g c l i r) s t)))

  pub cong_append : {p q s t : Form K} → Cong k o g p q → Cong k o g s t → Cong k o g (p ++ s) (q ++ t)
  cong_append {q} {s} {t} e f = cong_trans (cong_after s e) (cong_left (alike-swap q s)
      (cong_trans (cong_after q f) (alike (t ++ q) (q ++ t) (alike-swap t q))))

  pub cong_scaled : (d : K) {p q : Form K} → Cong k o g p q → Cong k o g (scaled k d p) (scaled k d q)
  cong_scaled d (alike p q f) = alike _ _ (alike-scaled k d f)
  cong_scaled d (rows p s q c l i r h m e f) = rows (scaled k d p) (scaled k d s) (scaled k d q) (k.times d c) l i r h m (cong_scaled d e)
      (alike_trans (alike-scaled k d f) (alike_same (scaled-append k d (row k o g c l i r) s ∙ ap (λ z. z ++ scaled k d s)
      (scaled-words k d (λ u. l ++ (u ++ r)) (lifted k c (poly (g.rule i)))
      ∙ ap (with_words (λ u. l ++ (u ++ r))) (scaled-lifted k d c (poly (g.rule i)))))))

  pub cong_sym : {p q : Form K} → Cong k o g p q → Cong k o g q p
  cong_sym (alike p q f) = alike q p (alike_sym f)
  cong_sym (rows p s q c l i r h m e f) = cong_trans (cong_sym e) (rows s p p (k.minus c) l i r h m (cong_refl p) (off k o g s c l i r f))

  -- between two with_words
  pub cong_between : ((u v : Word) → o.Range u → o.Range v → o.Range (u ++ v))
      → (x y : Word) → o.Range x → o.Range y → {p q : Form K} → Cong k o g p q
      → Cong k o g (with_words (λ u. x ++ (u ++ y)) p) (with_words (λ u. x ++ (u ++ y)) q)
  cong_between join x y rx ry (alike p q f) = alike _ _ (alike-words k (λ u. x ++ (u ++ y)) p q f)
  cong_between join x y rx ry (rows p s q c l i r h m e f) =
      rows (with_words at p) (with_words at s) (with_words at q) c (x ++ l) i (r ++ y) h range (cong_between join x y rx ry e)
      (alike_trans
      (alike-words k at p (row k o g c l i r ++ s) f) (alike_same (words-append at (row k o g c l i r) s ∙ ap (λ z. z ++ with_words at s)
      (words-words at (λ u. l ++ (u ++ r)) (lifted k c (poly (g.rule i)))
      ∙ words-same _ (λ u. (x ++ l) ++ (u ++ (r ++ y))) (lifted k c (poly (g.rule i))) moved))))
    where
      at : Word → Word
      at u = x ++ (u ++ y)

      moved : (u : Word) → x ++ ((l ++ (u ++ r)) ++ y) ≡ (x ++ l) ++ (u ++ (r ++ y))
      moved u = ap (λ z. x ++ z) (append_assoc l (u ++ r) y ∙ ap (λ z. l ++ z) (append_assoc u r y)) ∙ sym (append_assoc x l (u ++ (r ++ y)))

      range : o.Range ((x ++ l) ++ ((g.rule i).lead ++ (r ++ y)))
      range = subst o.Range (moved (g.rule i).lead) (join x ((l ++ ((g.rule i).lead ++ r)) ++ y) rx (join (l ++ ((g.rule i).lead ++ r)) y m ry))

module _ {K : Type 0} (k : Field K) (o : Order) (g : Rules o) where
  -- with one denominator
  pub record Cleared (p q : Form K) : Type 0 where
    pub denominator : ℕ
    pub difference : Coefs
    pub positive : 0 < denominator
    pub span : Span (AnyRow o g) difference
    pub is : (w : Word) → k.times (k.int (pos denominator)) (look k p w) ≡ k.plus (k.int (difference w)) (k.times (k.int (pos denominator)) (look k q w))

  pub cong_cleared : {p q : Form K} → Cong k o g p q → Cleared p q
  cong_cleared (alike p q f) = record {
    denominator = 1;
    difference = λ _. pos 0;
    positive = omega arith;
    span = nothing _ (λ w. refl);
    is =
        λ w. ap (k.times (k.int (pos 1))) (f.at w) ∙ sym (ap (λ z. k.plus z (k.times (k.int (pos 1)) (look k q w))) (int_none k) ∙ none_plus k _);
  }
  cong_cleared (rows p s q c l i r h m e f) = by_parts (cong_cleared e) (k.split c)
    where
      b : Coefs
      b = coefficient_of (poly_between l (poly (g.rule i)) r)

      by_parts : Cleared s q → ((a : ℤ) × (n : ℕ) × (0 < n) × (c ≡ k.times (k.int a) (k.part n))) → Cleared p q
      by_parts d (a, n, h', e') = record {
        denominator = n * d.denominator;
        difference = λ w. (pos d.denominator *ℤ a) *ℤ b w +ℤ pos n *ℤ d.difference w;
        positive = mul-pos h' d.positive;
        span = more _ (λ w. pos n *ℤ d.difference w) b (pos d.denominator *ℤ a)
            (_, record { number = i; has = h; left = l; right = r; top = refl; range = m; may = tt; is = λ w. refl })
            (span_scale (AnyRow o g) (pos n) d.difference d.span) (λ w. refl);
        is = whole;
      }
        where
          D : K
          D = k.int (pos d.denominator)

          N : K
          N = k.int (pos n)

          top : k.times N c ≡ k.int a
          top = ap (k.times N) e' ∙ times_swap k N (k.int a) (k.part n) ∙ ap (k.times (k.int a)) (k.part_is n h') ∙ times_one k (k.int a)

          whole : (w : Word) → k.times (k.int (pos (n * d.denominator))) (look k p w) ≡ k.plus
              (k.int ((pos d.denominator *ℤ a) *ℤ b w +ℤ pos n *ℤ d.difference w)) (k.times (k.int (pos (n * d.denominator))) (look k q w))
          whole w = ap₂ k.times (k.int_times (pos n) (pos d.denominator))
              (f.at w ∙ look-append k (row k o g c l i r) s w ∙ ap (λ z. k.plus z (look k s w)) (look-row k o g c l i r w))
              ∙ ring k N D c (k.int a) (k.int (b w)) (look k s w) (k.int (d.difference w)) (look k q w) top (d.is w)
              ∙ sym
              (ap₂ k.plus
              (k.int_plus ((pos d.denominator *ℤ a) *ℤ b w) (pos n *ℤ d.difference w)
              ∙ ap₂ k.plus (k.int_times (pos d.denominator *ℤ a) (b w) ∙ ap (λ z. k.times z (k.int (b w))) (k.int_times (pos d.denominator) a))
              (k.int_times (pos n) (d.difference w))) (ap (λ z. k.times z (look k q w)) (k.int_times (pos n) (pos d.denominator))))

  -- no leading word occurs in it
  pub record Irreducible (w : Word) : Type 0 where
    pub at : (i : ℕ) (l r : Word) → g.Has i → w ≡ l ++ ((g.rule i).lead ++ r) → ⊥

  pub irreducible_look : (p : Form K) (N : Word) {i : ℕ} (l r : Word) → g.Has i → N ≡ l ++ ((g.rule i).lead ++ r) → Each Irreducible p → look k p N ≡ k.none
  irreducible_look [] N l r h e a = refl
  irreducible_look (t ∷ p) N {i} l r h e a = go (word_eq t.1 N) refl (irreducible_look p N l r h e a.1)
    where
      go : (b : Bool) → word_eq t.1 N ≡ b → look k p N ≡ k.none → k.plus (k.times t.0 (cond b k.one k.none)) (look k p N) ≡ k.none
      go true j ih = absurd (a.0.at i l r h (word_eq-true t.1 N j ∙ e))
      go false j ih = ap₂ k.plus (times_none k t.0) ih ∙ k.plus_none k.none

  -- what is irreducible is determined by its class
  pub irreducible_unique : Resolved o g (everything o)
      → {p q : Form K} → Each Irreducible p → Each Irreducible q → Cong k o g p q → Alike k p q
  irreducible_unique res {p} {q} ip iq e = record { at = equal }
    where
      d : Cleared p q
      d = cong_cleared e

      D : K
      D = k.int (pos (cong_cleared e).denominator)

      top : (N : Word) (b : Coefs) → Row o g (everything o) N b → d.difference N ≡ pos 0
      top N b x = k.int_only (d.difference N) (sym (k.plus_none (k.int (d.difference N))) ∙ ap (λ z. k.plus (k.int (d.difference N)) z)
          (sym (ap (k.times D) (irreducible_look q N x.left x.right x.has x.top iq) ∙ times_none k D)) ∙ sym (d.is N)
          ∙ ap (k.times D) (irreducible_look p N x.left x.right x.has x.top ip) ∙ times_none k D)

      equal : (w : Word) → look k p w ≡ look k q w
      equal w = part_cancel k d.positive (d.is w ∙ ap (λ z. k.plus (k.int z) (k.times D (look k q w))) (no_reducible_word res top d.span w)
          ∙ ap (λ z. k.plus z (k.times D (look k q w))) (int_none k) ∙ none_plus k (k.times D (look k q w)))

  -- a class of zero with integer coefficients is in the rational ideal
  pub cong_none_span : (p : List Term) → Cong k o g (lifted k k.one p) [] → Span (AnyRow o g) (coefficient_of p)
  cong_none_span p e = let d = cong_cleared e in part (coefficient_of p) d.difference d.denominator d.positive d.span
      (λ w. int_same k (d.difference w) (pos d.denominator *ℤ coefficient_of p w)
      (sym (k.plus_none (k.int (d.difference w))) ∙ ap (λ z. k.plus (k.int (d.difference w)) z) (sym (times_none k (k.int (pos d.denominator))))
      ∙ sym (d.is w) ∙ ap (k.times (k.int (pos d.denominator))) (look-lifted_one k p w)
      ∙ sym (k.int_times (pos d.denominator) (coefficient_of p w))))
