-- Two rows at places of one word differ, with multipliers, by lower rows.
use Rattle.std.proofs.Common.{◌≡◌, ◌≢◌, ℕ, ◌<◌, ◌⊎◌, inl, inr, refl, arith, subst, sym, ap, ◌∙◌, List, [], ◌∷◌, ◌++◌, length, Bool, true, false, cond, ℤ, pos, negsuc, ◌+ℤ◌, ◌*ℤ◌, neg_ℤ, append_assoc, append-nil}
use Rattle.std.proofs.Math.IntN.{*ℤ_comm, *ℤ-zero, +ℤ_idl, +ℤ_idr}
use Rattle.std.proofs.lemmas.Int.{ints}
use Rattle.std.proofs.lemmas.List.{length-append, nil_from_length}
use Rattle.definitions.proofs.Integers.{*ℤ-+ℤ}
use Rattle.definitions.proofs.Linear.{word_eq-true, word_eq-same}
use Rattle.definitions.specs.Poly.{Word, Term, word_eq, coefficient_of, poly_between}
use Rattle.traced_rows.proofs.Between.{between-between}
use Rattle.word_orders.specs.Orders.{Order}
use Rattle.confluence.proofs.Integers.{neg_ℤ-*ℤ}
use Rattle.confluence.proofs.TermWords.{map_words, AllWords, all_words_map}
use Rattle.confluence.proofs.Spans.{Coefs, Span, nothing, more, span_same, span_scale, span_add, mul_swap}
use Rattle.confluence.proofs.Shifts.{shift, shift_linear, linear-scale, span_shift, coefficient_of-between}
use Rattle.confluence.proofs.Places.{SomeLetters, Placed, apart, overlap, inside, outside}

-- the sum of what stands for each term's word, each times the term's coefficient_of
abbrev pub total : List Term → (Word → Coefs) → Coefs
total [] F w = pos 0
total (t ∷ p) F w = t.0 *ℤ F t.1 w +ℤ total p F w

pub total_span : (Base : Coefs → Type 0) (F : Word → Coefs) (p : List Term) → AllWords (λ u. Base (F u)) p → Span Base (total p F)
total_span Base F [] e = nothing _ (λ w. refl)
total_span Base F (t ∷ p) e = more _ (total p F) (F t.1) t.0 e.0 (total_span Base F p e.1) (λ w. refl)

total-sum : (p : List Term) (c : ℤ) (F G : Word → Coefs) (w : Word) → total p (λ u v. c *ℤ F u v +ℤ G u v) w ≡ c *ℤ total p F w +ℤ total p G w
total-sum [] c F G w = sym (ap (λ z. z +ℤ pos 0) (*ℤ-zero c))
total-sum (t ∷ p) c F G w = ap (λ z. t.0 *ℤ (c *ℤ F t.1 w +ℤ G t.1 w) +ℤ z) (total-sum p c F G w)
    ∙ (simp *ℤ-+ℤ (let e : t.0 *ℤ (c *ℤ (F t.1 w)) ≡ c *ℤ (t.0 *ℤ (F t.1 w)) = mul_swap t.0 c (F t.1 w) in omega (arith, ints, e)))

total-zero : (p : List Term) (w : Word) → total p (λ u v. pos 0) w ≡ pos 0
total-zero p w = let e = total-sum p (negsuc 0) (λ u v. pos 0) (λ u v. pos 0) w in omega (arith, ints, e)

total-same : (p : List Term) (F G : Word → Coefs) (w : Word) → ((u : Word) → F u w ≡ G u w) → total p F w ≡ total p G w
total-same [] F G w e = refl
total-same (t ∷ p) F G w e = ap (λ z. t.0 *ℤ z +ℤ total p F w) (e t.1) ∙ ap (λ z. t.0 *ℤ G t.1 w +ℤ z) (total-same p F G w e)

-- two sums in either order
total-swap : (p q : List Term) (K : Word → Word → Coefs) (w : Word) → total p (λ u. total q (K u)) w ≡ total q (λ v. total p (λ u. K u v)) w
total-swap [] q K w = sym (total-zero q w)
total-swap (t ∷ p) q K w = ap (λ z. t.0 *ℤ total q (K t.1) w +ℤ z) (total-swap p q K w) ∙ sym (total-sum q t.0 (K t.1) (λ v. total p (λ u. K u v)) w)

abbrev hit : Word → Coefs
hit a w = cond (word_eq a w) (pos 1) (pos 0)

coefficient_of-total : (h : Word → Word) (p : List Term) (w : Word) → coefficient_of (map_words h p) w ≡ total p (λ u. hit (h u)) w
coefficient_of-total h [] w = refl
coefficient_of-total h (t ∷ p) w = ap (λ z. cond (word_eq (h t.1) w) t.0 (pos 0) +ℤ z) (coefficient_of-total h p w) ∙ by_test (word_eq (h t.1) w)
  where
    by_test : (b : Bool) → cond b t.0 (pos 0) +ℤ total p (λ u. hit (h u)) w ≡ t.0 *ℤ cond b (pos 1) (pos 0) +ℤ total p (λ u. hit (h u)) w
    by_test true = ap (λ z. z +ℤ total p (λ u. hit (h u)) w) (sym (*ℤ_comm t.0 (pos 1) ∙ omega (arith, ints)))
    by_test false = ap (λ z. z +ℤ total p (λ u. hit (h u)) w) (sym (*ℤ-zero t.0))

-- the product of two polynomials with a word between them, written both ways
pub product_both_ways : (x m y : Word) (p q : List Term) (w : Word) → total p (λ u. coefficient_of (poly_between (x ++ (u ++ m)) q y)) w ≡ total q (λ v. coefficient_of (poly_between x p (m ++ (v ++ y)))) w
product_both_ways x m y p q w = total-same p _ (λ u. total q (λ v. hit ((x ++ (u ++ m)) ++ (v ++ y)))) w (λ u. coefficient_of-total (λ v. (x ++ (u ++ m)) ++ (v ++ y)) q w)
    ∙ total-swap p q (λ u v. hit ((x ++ (u ++ m)) ++ (v ++ y))) w
    ∙ total-same q _ (λ v. coefficient_of (poly_between x p (m ++ (v ++ y)))) w (λ v. total-same p _ (λ u. hit (x ++ (u ++ (m ++ (v ++ y))))) w (λ u. ap (λ a. hit a w) (append_assoc x (u ++ m) (v ++ y) ∙ ap (λ z. x ++ z) (append_assoc u m (v ++ y)))) ∙ sym (coefficient_of-total (λ u. x ++ (u ++ (m ++ (v ++ y)))) p w))

pub record Parted : Type 0 where
  pub leading : ℕ
  pub lead : Word
  pub tail : List Term

abbrev pub poly : Parted → List Term
poly g = (pos g.leading, g.lead) ∷ g.tail

-- rules of an order, some of which are there
pub record Rules (o : Order) : Type 1 where
  pub Has : ℕ → Type 0
  pub rule : ℕ → Parted
  pub same_number : (i j : ℕ) → (i ≡ j) ⊎ (i ≢ j)
  pub positive : (i : ℕ) → Has i → 0 < (rule i).leading
  pub below : (i : ℕ) → Has i → AllWords (λ u. o.Less u (rule i).lead) (rule i).tail

-- words that may be tops: closed downward
pub record Allowed (o : Order) : Type 1 where
  pub May : Word → Type 0
  pub closed : (u v : Word) → o.Less u v → May v → May u

-- what is between two words may be a top where the whole may
pub may_factor : (o : Order) (q : Allowed o) (x O y : Word) → o.Range (x ++ (O ++ y)) → q.May (x ++ (O ++ y)) → q.May O
may_factor o q x O y rm am = elim (o.factor_le x O y rm) [ inl e ↦ subst q.May (sym e) am | inr h ↦ q.closed O _ h am ]

less_apart : (o : Order) (u w : Word) → o.Less u w → word_eq u w ≡ false
less_apart o u w h = (elim (word_eq u w) as (λ b. word_eq u w ≡ b → word_eq u w ≡ false) [
  | true ↦ λ e. absurd (o.irreflexive w (subst (λ z. o.Less z w) (word_eq-true u w e) h))
  | false ↦ λ e. e
]) refl

coefficient_apart : (p : List Term) (w : Word) → AllWords (λ u. word_eq u w ≡ false) p → coefficient_of p w ≡ pos 0
coefficient_apart [] w e = refl
coefficient_apart (t ∷ p) w e = ap (λ b. cond b t.0 (pos 0) +ℤ coefficient_of p w) e.0 ∙ +ℤ_idl (coefficient_of p w) ∙ coefficient_apart p w e.1

all_words_moved : (P : Word → Type 0) (h : Word → Word) (p : List Term) → AllWords (λ u. P (h u)) p → AllWords P (map_words h p)
all_words_moved P h [] e = tt
all_words_moved P h (t ∷ p) e = (e.0, all_words_moved P h p e.1)

module _ (o : Order) (g : Rules o) (q : Allowed o) where
  -- the coefficients of l g r, whose top is M
  pub record Row (M : Word) (b : Coefs) : Type 0 where
    pub number : ℕ
    pub has : g.Has number
    pub left : Word
    pub right : Word
    pub top : M ≡ left ++ ((g.rule number).lead ++ right)
    pub range : o.Range M
    pub may : q.May M
    pub is : (w : Word) → b w ≡ coefficient_of (poly_between left (poly (g.rule number)) right) w

  abbrev pub Under : Word → Coefs → Type 0
  Under M d = (L : Word) × o.Less L M × Row L d

  -- the words of l tail r are less than l lead r
  pub tail_below : (i : ℕ) (l r M : Word) → g.Has i → M ≡ l ++ ((g.rule i).lead ++ r) → o.Range M → AllWords (λ u. o.Less u M) (poly_between l (g.rule i).tail r)
  tail_below i l r M h e m = all_words_moved (λ u. o.Less u M) (λ u. l ++ (u ++ r)) (g.rule i).tail (all_words_map (λ u. o.Less u (g.rule i).lead) _ (λ u k. subst (λ z. o.Less (l ++ (u ++ r)) z) (sym e) (o.compatible l u (g.rule i).lead r (subst o.Range e m) k)) (g.rule i).tail (g.below i h))

  pub row_lead : (M : Word) (b : Coefs) → Row M b → (k : ℕ) × (0 < k) × (b M ≡ pos k)
  row_lead M b x = ((g.rule x.number).leading, g.positive x.number x.has, x.is M ∙ at_top)
    where
      rest : coefficient_of (poly_between x.left (g.rule x.number).tail x.right) M ≡ pos 0
      rest = coefficient_apart _ M (all_words_map (λ u. o.Less u M) _ (λ u k. less_apart o u M k) _ (tail_below x.number x.left x.right M x.has x.top x.range))

      at_top : coefficient_of (poly_between x.left (poly (g.rule x.number)) x.right) M ≡ pos (g.rule x.number).leading
      at_top = ap (λ z. cond (word_eq z M) (pos (g.rule x.number).leading) (pos 0) +ℤ coefficient_of (poly_between x.left (g.rule x.number).tail x.right) M) (sym x.top) ∙ ap (λ z. cond z (pos (g.rule x.number).leading) (pos 0) +ℤ coefficient_of (poly_between x.left (g.rule x.number).tail x.right) M) (word_eq-same M) ∙ ap (λ z. pos (g.rule x.number).leading +ℤ z) rest ∙ +ℤ_idr _

  pub row_above : (M w : Word) (b : Coefs) → Row M b → o.Less M w → b w ≡ pos 0
  row_above M w b x h = x.is w ∙ ap (λ z. cond (word_eq z w) (pos (g.rule x.number).leading) (pos 0) +ℤ coefficient_of (poly_between x.left (g.rule x.number).tail x.right) w) (sym x.top) ∙ ap (λ z. cond z (pos (g.rule x.number).leading) (pos 0) +ℤ coefficient_of (poly_between x.left (g.rule x.number).tail x.right) w) (less_apart o M w h) ∙ +ℤ_idl _ ∙ coefficient_apart _ w (all_words_map (λ u. o.Less u M) _ (λ u k. less_apart o u w (o.less_trans u M w k h)) _ (tail_below x.number x.left x.right M x.has x.top x.range))

  pub row_shift : (x y L : Word) (b : Coefs) → o.Range (x ++ (L ++ y)) → q.May (x ++ (L ++ y)) → Row L b → Row (x ++ (L ++ y)) (shift x y b)
  row_shift x y L b m a t = record {
    number = t.number;
    has = t.has;
    left = x ++ t.left;
    right = t.right ++ y;
    top = ap (λ z. x ++ (z ++ y)) t.top ∙ ap (λ z. x ++ z) (append_assoc t.left ((g.rule t.number).lead ++ t.right) y ∙ ap (λ z. t.left ++ z) (append_assoc (g.rule t.number).lead t.right y)) ∙ sym (append_assoc x t.left ((g.rule t.number).lead ++ (t.right ++ y)));
    range = m;
    may = a;
    is = λ w. (shift_linear x y).same b (coefficient_of (poly_between t.left (poly (g.rule t.number)) t.right)) t.is w ∙ sym (coefficient_of-between x y (poly_between t.left (poly (g.rule t.number)) t.right) w) ∙ ap (λ p. coefficient_of p w) (between-between x t.left t.right y (poly (g.rule t.number)));
  }

  -- two rows whose difference, with positive multipliers, is a span of rows below O
  pub record Meets (O l1 : Word) (i : ℕ) (r1 l2 : Word) (j : ℕ) (r2 : Word) : Type 0 where
    pub one : ℕ
    pub other : ℕ
    pub one_positive : 0 < one
    pub other_positive : 0 < other
    pub difference : Span (Under O) (λ w. pos one *ℤ coefficient_of (poly_between l1 (poly (g.rule i)) r1) w +ℤ neg_ℤ (pos other *ℤ coefficient_of (poly_between l2 (poly (g.rule j)) r2) w))

  pub meets_swap : (O l1 : Word) (i : ℕ) (r1 l2 : Word) (j : ℕ) (r2 : Word) → Meets O l1 i r1 l2 j r2 → Meets O l2 j r2 l1 i r1
  meets_swap O l1 i r1 l2 j r2 m = record {
    one = m.other;
    other = m.one;
    one_positive = m.other_positive;
    other_positive = m.one_positive;
    difference = span_same (Under O) _ _ (span_scale (Under O) (negsuc 0) _ m.difference) (λ w. turned (pos m.one *ℤ coefficient_of (poly_between l1 (poly (g.rule i)) r1) w) (pos m.other *ℤ coefficient_of (poly_between l2 (poly (g.rule j)) r2) w));
  }
    where
      turned : (a b : ℤ) → b +ℤ neg_ℤ a ≡ negsuc 0 *ℤ (a +ℤ neg_ℤ b)
      turned a b = omega (arith, ints)

  -- rows at places apart: each, times the leading coefficient of the other, is the product of both less lower rows
  pub apart_span : (i j : ℕ) (x m y M : Word) → g.Has i → g.Has j → M ≡ x ++ ((g.rule i).lead ++ (m ++ ((g.rule j).lead ++ y))) → o.Range M → q.May M
      → Span (Under M) (λ w. pos (g.rule j).leading *ℤ coefficient_of (poly_between x (poly (g.rule i)) (m ++ ((g.rule j).lead ++ y))) w +ℤ neg_ℤ (pos (g.rule i).leading *ℤ coefficient_of (poly_between (x ++ ((g.rule i).lead ++ m)) (poly (g.rule j)) y) w))
  apart_span i j x m y M hi hj e rm am = span_same (Under M) _ _ (span_add (Under M) _ _ (total_span (Under M) first_sum (g.rule i).tail (all_words_map (λ u. o.Less u p) _ first_row (g.rule i).tail (g.below i hi))) (span_scale (Under M) (negsuc 0) _ (total_span (Under M) second_sum (g.rule j).tail (all_words_map (λ u. o.Less u q') _ second_row (g.rule j).tail (g.below j hj))))) (λ w. joined (pos (g.rule j).leading *ℤ second_sum q' w) (pos (g.rule i).leading *ℤ first_sum p w) (total (g.rule i).tail first_sum w) (total (g.rule j).tail second_sum w) (product_both_ways x m y (poly (g.rule i)) (poly (g.rule j)) w))
    where
      p : Word
      p = (g.rule i).lead

      q' : Word
      q' = (g.rule j).lead

      first_sum : Word → Coefs
      first_sum u = coefficient_of (poly_between (x ++ (u ++ m)) (poly (g.rule j)) y)

      second_sum : Word → Coefs
      second_sum v = coefficient_of (poly_between x (poly (g.rule i)) (m ++ (v ++ y)))

      regroup : (a b c d f : Word) → (a ++ (b ++ c)) ++ (d ++ f) ≡ a ++ (b ++ (c ++ (d ++ f)))
      regroup a b c d f = append_assoc a (b ++ c) (d ++ f) ∙ ap (λ z. a ++ z) (append_assoc b c (d ++ f))

      joined : (a b s t : ℤ) → b +ℤ s ≡ a +ℤ t → a +ℤ neg_ℤ b ≡ s +ℤ negsuc 0 *ℤ t
      joined a b s t h = omega (arith, ints)

      first_row : (u : Word) → o.Less u p → Under M (first_sum u)
      first_row u k = (x ++ (u ++ (m ++ (q' ++ y))), less, record { number = j; has = hj; left = x ++ (u ++ m); right = y; top = sym (regroup x u m q' y); range = o.less_range _ M less; may = q.closed _ M less am; is = λ w. refl })
        where
          less : o.Less (x ++ (u ++ (m ++ (q' ++ y)))) M
          less = subst (λ z. o.Less (x ++ (u ++ (m ++ (q' ++ y)))) z) (sym e) (o.compatible x u p (m ++ (q' ++ y)) (subst o.Range e rm) k)

      second_row : (v : Word) → o.Less v q' → Under M (second_sum v)
      second_row v k = ((x ++ (p ++ m)) ++ (v ++ y), less, record { number = i; has = hi; left = x; right = m ++ (v ++ y); top = regroup x p m v y; range = o.less_range _ M less; may = q.closed _ M less am; is = λ w. refl })
        where
          at : M ≡ (x ++ (p ++ m)) ++ (q' ++ y)
          at = e ∙ sym (regroup x p m q' y)

          less : o.Less ((x ++ (p ++ m)) ++ (v ++ y)) M
          less = subst (λ z. o.Less ((x ++ (p ++ m)) ++ (v ++ y)) z) (sym at) (o.compatible (x ++ (p ++ m)) v q' y (subst o.Range at rm) k)

  meets_apart : (i j : ℕ) (x m y M : Word) → g.Has i → g.Has j → M ≡ x ++ ((g.rule i).lead ++ (m ++ ((g.rule j).lead ++ y))) → o.Range M → q.May M → Meets M x i (m ++ ((g.rule j).lead ++ y)) (x ++ ((g.rule i).lead ++ m)) j y
  meets_apart i j x m y M hi hj e rm am = record {
    one = (g.rule j).leading;
    other = (g.rule i).leading;
    one_positive = g.positive j hj;
    other_positive = g.positive i hi;
    difference = apart_span i j x m y M hi hj e rm am;
  }

  pub meets_at : (M N l1 k1 r1 s1 l2 k2 r2 s2 : Word) (i j : ℕ) → N ≡ M → k1 ≡ l1 → s1 ≡ r1 → k2 ≡ l2 → s2 ≡ r2 → Meets N k1 i s1 k2 j s2 → Meets M l1 i r1 l2 j r2
  meets_at M N l1 k1 r1 s1 l2 k2 r2 s2 i j a b c d e m = subst (λ z. Meets z l1 i r1 l2 j r2) a (subst (λ z. Meets N z i r1 l2 j r2) b (subst (λ z. Meets N k1 i z l2 j r2) c (subst (λ z. Meets N k1 i s1 z j r2) d (subst (λ z. Meets N k1 i s1 k2 j z) e m))))

  meets_shift : (x y O l1 : Word) (i : ℕ) (r1 l2 : Word) (j : ℕ) (r2 : Word) → o.Range (x ++ (O ++ y)) → q.May (x ++ (O ++ y)) → Meets O l1 i r1 l2 j r2 → Meets (x ++ (O ++ y)) (x ++ l1) i (r1 ++ y) (x ++ l2) j (r2 ++ y)
  meets_shift x y O l1 i r1 l2 j r2 rm am m = record {
    one = m.one;
    other = m.other;
    one_positive = m.one_positive;
    other_positive = m.other_positive;
    difference = span_same (Under (x ++ (O ++ y))) _ _ (span_shift (Under O) (Under (x ++ (O ++ y))) x y each _ m.difference) same;
  }
    where
      f1 : Coefs
      f1 = coefficient_of (poly_between l1 (poly (g.rule i)) r1)

      f2 : Coefs
      f2 = coefficient_of (poly_between l2 (poly (g.rule j)) r2)

      each : (b : Coefs) → Under O b → Under (x ++ (O ++ y)) (shift x y b)
      each b (L, less, row) = (x ++ (L ++ y), up, row_shift x y L b (o.less_range _ _ up) (q.closed _ _ up am) row)
        where
          up : o.Less (x ++ (L ++ y)) (x ++ (O ++ y))
          up = o.compatible x L O y rm less

      moved : (l : Word) (k : ℕ) (r : Word) (w : Word) → coefficient_of (poly_between (x ++ l) (poly (g.rule k)) (r ++ y)) w ≡ shift x y (coefficient_of (poly_between l (poly (g.rule k)) r)) w
      moved l k r w = ap (λ z. coefficient_of z w) (sym (between-between x l r y (poly (g.rule k)))) ∙ coefficient_of-between x y (poly_between l (poly (g.rule k)) r) w

      same : (w : Word) → pos m.one *ℤ coefficient_of (poly_between (x ++ l1) (poly (g.rule i)) (r1 ++ y)) w +ℤ neg_ℤ (pos m.other *ℤ coefficient_of (poly_between (x ++ l2) (poly (g.rule j)) (r2 ++ y)) w) ≡ shift x y (λ v. pos m.one *ℤ f1 v +ℤ neg_ℤ (pos m.other *ℤ f2 v)) w
      same w = ap (λ z. pos m.one *ℤ z +ℤ neg_ℤ (pos m.other *ℤ coefficient_of (poly_between (x ++ l2) (poly (g.rule j)) (r2 ++ y)) w)) (moved l1 i r1 w) ∙ ap (λ z. pos m.one *ℤ shift x y f1 w +ℤ neg_ℤ (pos m.other *ℤ z)) (moved l2 j r2 w) ∙ sym ((shift_linear x y).same _ (λ v. pos m.one *ℤ f1 v +ℤ neg_ℤ (pos m.other) *ℤ f2 v) (λ v. ap (λ z. pos m.one *ℤ f1 v +ℤ z) (sym (neg_ℤ-*ℤ (pos m.other) (f2 v)))) w ∙ (shift_linear x y).sum (pos m.one) f1 (λ v. neg_ℤ (pos m.other) *ℤ f2 v) w ∙ ap (λ z. pos m.one *ℤ shift x y f1 w +ℤ z) (linear-scale (shift x y) (shift_linear x y) (neg_ℤ (pos m.other)) f2 w ∙ neg_ℤ-*ℤ (pos m.other) (shift x y f2 w)))

  -- each overlap and each inclusion whose overlap word may be a top comes from lower rows
  pub record Resolved : Type 0 where
    pub overlaps : (i j : ℕ) (s u t : Word) → g.Has i → g.Has j → SomeLetters s → SomeLetters u → SomeLetters t → (g.rule i).lead ≡ s ++ u → (g.rule j).lead ≡ u ++ t → o.Range (s ++ (g.rule j).lead) → q.May (s ++ (g.rule j).lead) → Meets (s ++ (g.rule j).lead) [] i t s j []
    pub inclusions : (i j : ℕ) (s t : Word) → g.Has i → g.Has j → i ≢ j → (g.rule i).lead ≡ s ++ ((g.rule j).lead ++ t) → o.Range (g.rule i).lead → q.May (g.rule i).lead → Meets (g.rule i).lead [] i [] s j t

  module _ (res : Resolved) where
    pub meets : (M l1 : Word) (i : ℕ) (r1 l2 : Word) (j : ℕ) (r2 : Word) → g.Has i → g.Has j → o.Range M → q.May M → M ≡ l1 ++ ((g.rule i).lead ++ r1) → M ≡ l2 ++ ((g.rule j).lead ++ r2) → (i ≡ j → l1 ≢ l2) → Placed (g.rule i).lead (g.rule j).lead l1 r1 l2 r2 → Meets M l1 i r1 l2 j r2
    meets M l1 i r1 l2 j r2 hi hj rm am e1 e2 differ (apart m a b) = subst (λ z. Meets M l1 i z l2 j r2) (sym b) (subst (λ z. Meets M l1 i (m ++ ((g.rule j).lead ++ r2)) z j r2) (sym a) (meets_apart i j l1 m r2 M hi hj (e1 ∙ ap (λ z. l1 ++ ((g.rule i).lead ++ z)) b) rm am))
    meets M l1 i r1 l2 j r2 hi hj rm am e1 e2 differ (overlap s u t ns nu nt pe qe a b) = meets_at M (l1 ++ ((s ++ (g.rule j).lead) ++ r2)) l1 (l1 ++ []) r1 (t ++ r2) l2 (l1 ++ s) r2 r2 i j (sym at) (append-nil l1) (sym b) (sym a) refl (meets_shift l1 r2 (s ++ (g.rule j).lead) [] i t s j [] (subst o.Range at rm) (subst q.May at am) (res.overlaps i j s u t hi hj ns nu nt pe qe (o.factor l1 (s ++ (g.rule j).lead) r2 (subst o.Range at rm)) (may_factor o q l1 (s ++ (g.rule j).lead) r2 (subst o.Range at rm) (subst q.May at am))))
      where
        at : M ≡ l1 ++ ((s ++ (g.rule j).lead) ++ r2)
        at = e2 ∙ ap (λ z. z ++ ((g.rule j).lead ++ r2)) a ∙ append_assoc l1 s ((g.rule j).lead ++ r2) ∙ ap (λ z. l1 ++ z) (sym (append_assoc s (g.rule j).lead r2))
    meets M l1 i r1 l2 j r2 hi hj rm am e1 e2 differ (inside s t pe a b) = elim (g.same_number i j) [
      | inl e ↦ absurd (differ e (sym (a ∙ ap (λ z. l1 ++ z) (nil_from_length s (omega (arith, ap length (pe ∙ ap (λ z. s ++ ((g.rule z).lead ++ t)) (sym e)), length-append s ((g.rule i).lead ++ t), length-append (g.rule i).lead t))) ∙ append-nil l1)))
      | inr n ↦ meets_at M (l1 ++ ((g.rule i).lead ++ r1)) l1 (l1 ++ []) r1 r1 l2 (l1 ++ s) r2 (t ++ r1) i j (sym e1) (append-nil l1) refl (sym a) (sym b) (meets_shift l1 r1 (g.rule i).lead [] i [] s j t (subst o.Range e1 rm) (subst q.May e1 am) (res.inclusions i j s t hi hj n pe (o.factor l1 (g.rule i).lead r1 (subst o.Range e1 rm)) (may_factor o q l1 (g.rule i).lead r1 (subst o.Range e1 rm) (subst q.May e1 am))))
    ]
    meets M l1 i r1 l2 j r2 hi hj rm am e1 e2 differ (outside t nt qe a b) = elim (g.same_number i j) [
      | inl e ↦ absurd (longer_than_itself (g.rule i).lead t nt (ap (λ z. (g.rule z).lead) e ∙ qe))
      | inr n ↦ meets_at M (l2 ++ ((g.rule j).lead ++ r2)) l1 (l2 ++ []) r1 (t ++ r2) l2 (l2 ++ []) r2 r2 i j (sym e2) (append-nil l2 ∙ a) (sym b) (append-nil l2) refl (meets_swap _ _ _ _ _ _ _ (meets_shift l2 r2 (g.rule j).lead [] j [] [] i t (subst o.Range e2 rm) (subst q.May e2 am) (res.inclusions j i [] t hj hi (λ k. n (sym k)) qe (o.factor l2 (g.rule j).lead r2 (subst o.Range e2 rm)) (may_factor o q l2 (g.rule j).lead r2 (subst o.Range e2 rm) (subst q.May e2 am)))))
    ]
      where
        longer_than_itself : (p t : Word) → SomeLetters t → p ≡ p ++ t → ⊥
        longer_than_itself p [] n e = let k = n in elim k [ ]
        longer_than_itself p (x ∷ t) n e = omega (arith, ap length e, length-append p (x ∷ t))

-- another bound
pub row_bound : (o : Order) (g : Rules o) (q p : Allowed o) (M : Word) (b : Coefs) → Row o g q M b → p.May M → Row o g p M b
row_bound o g q p M b r m = record { number = r.number; has = r.has; left = r.left; right = r.right; top = r.top; range = r.range; may = m; is = r.is }
