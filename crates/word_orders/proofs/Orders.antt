-- Each admissible order is an order as proofs about words ask for it.
use Rattle.std.proofs.Common.{◌≡◌, ◌⊎◌, inl, inr, ℕ, List, [], ◌++◌, append-nil, refl, sym, ap, ap₂, ◌∙◌}
use Rattle.std.proofs.lemmas.Cmp.{tied_itself}
use Rattle.std.specs.Ordering.{ordering_reverse}
use Rattle.std.specs.declared.cmp.Ordering.{Ordering}
use Rattle.std.specs.declared.cmp.Ordering.TheVariants.{Less, Equal, Greater}
use Rattle.word_core.specs.Letters.{IsOver}
use Rattle.word_orders.specs.Admissible.{Compare, IsAdmissible}
use Rattle.word_orders.specs.Orders.{Order, IsBelow}
use Rattle.word_orders.proofs.Induction.{word_induction}
use Rattle.word_orders.proofs.Over.{IsOver-append, IsOver-front, IsOver-back, IsOver-decided}

module _ (letters : ℕ) (compare : Compare) (rank : List ℕ → List ℕ) (laws : IsAdmissible letters compare rank) where
  abbrev Below : List ℕ → List ℕ → Type 0
  Below = IsBelow letters compare

  irreflexive : (u : List ℕ) → Below u u → ⊥
  irreflexive u below = not_less (sym (tied_itself laws.total u) ∙ below.less)
    where
      not_less : Equal ≡ Less → ⊥
      not_less e = cc

  trans : (u v w : List ℕ) → Below u v → Below v w → Below u w
  trans u v w one other = record { left = one.left; right = other.right; less = laws.total.trans u v w one.less other.less }

  compared : (u v : List ℕ) → IsOver letters u → IsOver letters v → (u ≡ v) ⊎ (Below u v ⊎ Below v u)
  compared u v u_over v_over = go (compare u v) refl
    where
      go : (o : Ordering) → compare u v ≡ o → (u ≡ v) ⊎ (Below u v ⊎ Below v u)
      go Less e = inr (inl (record { left = u_over; right = v_over; less = e }))
      go Equal e = inl (laws.same u v e)
      go Greater e = inr (inr (record { left = v_over; right = u_over; less = laws.total.antisymm v u ∙ ap ordering_reverse e }))

  range_left : (l u r : List ℕ) → IsOver letters (l ++ (u ++ r)) → IsOver letters l
  range_left l u r over = IsOver-front letters l (u ++ r) over

  range_inner : (l u r : List ℕ) → IsOver letters (l ++ (u ++ r)) → IsOver letters u
  range_inner l u r over = IsOver-front letters u r (IsOver-back letters l (u ++ r) over)

  range_right : (l u r : List ℕ) → IsOver letters (l ++ (u ++ r)) → IsOver letters r
  range_right l u r over = IsOver-back letters u r (IsOver-back letters l (u ++ r) over)

  range_join : (l u r : List ℕ) → IsOver letters l → IsOver letters u → IsOver letters r → IsOver letters (l ++ (u ++ r))
  range_join l u r l_over u_over r_over = IsOver-append letters l (u ++ r) l_over (IsOver-append letters u r u_over r_over)

  compatible : (l u v r : List ℕ) → IsOver letters (l ++ (v ++ r)) → Below u v → Below (l ++ (u ++ r)) (l ++ (v ++ r))
  compatible l u v r over below = record {
    left = range_join l u r (range_left l v r over) below.left (range_right l v r over);
    right = over;
    less = laws.around l u v r below.less;
  }

  -- a word is at most the word with letters before it, and with letters after it
  front_le : (l u : List ℕ) → (u ≡ l ++ u) ⊎ (compare u (l ++ u) ≡ Less)
  front_le l u = go (laws.least l)
    where
      go : (l ≡ []) ⊎ (compare [] l ≡ Less) → (u ≡ l ++ u) ⊎ (compare u (l ++ u) ≡ Less)
      go (inl empty) = inl (ap (λ front. front ++ u) (sym empty))
      go (inr below) = inr (laws.around [] [] l u below)

  back_le : (u r : List ℕ) → (u ≡ u ++ r) ⊎ (compare u (u ++ r) ≡ Less)
  back_le u r = go (laws.least r)
    where
      go : (r ≡ []) ⊎ (compare [] r ≡ Less) → (u ≡ u ++ r) ⊎ (compare u (u ++ r) ≡ Less)
      go (inl empty) = inl (sym (append-nil u) ∙ ap (λ back. u ++ back) (sym empty))
      go (inr below) = inr (sym (ap₂ compare (append-nil u) (ap (λ back. u ++ back) (append-nil r))) ∙ laws.around u [] r [] below)

  factor_le : (l u r : List ℕ) → IsOver letters (l ++ (u ++ r)) → (u ≡ l ++ (u ++ r)) ⊎ Below u (l ++ (u ++ r))
  factor_le l u r over = go (back_le u r) (front_le l (u ++ r))
    where
      below : compare u (l ++ (u ++ r)) ≡ Less → (u ≡ l ++ (u ++ r)) ⊎ Below u (l ++ (u ++ r))
      below less = inr (record { left = range_inner l u r over; right = over; less = less })

      go : (u ≡ u ++ r) ⊎ (compare u (u ++ r) ≡ Less) → (u ++ r ≡ l ++ (u ++ r)) ⊎ (compare (u ++ r) (l ++ (u ++ r)) ≡ Less) → (u ≡ l ++ (u ++ r)) ⊎ Below u (l ++ (u ++ r))
      go (inl same) (inl level) = inl (same ∙ level)
      go (inl same) (inr less) = below (ap (λ w. compare w (l ++ (u ++ r))) same ∙ less)
      go (inr less) (inl level) = below (ap (compare u) (sym level) ∙ less)
      go (inr less) (inr further) = below (laws.total.trans u (u ++ r) (l ++ (u ++ r)) less further)

  pub order_from_laws : Order
  order_from_laws = record {
    Range = IsOver letters;
    Less = Below;
    less_range = λ u v below. below.left;
    irreflexive = irreflexive;
    less_trans = trans;
    compare = compared;
    induction = word_induction letters compare rank laws;
    compatible = compatible;
    factor = range_inner;
    factor_le = factor_le;
    range_decided = IsOver-decided letters;
    range_left = range_left;
    range_right = range_right;
    range_join = range_join;
  }

  -- what being in range, and being less, are in it
  pub over_range : (u : List ℕ) → IsOver letters u → order_from_laws.Range u
  unfolding order_from_laws
  over_range u over = over

  pub range_over : (u : List ℕ) → order_from_laws.Range u → IsOver letters u
  unfolding order_from_laws
  range_over u range = range

  pub below_less : (u v : List ℕ) → IsBelow letters compare u v → order_from_laws.Less u v
  unfolding order_from_laws
  below_less u v below = below

  pub less_below : (u v : List ℕ) → order_from_laws.Less u v → IsBelow letters compare u v
  unfolding order_from_laws
  less_below u v less = less
