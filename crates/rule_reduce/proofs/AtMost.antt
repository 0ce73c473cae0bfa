-- The greater of two words, in a total order that agrees with equality.
use Rattle.std.proofs.Common.{◌≡◌, ◌⊎◌, inl, inr, ℕ, List, [], ◌∷◌, Some, refl, sym, ap, ◌∙◌, subst, arith}
use Rattle.std.proofs.lemmas.Cmp.{tied_itself}
use Rattle.std.proofs.lemmas.List.Elements.{All-nil, All-cons, All-tail}
use Rattle.std.proofs.lemmas.Option.{same_Some}
use Rattle.std.specs.List.{All}
use Rattle.std.specs.Ordering.{ordering_reverse}
use Rattle.std.specs.declared.cmp.Ordering.TheVariants.{Less, Equal, Greater}
use Rattle.definitions.specs.Poly.{Term}
use Rattle.nc_polynomial.specs.Terms.{by_order}
use Rattle.word_orders.specs.Admissible.{Compare, IsAdmissible}
use Rattle.rule_reduce.specs.Leading.{greater_term, greatest_from, leading_term}

abbrev pub IsAtMost : Compare → List ℕ → List ℕ → Type 0
IsAtMost compare u v = (u ≡ v) ⊎ (compare u v ≡ Less)

module _ (letters : ℕ) (compare : Compare) (rank : List ℕ → List ℕ) (laws : IsAdmissible letters compare rank) where
  pub turned : (u v : List ℕ) → compare u v ≡ Greater → compare v u ≡ Less
  turned u v greater = laws.total.antisymm v u ∙ ap ordering_reverse greater

  pub at_most-trans : (u v w : List ℕ) → IsAtMost compare u v → IsAtMost compare v w → IsAtMost compare u w
  at_most-trans u v w (inl same) more = subst (λ x. IsAtMost compare x w) (sym same) more
  at_most-trans u v w (inr less) (inl same) = inr (subst (λ x. compare u x ≡ Less) same less)
  at_most-trans u v w (inr less) (inr more) = inr (laws.total.trans u v w less more)

  pub at_most-greater : (u v : List ℕ) → IsAtMost compare u v → compare u v ≡ Greater → ⊥
  at_most-greater u v (inl same) greater = cc (sym (tied_itself laws.total v) ∙ ap (λ w. compare w v) (sym same) ∙ greater)
  at_most-greater u v (inr less) greater = cc

  -- of the two terms of a comparison, the one that it leaves is not below
  left_at_most : (best t : Term) → IsAtMost compare best.1 (greater_term compare best t).1
  left_at_most best t =
      (elim (compare t.1 best.1) as (λ o. compare t.1 best.1 ≡ o → IsAtMost compare best.1 (by_order o best best t).1)
      [ Less ↦ λ e. inl refl | Equal ↦ λ e. inl refl | Greater ↦ λ e. inr (turned t.1 best.1 e) ]) refl

  right_at_most : (best t : Term) → IsAtMost compare t.1 (greater_term compare best t).1
  right_at_most best t =
      (elim (compare t.1 best.1) as (λ o. compare t.1 best.1 ≡ o → IsAtMost compare t.1 (by_order o best best t).1)
      [ Less ↦ λ e. inr e | Equal ↦ λ e. inl (laws.same t.1 best.1 e) | Greater ↦ λ e. inl refl ]) refl

  record AreAtMost (best : Term) (p : List Term) (top : Term) : Type 0 where
    first : IsAtMost compare best.1 top.1
    others : All (λ t. IsAtMost compare t.1 top.1) p

  greatest : (best : Term) (p : List Term) → AreAtMost best p (greatest_from compare best p)
  greatest best [] = record { first = inl refl; others = All-nil (λ (t : Term). IsAtMost compare t.1 best.1) }
  greatest best (t ∷ p) =
      let top = greatest_from compare (greater_term compare best t) p in
      let rest = greatest (greater_term compare best t) p in
      record {
        first = at_most-trans best.1 (greater_term compare best t).1 top.1 (left_at_most best t) rest.first;
        others = All-cons (λ (u : Term). IsAtMost compare u.1 top.1) t p (at_most-trans t.1 (greater_term compare best t).1 top.1 (right_at_most best t) rest.first) rest.others;
      }

  -- each word is at most the leading one
  pub leading-greatest : (p : List Term) (top : Term) → leading_term compare p ≡ Some top → All (λ t. IsAtMost compare t.1 top.1) p
  leading-greatest [] top is = All-nil (λ (t : Term). IsAtMost compare t.1 top.1)
  leading-greatest (t ∷ p) top is =
      let all = greatest t p in
      let last = greatest_from compare t p in
      subst (λ u. All (λ (v : Term). IsAtMost compare v.1 u.1) (t ∷ p)) (same_Some last top is) (All-cons (λ (v : Term). IsAtMost compare v.1 last.1) t p all.first all.others)

-- what holds of each term holds of the leading one
pub leading-all : (P : Term → Type 0) (compare : Compare) (p : List Term) (top : Term) → leading_term compare p ≡ Some top → All P p → P top
leading-all P compare [] top is each = absurd (cc)
leading-all P compare (t ∷ p) top is each = subst P (same_Some (greatest_from compare t p) top is) (from t p (each 0 t (omega arith)) (All-tail P t p each))
  where
    from : (best : Term) (q : List Term) → P best → All P q → P (greatest_from compare best q)
    from best [] held others = held
    from best (u ∷ q) held others =
        from (greater_term compare best u) q (elim (compare u.1 best.1) as (λ o. P (by_order o best best u)) [ Less ↦ held | Equal ↦ held | Greater ↦ others 0 u (omega arith) ]) (All-tail P u q others)
