-- A new node, before it is put into its buckets.
use Rattle.rule_index.proofs.Prelude.{◌≡◌, ℕ, ◌<◌, ◌≤◌, ◌+◌, List, [], ◌∷◌, ◌++◌, length, get_or, refl, sym, ap, ◌∙◌, subst, arith, length_push, Node, node_at, root, bucket_of, bucket_at, letter_bucket_of, IsThreaded, IsChained, IsLettered}
use Rattle.rule_index.proofs.Pushing.{push-old}

module _ (bucket : ℕ → ℕ) (size n : ℕ) (heads nexts : List ℕ) (h : IsThreaded bucket size n heads nexts) where
  -- a new node that is in no bucket yet
  module _ (bucket' : ℕ → ℕ) (same : (k : ℕ) → k < n → bucket' k ≡ bucket k) (whole : n ≡ size) where
    next-old : (k : ℕ) → k < n → get_or (nexts ++ 0 ∷ []) k 0 ≡ get_or nexts k 0
    next-old k below = push-old nexts 0 0 k (λ e. omega (arith, e, h.sized))

    pub threaded-longer : IsThreaded bucket' (size + 1) n heads (nexts ++ 0 ∷ [])
    threaded-longer = record {
      some = h.some;
      wide = h.wide;
      sized = omega (arith, length_push nexts 0, h.sized);
      head_in = h.head_in;
      head_bucket = λ b some. same (get_or heads b 0) (h.head_in b) ∙ h.head_bucket b some;
      head_last = λ k some below. subst (λ b. k ≤ get_or heads b 0) (sym (same k below)) (h.head_last k some below);
      next_below = λ k some below. omega (arith, next-old k below, h.next_below k some below);
      next_bucket = λ k some below next.
          let next_some : 0 < get_or nexts k 0 = omega (arith, next-old k below) in
          ap bucket' (next-old k below)
          ∙ same (get_or nexts k 0) (omega (arith, h.next_below k some below))
          ∙ h.next_bucket k some below next_some
          ∙ sym (same k below);
      next_last = λ j k some up below together.
          omega (arith, next-old k below, h.next_last j k some up below (sym (same j (omega arith)) ∙ together ∙ same k below));
    }

-- a new node, in either kind of buckets
module _ (nodes : List Node) (heads nexts : List ℕ) (new : Node) where
  node-old : (k : ℕ) → k < length nodes → node_at (nodes ++ new ∷ []) k ≡ node_at nodes k
  node-old k below = push-old nodes new root k (λ e. omega (arith, e))

  pub chained-longer : IsChained nodes (length nodes) heads nexts → IsChained (nodes ++ new ∷ []) (length nodes) heads (nexts ++ 0 ∷ [])
  chained-longer h = subst (λ size. IsThreaded (bucket_at (nodes ++ new ∷ []) (length heads)) size (length nodes) heads (nexts ++ 0 ∷ [])) (sym (length_push nodes new))
      (threaded-longer (bucket_at nodes (length heads)) (length nodes) (length nodes) heads nexts h (bucket_at (nodes ++ new ∷ []) (length heads))
      (λ k below. ap (λ (m : Node). bucket_of (length heads) m.parent m.letter) (node-old k below)) refl)

  pub lettered-longer : IsLettered nodes (length nodes) heads nexts → IsLettered (nodes ++ new ∷ []) (length nodes) heads (nexts ++ 0 ∷ [])
  lettered-longer h = subst (λ size. IsThreaded (λ k. letter_bucket_of (length heads) (node_at (nodes ++ new ∷ []) k).letter) size (length nodes) heads (nexts ++ 0 ∷ [])) (sym (length_push nodes new))
      (threaded-longer (λ k. letter_bucket_of (length heads) (node_at nodes k).letter) (length nodes) (length nodes) heads nexts h (λ k. letter_bucket_of (length heads) (node_at (nodes ++ new ∷ []) k).letter)
      (λ k below. ap (λ (m : Node). letter_bucket_of (length heads) m.letter) (node-old k below)) refl)

-- the root alone is in no bucket
pub lettered-none : (nodes : List Node) (heads nexts : List ℕ) → length nodes ≡ 1 → 0 < length heads → length nexts ≡ 1 → ((b : ℕ) → get_or heads b 0 ≡ 0) → IsLettered nodes (length nodes) heads nexts
lettered-none nodes heads nexts one wide sized none = record {
  some = omega (arith, one);
  wide = wide;
  sized = sized ∙ sym one;
  head_in = λ b. omega (arith, none b, one);
  head_bucket = λ b some. absurd (omega (arith, none b, some));
  head_last = λ k some below. absurd (omega (arith, one));
  next_below = λ k some below. absurd (omega (arith, one));
  next_bucket = λ k some below next. absurd (omega (arith, one));
  next_last = λ j k some up below together. absurd (omega (arith, one));
}
