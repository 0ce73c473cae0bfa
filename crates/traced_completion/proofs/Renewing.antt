-- The store after its blocks were renewed.
use Rattle.traced_completion.proofs.Prelude.{◌≡◌, ℕ, ◌+◌, List, ◌++◌, drop, ap, ◌∙◌, arith, IsTotalOrder, AllPairs, IsPermutation, IsSorted, is_lt, ordering_reverse, Equal, Compare, Rule, Waiting, IsNextStore, IsAmbiguityFrom, IsWaitingBefore, AreInOrder, waiting_cmp, IsUpTo, drop-pairs, pairs-weaker, waiting_cmp-total, less-waiting}
use Rattle.traced_completion.proofs.Advancing.{next-store}

module _ (compare : Compare) (total : IsTotalOrder compare) where
  up_to-sorted : (items : List Waiting) → AllPairs (IsUpTo compare) items → IsSorted (waiting_cmp compare) items
  up_to-sorted items pairs k d low high = pairs k (k + 1) d (omega arith) high

  pub before-up_to : (items : List Waiting) → AllPairs (IsWaitingBefore compare) items → AllPairs (IsUpTo compare) items
  before-up_to items = pairs-weaker (IsWaitingBefore compare) (IsUpTo compare) items
      (λ v w before. ap is_lt ((waiting_cmp-total compare total).antisymm w v ∙ ap ordering_reverse (less-waiting compare total v w before)))

  module _ (same : (u v : List ℕ) → compare u v ≡ Equal → u ≡ v) where
    pub renewed-store : (rules : List Rule) (known taken : ℕ) (old others new : List Waiting) → AreInOrder compare rules (IsAmbiguityFrom (known + 1) rules) others → IsPermutation (drop taken old ++ others) new
        → (AllPairs (IsUpTo compare) (drop taken old) → AllPairs (IsUpTo compare) new) → IsNextStore compare rules known taken old new
    renewed-store rules known taken old others new added moved sorted treated each all =
        let before = before-up_to (drop taken old) (drop-pairs (IsWaitingBefore compare) taken old all.ascending) in
        next-store compare total same rules known taken old others new added moved (up_to-sorted new (sorted before)) treated each all
