-- The ends of a sorted table: where the last word has a rank below the bound each has, and where the first has none, none has.
use Rattle.closed_checker.proofs.Prelude.{◌≡◌, ℕ, ◌-◌, ◌<◌, ◌≤◌, List, length, get_or, slice_get, Some, ap, arith, IsNonDecreasingBy, lt-ltb, le-ltb, get_or_from_slice_get, Lead, IsRankPoint, rank_at}

module _ (depth bound : ℕ) (leads : List Lead) where
  module _ (sorted : IsNonDecreasingBy (λ l. rank_at depth l.letters) leads) (l : Lead) where
    pub last-below : slice_get leads (length leads - 1) ≡ Some l → rank_at depth l.letters < bound → IsRankPoint depth bound leads (length leads)
    last-below there below =
        let n = length leads - 1 in
        let is = λ (d : Lead). ap (λ (x : Lead). rank_at depth x.letters) (get_or_from_slice_get leads n l d there) in (
          (λ k d low inside. lt-ltb (rank_at depth (get_or leads k d).letters) bound (omega (arith, sorted k n d (omega arith) (omega arith), is d, below))),
          (λ k d low inside. absurd (omega arith)),
        )

    pub first-past : slice_get leads 0 ≡ Some l → bound ≤ rank_at depth l.letters → IsRankPoint depth bound leads 0
    first-past there past =
        let is = λ (d : Lead). ap (λ (x : Lead). rank_at depth x.letters) (get_or_from_slice_get leads 0 l d there) in (
          (λ k d low inside. absurd (omega arith)),
          (λ k d low inside. le-ltb (rank_at depth (get_or leads k d).letters) bound (omega (arith, sorted 0 k d (omega arith) inside, is d, past))),
        )
