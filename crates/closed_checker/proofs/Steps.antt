-- One letter of the walk, and its end, as the code takes them.
use Rattle.closed_checker.proofs.Prelude.{◌≡◌, ℕ, suc, ◌+◌, ◌-◌, ◌<◌, not, nat_eq, List, [], length, take, drop, get_or, filter, ap, ◌∙◌, subst, arith, All, AllPairs, IsNonDecreasingBy, Decides-eqb, length-take-le, length-drop, take_more, take_all, Overlap, Inclusion, Ambiguity, ListsExactly, exactly-all, Lead, StandsBefore, rank_at, IsAdded, IsWith, IsOfFirst}
use Rattle.closed_checker.proofs.Fronts.{BeginsWith}
use Rattle.closed_checker.proofs.Tables.{ranks-ascend}
use Rattle.closed_checker.proofs.Walking.{IsGoing, IsEnded, IsLonger, IsIncluded, walk-narrow, walk-part, some_rank, included-more, at_first, cut_off, at_end}

-- The table is sorted, no word of it is empty, and the place is one of the first word.
pub record IsPlace (table : List Lead) (first : Lead) (place : ℕ) : Type 0 where
  pub sorted : AllPairs StandsBefore table
  pub nonempty : All (λ (l : Lead). 0 < length l.letters) table
  pub inside : place < length first.letters

module _ {table : List Lead} {first : Lead} {place : ℕ} (at : IsPlace table first place) where
  abbrev rest : List ℕ
  rest = drop place first.letters

  module _ {depth : ℕ} {longer : List Lead} (walked : ListsExactly StandsBefore (IsLonger table (take depth rest)) longer) where
    -- one letter
    module _ (further : depth < length rest) where
      front-length : length (take depth rest) ≡ depth
      front-length = length-take-le depth rest (omega (arith, further))

      more-length : length (take (depth + 1) rest) ≡ depth + 1
      more-length = length-take-le (depth + 1) rest (omega (arith, further))

      pub longer-ranks : IsNonDecreasingBy (λ (l : Lead). rank_at depth l.letters) longer
      longer-ranks = subst (λ n. IsNonDecreasingBy (λ (l : Lead). rank_at n l.letters) longer) front-length
          (ranks-ascend (take depth rest) longer walked.ascending
          (exactly-all StandsBefore (IsLonger table (take depth rest)) (λ (l : Lead). BeginsWith (take depth rest) l.letters) longer walked (λ l is. is.begins)))

      module _ {going : List Lead} (is : going ≡ filter (λ (l : Lead). nat_eq (rank_at depth l.letters) (suc (get_or rest depth 0))) longer) where
        going-exact : ListsExactly StandsBefore (IsGoing table (take (depth + 1) rest) (λ n. Unit {0})) going
        going-exact =
            rw (is, take_more rest depth 0 further)
            (walk-narrow table (take depth rest) depth front-length longer (get_or rest depth 0) walked)

        pub going-ranks : IsNonDecreasingBy (λ (l : Lead). rank_at (depth + 1) l.letters) going
        going-ranks = subst (λ n. IsNonDecreasingBy (λ (l : Lead). rank_at n l.letters) going) more-length
            (ranks-ascend (take (depth + 1) rest) going going-exact.ascending
            (exactly-all StandsBefore (IsGoing table (take (depth + 1) rest) (λ n. Unit {0})) (λ (l : Lead). BeginsWith (take (depth + 1) rest) l.letters) going going-exact (λ l is. is.begins)))

        module _ {ended : List Lead} (are : ended ≡ filter (λ (l : Lead). nat_eq (rank_at (depth + 1) l.letters) 0) going) where
          ended-exact : ListsExactly StandsBefore (IsEnded table (take (depth + 1) rest)) ended
          ended-exact = rw are (walk-part table (take (depth + 1) rest) (depth + 1) more-length going (λ n. nat_eq n 0) (λ n. n ≡ 0) (λ n. Decides-eqb n 0) going-exact)

          pub ended-sorted : AllPairs StandsBefore ended
          ended-sorted = ended-exact.ascending

          pub added-more : {old mid new : List Ambiguity} → IsAdded (IsIncluded table first place depth) old mid → IsAdded (IsWith ended first.number Inclusion place) mid new
              → IsAdded (IsIncluded table first place (depth + 1)) old new
          added-more {old} {mid} {new} before more = included-more table at.sorted at.nonempty first place at.inside depth further ended ended-exact old mid new before more

        pub walked-more : {more : List Lead} → more ≡ filter (λ (l : Lead). not (nat_eq (rank_at (depth + 1) l.letters) 0)) going
            → ListsExactly StandsBefore (IsLonger table (take (depth + 1) rest)) more
        walked-more are = rw are (walk-part table (take (depth + 1) rest) (depth + 1) more-length going (λ n. not (nat_eq n 0)) (λ n. 0 < n) some_rank going-exact)

      -- no word goes on
      pub none-longer : longer ≡ [] → {old new : List Ambiguity} → IsAdded (IsIncluded table first place depth) old new → IsAdded (IsOfFirst table first (λ p. p ≡ place)) old new
      none-longer none {old} {new} added =
          cut_off table at.sorted at.nonempty first place at.inside depth old new (omega (arith, further)) (subst (ListsExactly StandsBefore (IsLonger table (take depth rest))) none walked) added

    -- at the end
    module _ (all : depth ≡ length rest) {old mid : List Ambiguity} (added : IsAdded (IsIncluded table first place depth) old mid) where
      added-whole : IsAdded (IsIncluded table first place (length rest)) old mid
      added-whole = subst (λ n. IsAdded (IsIncluded table first place n) old mid) all added

      pub overlaps-added : 0 < place → {new : List Ambiguity} → IsAdded (IsWith longer first.number Overlap place) mid new → IsAdded (IsOfFirst table first (λ p. p ≡ place)) old new
      overlaps-added some {new} more =
          at_end table at.sorted at.nonempty first place at.inside longer old mid new some
          (subst (λ f. ListsExactly StandsBefore (IsLonger table f) longer) (take_all depth rest (omega (arith, all))) walked) added-whole more

      pub first-added : place ≡ 0 → IsAdded (IsOfFirst table first (λ p. p ≡ place)) old mid
      first-added none = at_first table at.sorted at.nonempty first place at.inside old mid none added-whole

-- a slice from a place on
pub rest_from : (w letters : List ℕ) (place : ℕ) → w ≡ letters → take (length w - place) (drop place w) ≡ drop place letters
rest_from w letters place is = take_all (length w - place) (drop place w) (omega (arith, length-drop place w)) ∙ ap (drop place) is
