-- Where a suffix of one word is a prefix of another.
use Rattle.std.specs.Prelude.{◌≡◌, ◌&&◌, ◌-◌, ◌<◌, ℕ, Bool, List, ◌++◌, length, take, drop, filter, nat_lt, nat_eq}
use Rattle.std.specs.List.{range_with_len}
use lib.Pointwise.{pointwise}

-- whether what follows the place in the left word is a proper prefix of the right word
abbrev pub overlaps_at : List ℕ → List ℕ → ℕ → Bool
overlaps_at left right place =
    nat_lt (length left - place) (length right)
    && pointwise nat_eq (drop place left) (take (length left - place) right)

-- all such places inside the left word, ascending
abbrev pub overlap_places : List ℕ → List ℕ → List ℕ
overlap_places left right = filter (overlaps_at left right) (range_with_len 1 (length left - 1))

-- the left word is s o and the right word o t, none of s, o and t is empty, and s has as many letters as the place says
pub record OverlapsAt (left right : List ℕ) (place : ℕ) : Type 0 where
  pub before : List ℕ
  pub shared : List ℕ
  pub after : List ℕ
  pub left_splits : left ≡ before ++ shared
  pub right_splits : right ≡ shared ++ after
  pub at_place : length before ≡ place
  pub before_letters : 0 < length before
  pub shared_letters : 0 < length shared
  pub after_letters : 0 < length after
