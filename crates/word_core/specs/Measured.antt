-- Orders that compare a number first and then canonically.
use Rattle.std.specs.Prelude.{ℕ, Bool, List, ◌∷◌}
use Rattle.std.specs.List.{sum_by, count_by}
use Rattle.std.specs.Ordering.{nat_cmp, then_cmp, on}
use Rattle.word_core.specs.Canonical.{word_cmp}
use Rattle.word_core.specs.Admissible.{Compare}
use Rattle.word_core.specs.Rank.{rank_of}

-- this number first
abbrev pub measured_cmp : (List ℕ → ℕ) → Compare
measured_cmp measure = then_cmp (on measure nat_cmp) word_cmp

-- the sum of the weights of the letters first
abbrev pub weight_cmp : (ℕ → ℕ) → Compare
weight_cmp weight = measured_cmp (sum_by weight)

abbrev pub weight_rank : (ℕ → ℕ) → ℕ → List ℕ → List ℕ
weight_rank weight letters word = sum_by weight word ∷ rank_of letters word

-- the number of letters in the block first
abbrev pub block_cmp : (ℕ → Bool) → Compare
block_cmp is_in_block = measured_cmp (count_by is_in_block)

abbrev pub block_rank : (ℕ → Bool) → ℕ → List ℕ → List ℕ
block_rank is_in_block letters word = count_by is_in_block word ∷ rank_of letters word
