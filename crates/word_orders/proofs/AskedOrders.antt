-- Each order that can be asked for is admissible, over any letters.
use Rattle.std.proofs.Common.{ℕ, List}
use Rattle.word_orders.specs.declared.any.OrderSpec.{OrderSpec}
use Rattle.word_orders.specs.declared.any.OrderSpec.TheVariants as asked
use Rattle.word_orders.specs.Admissible.{IsAdmissible}
use Rattle.word_orders.specs.Lists.{is_listed, weight_of}
use Rattle.word_orders.specs.Measured.{weight_rank, block_rank}
use Rattle.word_orders.specs.Rank.{rank_of}
use Rattle.word_orders.specs.Specified.{asked_cmp}
use Rattle.word_core.proofs.CanonicalLaws.{word_cmp-admissible}
use Rattle.word_core.proofs.MeasuredLaws.{weight_cmp-admissible, block_cmp-admissible}

-- the ranks of words in the order that is asked for
abbrev pub asked_rank : ℕ → OrderSpec → List ℕ → List ℕ
asked_rank letters asked.Degree = rank_of letters
asked_rank letters (asked.Weight weights) = weight_rank (weight_of weights) letters
asked_rank letters (asked.Block block) = block_rank (is_listed block) letters

pub asked_cmp-admissible : (letters : ℕ) (order : OrderSpec) → IsAdmissible letters (asked_cmp order) (asked_rank letters order)
asked_cmp-admissible letters asked.Degree = word_cmp-admissible letters
asked_cmp-admissible letters (asked.Weight weights) = weight_cmp-admissible (weight_of weights) letters
asked_cmp-admissible letters (asked.Block block) = block_cmp-admissible (is_listed block) letters
