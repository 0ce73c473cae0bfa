-- The orders that can be asked for, and those that are made of them.
use Rattle.std.specs.Prelude.{◌^◌, ℕ, List, length, Bool, true, false}
use Rattle.std.specs.List.{sum_by, count_by}
use Rattle.word_core.specs.Canonical.{word_cmp}
use Rattle.word_orders.specs.declared.fault.OrderFault.{OrderFault}
use Rattle.word_orders.specs.declared.any.OrderSpec.{OrderSpec}
use Rattle.word_orders.specs.declared.any.OrderSpec.TheVariants as asked
use Rattle.word_orders.specs.declared.any.AnyOrder.{AnyOrder}
use Rattle.word_orders.specs.declared.any.AnyOrder.TheVariants as made
use Rattle.word_orders.specs.Admissible.{Compare}
use Rattle.word_orders.specs.Faults.{block_fault, entry_fault, HasNoFault, Explains}
use Rattle.word_orders.specs.Lists.{is_listed, weight_of}
use Rattle.word_orders.specs.Measured.{weight_cmp, weight_rank, block_cmp, block_rank}
use Rattle.word_orders.specs.Rank.{rank_of}
use Rattle.word_orders.specs.Tables.{is_in, weight_in}

-- the order that is asked for
abbrev pub asked_cmp : OrderSpec → Compare
asked_cmp asked.Degree = word_cmp
asked_cmp (asked.Weight weights) = weight_cmp (weight_of weights)
asked_cmp (asked.Block block) = block_cmp (is_listed block)

-- its list has no fault
abbrev pub IsSound : ℕ → OrderSpec → Type 0
IsSound letters asked.Degree = Unit {0}
IsSound letters (asked.Weight weights) = HasNoFault (entry_fault letters) weights
IsSound letters (asked.Block block) = HasNoFault (block_fault letters) block

-- its first fault
abbrev pub ExplainsSpec : ℕ → OrderSpec → OrderFault → Type 0
ExplainsSpec letters asked.Degree fault = ⊥
ExplainsSpec letters (asked.Weight weights) fault = Explains (entry_fault letters) weights fault
ExplainsSpec letters (asked.Block block) fault = Explains (block_fault letters) block fault

-- how one that is made compares, over which letters, and its ranks
abbrev pub made_cmp : AnyOrder → Compare
made_cmp (made.Degree order) = word_cmp
made_cmp (made.Weight order) = weight_cmp (weight_in order)
made_cmp (made.Block order) = block_cmp (is_in order)

abbrev pub letters_of : AnyOrder → ℕ
letters_of (made.Degree order) = 2 ^ 16
letters_of (made.Weight order) = length order
letters_of (made.Block order) = length order

abbrev pub made_rank : AnyOrder → List ℕ → List ℕ
made_rank (made.Degree order) = rank_of (2 ^ 16)
made_rank (made.Weight order) = weight_rank (weight_in order) (length order)
made_rank (made.Block order) = block_rank (is_in order) (length order)

-- the number that it compares first
abbrev pub made_measure : AnyOrder → List ℕ → ℕ
made_measure (made.Degree order) word = 0
made_measure (made.Weight order) word = sum_by (weight_in order) word
made_measure (made.Block order) word = count_by (is_in order) word

-- whether it is the canonical order, which compares no such number
abbrev pub is_made_canonical : AnyOrder → Bool
is_made_canonical (made.Degree order) = true
is_made_canonical (made.Weight order) = false
is_made_canonical (made.Block order) = false
