-- Tables of what a list has for each letter, in the order of their numbers.
use Rattle.std.specs.Prelude.{◌≤◌, ℕ, Bool, false, List, length, Option, None, is_some}
use Rattle.std.specs.List.{slice_index_or}
use Rattle.std.specs.Option.{unwrap_or}
use Rattle.word_core.specs.declared.letter.Letter.{Letter}
use Rattle.word_orders.specs.declared.fault.OrderFault.{OrderFault}
use Rattle.word_orders.specs.Faults.{letter_fault, weight_fault}
use Rattle.word_orders.specs.Limits.{weight_limit}

-- the weight of a letter: 1 where the table has none
abbrev pub weight_in : List (Option ℕ) → ℕ → ℕ
weight_in table number = unwrap_or (slice_index_or table number None) 1

-- no letter weighs more than the limit
abbrev pub IsWithinWeights : List (Option ℕ) → Type 0
IsWithinWeights table = (number : ℕ) → weight_in table number ≤ weight_limit

-- whether the letter is in the block
abbrev pub is_in : List Bool → ℕ → Bool
is_in table number = slice_index_or table number false

-- the fault of an item that is added to the table
abbrev pub fault_in : List (Option ℕ) → Letter × ℕ → Option OrderFault
fault_in table entry = weight_fault (length table) (is_some (slice_index_or table entry.0.0 None)) entry

abbrev pub fault_in_block : List Bool → Letter → Option OrderFault
fault_in_block table letter = letter_fault (length table) (is_in table letter.0) letter
