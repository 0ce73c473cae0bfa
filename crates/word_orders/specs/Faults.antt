-- The faults of the list of an order.
use Rattle.std.specs.Prelude.{◌≡◌, ◌&&◌, ℕ, Bool, List, ◌∷◌, ◌++◌, map, Option, Some, None, nat_lt, nat_le, if◌then◌else◌}
use Rattle.std.specs.Option.{option_or}
use Rattle.word_core.specs.declared.letter.Letter.{Letter}
use Rattle.word_orders.specs.declared.fault.OrderFault.{OrderFault}
use Rattle.word_orders.specs.declared.fault.OrderFault.TheVariants.{BadWeight, RepeatedLetter, NoSuchLetter, Memory}
use Rattle.word_orders.specs.Limits.{weight_limit}
use Rattle.word_orders.specs.Lists.{is_listed}

-- a weight is from 1 to the limit
abbrev pub is_weight : ℕ → Bool
is_weight weight = nat_le 1 weight && nat_le weight weight_limit

-- the fault of a letter, by whether it is listed before
abbrev pub letter_fault : ℕ → Bool → Letter → Option OrderFault
letter_fault letters repeated letter =
    if nat_lt letter.0 letters
    then (if repeated then Some (RepeatedLetter letter) else None)
    else Some (NoSuchLetter letter)

-- the fault of a letter and its weight
abbrev pub weight_fault : ℕ → Bool → Letter × ℕ → Option OrderFault
weight_fault letters repeated entry =
    option_or (letter_fault letters repeated entry.0) (if is_weight entry.1 then None else Some (BadWeight entry.0))

-- the fault of an item of a block, and of a list of weights, after the items before it
abbrev pub block_fault : ℕ → List Letter → Letter → Option OrderFault
block_fault letters before letter = letter_fault letters (is_listed before letter.0) letter

abbrev pub entry_fault : ℕ → List (Letter × ℕ) → Letter × ℕ → Option OrderFault
entry_fault letters before entry = weight_fault letters (is_listed (map (λ e. e.0) before) entry.0.0) entry

-- no item has a fault after those before it
abbrev pub HasNoFault : {A : Type 0} → (List A → A → Option OrderFault) → List A → Type 0
HasNoFault {A} fault_of items = (before : List A) (item : A) (after : List A) → items ≡ before ++ (item ∷ after) → fault_of before item ≡ None

-- the fault is that of an item, and the items before it have none
pub record IsFirstFault {A : Type 0} (fault_of : List A → A → Option OrderFault) (items : List A) (fault : OrderFault) : Type 0 where
  pub before : List A
  pub item : A
  pub after : List A
  pub splits : items ≡ before ++ (item ∷ after)
  pub sound_before : HasNoFault fault_of before
  pub is_fault : fault_of before item ≡ Some fault

-- memory ran out
abbrev pub IsMemory : OrderFault → Type 0
IsMemory (BadWeight letter) = ⊥
IsMemory (RepeatedLetter letter) = ⊥
IsMemory (NoSuchLetter letter) = ⊥
IsMemory (Memory e) = Unit {0}

-- the fault is the first one of the items; want of memory is always allowed
abbrev pub Explains : {A : Type 0} → (List A → A → Option OrderFault) → List A → OrderFault → Type 0
Explains fault_of items (BadWeight letter) = IsFirstFault fault_of items (BadWeight letter)
Explains fault_of items (RepeatedLetter letter) = IsFirstFault fault_of items (RepeatedLetter letter)
Explains fault_of items (NoSuchLetter letter) = IsFirstFault fault_of items (NoSuchLetter letter)
Explains fault_of items (Memory e) = Unit {0}
