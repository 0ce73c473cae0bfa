-- The laws of the values of texts: each text is read in one way, and what is written is read back.
use Rattle.std.specs.Prelude.{◌≡◌, ◌≤◌, ◌<◌, ◌+◌, ◌⊎◌, ℕ, List, ◌∷◌, ◌++◌, length, IsTrue}
use Rattle.std.specs.List.{All, flat_map}
use Rattle.block_text.specs.Fault.{Fault}
use Rattle.block_text.specs.Lines.{block_limit}
use Rattle.block_text.specs.Back.{Part, part_text, values_in, IsPart, is_whole}

-- by the values that a text has, and its first fault
module _ {Value : Type 0} (IsText : List ℕ → List Value → Type 0) (IsFirst : List ℕ → Fault → Type 0) where
  -- Each text has values or a first fault.
  abbrev pub EachIsRead : Type 0
  EachIsRead = (bytes : List ℕ) → ((values : List Value) × IsText bytes values) ⊎ ((fault : Fault) × IsFirst bytes fault)

  -- A text has at most one list of values.
  abbrev pub ValuesAreUnique : Type 0
  ValuesAreUnique = (bytes : List ℕ) (one other : List Value) → IsText bytes one → IsText bytes other → one ≡ other

  -- A text has at most one first fault.
  abbrev pub FaultIsUnique : Type 0
  FaultIsUnique = (bytes : List ℕ) (one other : Fault) → IsFirst bytes one → IsFirst bytes other → one ≡ other

  -- A text that has values has no fault.
  abbrev pub ValuesHaveNoFault : Type 0
  ValuesHaveNoFault = (bytes : List ℕ) (values : List Value) (fault : Fault) → IsText bytes values → IsFirst bytes fault → ⊥

  -- Each text has values or a first fault, in one way.
  pub record AreTold : Type 0 where
    pub each_is_read : EachIsRead
    pub values_are_unique : ValuesAreUnique
    pub fault_is_unique : FaultIsUnique
    pub values_have_no_fault : ValuesHaveNoFault

-- by the values that the blocks of a text say, the text as which a value is written, and the values that may be written
module _ {Value : Type 0} (Has : List ℕ → List Value → Type 0) (text_of : Value → List ℕ) (IsGood : Value → Type 0) where
  -- A value that is written between whole lines and other lines is read as it is, after the values of the lines before it and
  -- before those of the lines after it.
  abbrev pub IsReadBetween : Type 0
  IsReadBetween = (value : Value) (before after : List ℕ) (first last : List Value) → IsGood value
      → IsTrue (is_whole before) → Has before first → Has after last → length first + length last < block_limit
      → Has (before ++ text_of value ++ after) (first ++ value ∷ last)

  -- The values of a text of written values, comments and blocks that begin with these words are those values, in their order.
  abbrev pub AreReadInParts : List (List ℕ) → Type 0
  AreReadInParts others = (parts : List (Part Value)) → All (IsPart others IsGood) parts → length (values_in parts) ≤ block_limit
      → Has (flat_map (part_text text_of) parts) (values_in parts)

  -- Values that are written are read as they are.
  pub record AreReadBack (others : List (List ℕ)) : Type 0 where
    pub between : IsReadBetween
    pub in_parts : AreReadInParts others
