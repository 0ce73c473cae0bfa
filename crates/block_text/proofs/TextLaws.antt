-- The laws of texts hold of each kind whose reader owes what it has to, and of each writer whose texts are blocks.
use Rattle.block_text.proofs.Prelude.{◌≡◌, ℕ, false, List, list_any, begins_comment, Kind, AreTold, AreReadBack, Steps, HasBlocks, IsBlocks, IsFirstFault}
use Rattle.block_text.proofs.Owed.{IsReader}
use Rattle.block_text.proofs.EachText.{text_is_read, values_are_unique, fault_is_unique, values_have_no_fault}
use Rattle.block_text.proofs.PartsBack.{IsWritten, written_between, parts_have}

module _ {Value : Type 0} (kind : Kind Value) where
  pub are_told : {Begun : Type 0} (steps : Steps Begun Value) → IsReader kind steps → AreTold (IsBlocks kind) (IsFirstFault kind)
  are_told steps reader = record {
    each_is_read = text_is_read kind steps reader;
    values_are_unique = values_are_unique kind steps reader;
    fault_is_unique = fault_is_unique kind steps reader;
    values_have_no_fault = values_have_no_fault kind steps reader;
  }

  pub are_read_back : (text_of : Value → List ℕ) (IsGood : Value → Type 0) → list_any begins_comment kind.others ≡ false
      → ((value : Value) → IsGood value → IsWritten kind (text_of value) value) → AreReadBack (HasBlocks kind) text_of IsGood kind.others
  are_read_back text_of IsGood words written = record {
    between = λ value before after first last good whole left right few. written_between kind (text_of value) value before after first last (written value good) whole left right few;
    in_parts = λ parts each few. parts_have kind text_of IsGood written words parts each few;
  }
