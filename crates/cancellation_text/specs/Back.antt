-- Proofs that cancel letters and are written are read back, whatever texts are before and after them.
use Rattle.std.specs.Prelude.{◌≡◌, ◌≢◌, ◌<◌, ◌≤◌, ◌^◌, ◌+◌, List, [], ◌∷◌, ◌++◌, length, Some, AllPairs, IsTrue}
use Rattle.std.specs.List.{All, list_all}
use Rattle.word_core.specs.declared.letter.Letter.{Letter}
use Rattle.quiver.specs.declared.named.Named.TheVariants.{Map}
use Rattle.quiver.specs.Declarations.{Declaration, IsDeclared, letter_count, letter_name, named_in}
use Rattle.cofactor_trace.specs.Lemmas.{row_count, letter_count as letters_of_lemmas}
use Rattle.cofactor_trace.specs.Limits.{row_limit, letter_limit}
use Rattle.traced_rows.specs.declared.evidence.Lemma.{Lemma}
use Rattle.cancel_rules.specs.declared.cancellation.Item.{Item}
use Rattle.cancel_rules.specs.declared.cancellation.Item.TheVariants as item
use Rattle.cancel_rules.specs.declared.cancellation.Cancellation.{Cancellation}
use Rattle.block_text.specs.Back.{is_named}
use Rattle.block_text.specs.Laws.{IsReadBetween, AreReadInParts}
use Rattle.block_text.specs.Texts.{HasBlocks}
use Rattle.certificate_text.specs.Back.{IsWritableInteger, IsWritableLemma}
use Rattle.cancellation_text.specs.Cancellations.{other_words, cancellation_kind}
use Rattle.cancellation_text.specs.Written.{cancellation_text}

-- a letter of the quiver that is a declared map or its adjoint
pub record IsMapLetter (ds : List Declaration) (a : Letter) : Type 0 where
  pub in_quiver : a.0 < letter_count ds
  pub map : Letter
  pub stands : named_in ds (letter_name ds a.0) ≡ Some (Map map)

-- no letter twice
pub record AreCalledOnce (ds : List Declaration) (letters : List Letter) : Type 0 where
  pub maps : All (IsMapLetter ds) letters
  pub once : AllPairs (λ a c. a ≢ c) letters

abbrev pub IsWritableItem : List Declaration → Item → Type 0
IsWritableItem ds (item.Lemma l) = IsWritableLemma ds l
IsWritableItem ds (item.Cancel a side from) = IsMapLetter ds a × (from < 2 ^ 32)

-- the lemmas among items
abbrev pub lemmas_in : List Item → List Lemma
lemmas_in [] = []
lemmas_in (item.Lemma l ∷ items) = l ∷ lemmas_in items
lemmas_in (item.Cancel a side from ∷ items) = lemmas_in items

-- the rows and the letters of the lemmas and of the goal are counted together
pub record IsWritable (ds : List Declaration) (proof : Cancellation) : Type 0 where
  pub claim : proof.claim < 2 ^ 32
  pub denominator : IsWritableInteger proof.denominator
  pub monic : AreCalledOnce ds proof.monic
  pub epic : AreCalledOnce ds proof.epic
  pub items : All (IsWritableItem ds) proof.items
  pub goal : IsWritableLemma ds proof.goal
  pub few_items : length proof.items ≤ row_limit
  pub few_rows : row_count (lemmas_in proof.items ++ proof.goal ∷ []) ≤ row_limit
  pub letters : letters_of_lemmas (lemmas_in proof.items ++ proof.goal ∷ []) ≤ letter_limit

-- A proof that is written between whole lines and other lines is read as it is, after the proofs of the lines before it
-- and before those of the lines after it.
abbrev pub CancellationsAreReadBack : Type 0
CancellationsAreReadBack = (ds : List Declaration) → IsDeclared ds → IsTrue (list_all is_named ds)
    → IsReadBetween (HasBlocks (cancellation_kind ds)) (cancellation_text ds) (IsWritable ds)

-- The proofs of a text of written proofs, comments and blocks of other kinds are those proofs, in their order.
abbrev pub ArePartsReadBack : Type 0
ArePartsReadBack = (ds : List Declaration) → IsDeclared ds → IsTrue (list_all is_named ds)
    → AreReadInParts (HasBlocks (cancellation_kind ds)) (cancellation_text ds) (IsWritable ds) other_words
