-- How proofs that cancel letters are written.
use Rattle.std.specs.Prelude.{◌<◌, ℕ, List, ◌++◌, decimal, codes}
use Rattle.std.specs.List.{All, flat_map}
use Rattle.word_core.specs.declared.letter.Letter.{Letter}
use Rattle.quiver.specs.Declarations.{Declaration, letter_count}
use Rattle.cancel_rules.specs.declared.cancellation.Side.{Side}
use Rattle.cancel_rules.specs.declared.cancellation.Side.TheVariants.{Left, Right}
use Rattle.cancel_rules.specs.declared.cancellation.Item.{Item}
use Rattle.cancel_rules.specs.declared.cancellation.Item.TheVariants as item
use Rattle.cancel_rules.specs.declared.cancellation.Cancellation.{Cancellation}
use Rattle.block_text.specs.Written.{letter_text}
use Rattle.certificate_text.specs.Written.{opening_text, lemma_text, numbered_texts, goal_text, IsLemmaOver}
use Rattle.cancellation_text.specs.Blocks.{called_word, side_word}

-- monic LETTER, or epic LETTER
abbrev pub called_text : List Declaration → Side → Letter → List ℕ
called_text ds side a = called_word side ++ codes " " ++ letter_text ds a.0 ++ codes "\n"

-- the cancellation with this number, of a letter on a side, and the item from which it is cancelled
abbrev pub cancel_text : List Declaration → ℕ → Letter → Side → ℕ → List ℕ
cancel_text ds number a side from = codes "cancel " ++ decimal number ++ codes " " ++ letter_text ds a.0 ++ codes " "
    ++ side_word side ++ codes " " ++ decimal from ++ codes "\n"

-- the item with this number
abbrev pub item_text : List Declaration → ℕ → Item → List ℕ
item_text ds number (item.Lemma l) = lemma_text ds number l
item_text ds number (item.Cancel a side from) = cancel_text ds number a side from

-- the items with this number and the next ones
abbrev pub items_text : List Declaration → ℕ → List Item → List ℕ
items_text ds number items = numbered_texts (item_text ds) number items

-- the letters that are called monic, and then those that are called epic
abbrev pub letters_text : List Declaration → Cancellation → List ℕ
letters_text ds proof = flat_map (called_text ds Left) proof.monic ++ flat_map (called_text ds Right) proof.epic

-- the items, the goal, and the end of the block
abbrev pub steps_text : List Declaration → Cancellation → List ℕ
steps_text ds proof = items_text ds 1 proof.items ++ goal_text ds proof.goal

-- the first three lines
abbrev pub head_text : Cancellation → List ℕ
head_text proof = opening_text (codes "cancellation 1\nclaim ") proof.claim proof.denominator

abbrev pub cancellation_text : List Declaration → Cancellation → List ℕ
cancellation_text ds proof = head_text proof ++ letters_text ds proof ++ steps_text ds proof

abbrev pub IsItemOver : List Declaration → Item → Type 0
IsItemOver ds (item.Lemma l) = IsLemmaOver ds l
IsItemOver ds (item.Cancel a side from) = a.0 < letter_count ds

pub record IsCancellationOver (ds : List Declaration) (proof : Cancellation) : Type 0 where
  pub monic : All (λ a. a.0 < letter_count ds) proof.monic
  pub epic : All (λ a. a.0 < letter_count ds) proof.epic
  pub items : All (IsItemOver ds) proof.items
  pub goal : IsLemmaOver ds proof.goal
