-- The bounds of proofs that cancel letters, which are those of certificates in their order, and what the blocks say.
use Rattle.std.specs.Prelude.{◌≡◌, ◌≤◌, ⊤, ℕ, List, [], ◌++◌, length, Some, Ok}
use Rattle.std.specs.List.{All, AllZip, flat_map}
use Rattle.word_core.specs.declared.letter.Letter.{Letter}
use Rattle.quiver.specs.Declarations.{Declaration}
use Rattle.cancel_rules.specs.declared.cancellation.Side.TheVariants.{Left, Right}
use Rattle.cancel_rules.specs.declared.cancellation.Item.{Item}
use Rattle.cancel_rules.specs.declared.cancellation.Item.TheVariants as item
use Rattle.cancel_rules.specs.declared.cancellation.Cancellation.{Cancellation}
use Rattle.block_text.specs.Letters.{number_within}
use Rattle.block_text.specs.Lines.{number_limit, integer_limit, integer_of}
use Rattle.certificate_text.specs.Lines.{RowTokens, row_limit, letter_limit}
use Rattle.certificate_text.specs.Bounds.{IsWithin, IsScaledOf, HasNames, HasNumbers, HasShortWords, letters_in}
pub use Rattle.certificate_text.specs.Bounds.{Bound, names, numbers, words, rows, letters, bounds, flaw_of}
use Rattle.cancellation_text.specs.Blocks.{CancelTokens, ItemTokens, lemma, cancel, CancellationTokens, known_letter, called_letters}

-- a letter, a side and the number of an item
pub record IsCancelOf (ds : List Declaration) (c : CancelTokens) (i : Item) : Type 0 where
  pub letter : Letter
  pub number : ℕ
  pub letter_is : known_letter ds c.letter ≡ Some letter
  pub number_is : number_within number_limit c.item ≡ Some number
  pub is : i ≡ item.Cancel letter c.side number

abbrev pub IsItemOf : List Declaration → ItemTokens → Item → Type 0
IsItemOf ds (lemma l) (item.Lemma found) = IsScaledOf ds l.scaled found
IsItemOf ds (lemma l) (item.Cancel letter side number) = ⊥
IsItemOf ds (cancel c) i = IsCancelOf ds c i

-- its numbers, the letters that it calls monic and epic, its items, and its goal
pub record IsCancellationOf (ds : List Declaration) (b : CancellationTokens) (proof : Cancellation) : Type 0 where
  pub claim : number_within number_limit b.claim ≡ Some proof.claim
  pub denominator : integer_of b.denominator ≡ Ok proof.denominator
  pub monic : called_letters ds Left b.called ≡ proof.monic
  pub epic : called_letters ds Right b.called ≡ proof.epic
  pub items : AllZip (IsItemOf ds) b.items proof.items
  pub goal : IsScaledOf ds b.goal proof.goal

abbrev pub item_rows : ItemTokens → List RowTokens
item_rows (lemma l) = l.scaled.rows
item_rows (cancel c) = []

-- the rows of all its lemmas and of its goal
abbrev pub rows_in : CancellationTokens → List RowTokens
rows_in b = flat_map item_rows b.items ++ b.goal.rows

-- the letter is one of the quiver
abbrev pub IsKnown : List Declaration → List ℕ → Type 0
IsKnown ds token = (a : Letter) × (known_letter ds token ≡ Some a)

abbrev pub HasItemName : List Declaration → ItemTokens → Type 0
HasItemName ds (lemma l) = ⊤
HasItemName ds (cancel c) = IsKnown ds c.letter

-- the scale of a lemma, or the number of the item from which a letter is cancelled
abbrev pub HasItemNumber : ItemTokens → Type 0
HasItemNumber (lemma l) = IsWithin integer_limit l.scaled.scale
HasItemNumber (cancel c) = IsWithin number_limit c.item

-- the letters outside of rows
pub record HasNamesOutside (ds : List Declaration) (b : CancellationTokens) : Type 0 where
  pub called : All (λ c. IsKnown ds c.letter) b.called
  pub items : All (HasItemName ds) b.items

-- the numbers outside of rows
pub record HasNumbersOutside (b : CancellationTokens) : Type 0 where
  pub claim : IsWithin number_limit b.claim
  pub denominator : IsWithin integer_limit b.denominator
  pub items : All HasItemNumber b.items
  pub goal : IsWithin integer_limit b.goal.scale

-- the block is within the bound
abbrev pub KeepsOne : List Declaration → Bound → CancellationTokens → Type 0
KeepsOne ds names b = HasNamesOutside ds b × All (HasNames ds) (rows_in b)
KeepsOne ds numbers b = HasNumbersOutside b × All HasNumbers (rows_in b)
KeepsOne ds words b = All HasShortWords (rows_in b)
KeepsOne ds rows b = (length b.items ≤ row_limit) × (length (rows_in b) ≤ row_limit)
KeepsOne ds letters b = letters_in (rows_in b) ≤ letter_limit
