-- The grammar of proofs that cancel letters: blocks as trees of tokens, and the lines of each.
use Rattle.std.specs.Prelude.{◌≢◌, ⊤, ℕ, ◌+◌, ◌-◌, Bool, IsTrue, List, [], ◌∷◌, ◌++◌, length, take, map, nat_eq, Option, None, AllPairs, codes, if◌then◌else◌}
use Rattle.std.specs.List.{All, filter_map, ends_with, flat_map}
use Rattle.std.specs.Option.{option_map}
use Rattle.word_core.specs.declared.letter.Letter.{Letter}
use Rattle.quiver.specs.Declarations.{Declaration}
use Rattle.cancel_rules.specs.declared.cancellation.Side.{Side}
use Rattle.cancel_rules.specs.declared.cancellation.Side.TheVariants.{Left, Right}
use Rattle.block_text.specs.Letters.{is_name, is_number, letter_of}
use Rattle.block_text.specs.Lines.{Line, claim_line}
use Rattle.certificate_text.specs.Lines.{is_value}
use Rattle.certificate_text.specs.Blocks.{ScaledTokens, LemmaTokens, denominator_line, lemma_lines, goal_lines, IsScaled}

-- a letter that is called monic, to be cancelled on the left, or epic, to be cancelled on the right
pub record CalledTokens : Type 0 where
  pub side : Side
  pub letter : List ℕ

-- cancel K LETTER left J, or with right for left
pub record CancelTokens : Type 0 where
  pub number : List ℕ
  pub letter : List ℕ
  pub side : Side
  pub item : List ℕ

-- a lemma with its rows, or a cancellation
pub data ItemTokens : Type 0 where
  lemma : LemmaTokens → ItemTokens
  cancel : CancelTokens → ItemTokens

-- a proof: its claim, its denominator, the letters that it calls monic or epic, its items, and its goal
pub record CancellationTokens : Type 0 where
  pub claim : List ℕ
  pub denominator : List ℕ
  pub called : List CalledTokens
  pub items : List ItemTokens
  pub goal : ScaledTokens

-- cancellation 1
abbrev pub head_line : Line
head_line = codes "cancellation" ∷ codes "1" ∷ []

-- the word for a letter that is cancelled on this side
abbrev pub called_word : Side → List ℕ
called_word Left = codes "monic"
called_word Right = codes "epic"

abbrev pub side_word : Side → List ℕ
side_word Left = codes "left"
side_word Right = codes "right"

-- monic LETTER, or epic LETTER
abbrev pub called_line : CalledTokens → Line
called_line c = called_word c.side ∷ c.letter ∷ []

-- cancel K LETTER left J, or with right for left
abbrev pub cancel_line : CancelTokens → Line
cancel_line c = codes "cancel" ∷ c.number ∷ c.letter ∷ side_word c.side ∷ c.item ∷ []

abbrev pub item_lines : ItemTokens → List Line
item_lines (lemma l) = lemma_lines l
item_lines (cancel c) = cancel_line c ∷ []

-- all but the line that ends it
abbrev pub cancellation_lines : CancellationTokens → List Line
cancellation_lines b = head_line ∷ claim_line b.claim ∷ denominator_line b.denominator ∷ (map called_line b.called
    ++ (flat_map item_lines b.items ++ goal_lines b.goal))

-- the token without the ' at its end
abbrev pub unstarred : List ℕ → List ℕ
unstarred token = if ends_with nat_eq token (codes "'") then take (length token - 1) token else token

-- NAME or NAME'
abbrev pub is_map_letter : List ℕ → Bool
is_map_letter token = is_name (unstarred token)

-- a letter of the quiver
abbrev pub known_letter : List Declaration → List ℕ → Option Letter
known_letter ds token = option_map (λ a. record { 0 = a }) (letter_of ds token)

-- a letter, where both sides are the same
abbrev pub on_side : Side → Side → Option Letter → Option Letter
on_side Left Left found = found
on_side Left Right found = None
on_side Right Left found = None
on_side Right Right found = found

-- the letter that the line calls monic, where the side is the left one, or epic
abbrev pub called_on : List Declaration → Side → CalledTokens → Option Letter
called_on ds side c = on_side side c.side (known_letter ds c.letter)

-- all of them, in the order of the lines
abbrev pub called_letters : List Declaration → Side → List CalledTokens → List Letter
called_letters ds side called = filter_map (called_on ds side) called

-- an item has the number after that of the item before it
abbrev pub IsItem : ℕ → ItemTokens → Type 0
IsItem number (lemma l) = IsTrue (is_value number l.number) × IsScaled l.scaled
IsItem number (cancel c) = IsTrue (is_value number c.number) × IsTrue (is_map_letter c.letter) × IsTrue (is_number c.item)

abbrev pub AreItems : ℕ → List ItemTokens → Type 0
AreItems number [] = ⊤
AreItems number (i ∷ items) = IsItem number i × AreItems (number + 1) items

-- numbers and letters of maps are at their places, items are numbered from 1, and no letter is called monic or epic twice
pub record IsCancellationBlock (ds : List Declaration) (b : CancellationTokens) : Type 0 where
  pub claim : IsTrue (is_number b.claim)
  pub denominator : IsTrue (is_number b.denominator)
  pub called : All (λ c. IsTrue (is_map_letter c.letter)) b.called
  pub once : (side : Side) → AllPairs (λ a c. a ≢ c) (called_letters ds side b.called)
  pub items : AreItems 1 b.items
  pub goal : IsScaled b.goal
