-- The tests of items, one after another, and what is told where one fails.
use Rattle.std.specs.Prelude.{◌≡◌, ◌≢◌, ◌⊎◌, ℕ, ◌+◌, ◌-◌, ◌<◌, ◌≤◌, List, [], ◌∷◌, ◌++◌, length, map, take, drop, Contains, ⊤}
use Rattle.std.specs.List.{All}
use Rattle.word_core.specs.declared.letter.Letter.{Letter}
use Rattle.definitions.specs.Poly.{Poly}
use Rattle.definitions.specs.Quiver.{Quiver}
use Rattle.definitions.specs.Combination.{generator_at}
use Rattle.definitions.specs.Soundness.{HasSignature}
use Rattle.cofactor_checker.specs.Rows.{IsNumberUpTo}
use Rattle.cofactor_checker.specs.Lemmas.{lemma_polynomial, term_total, kept_limit, LemmaPasses, RefusesLemma}
use Rattle.cofactor_checker.specs.declared.refusal.Refusal.{Refusal}
use Rattle.cofactor_checker.specs.declared.refusal.Refusal.TheVariants as common
use Rattle.cancel_rules.specs.declared.cancellation.Side.{Side}
use Rattle.cancel_rules.specs.declared.cancellation.Side.TheVariants as side
use Rattle.cancel_rules.specs.declared.cancellation.Item.{Item}
use Rattle.cancel_rules.specs.declared.cancellation.Item.TheVariants as item
use Rattle.cancel_rules.specs.declared.cancellation.Cancellation.{Cancellation}
use Rattle.cancel_rules.specs.declared.refusal.CancelRefusal.{CancelRefusal}
use Rattle.cancel_rules.specs.declared.refusal.CancelRefusal.TheVariants as refusal
use Rattle.cancel_rules.specs.Cancellations.{with_letter, declared_for}

-- a word without its first letter, or without its last one
abbrev pub word_without : Side → List ℕ → List ℕ
word_without side.Left w = drop 1 w
word_without side.Right w = take (length w - 1) w

-- a polynomial without that letter of each word
abbrev pub stripped : Side → Poly → Poly
stripped end p = map (λ t. (t.0, word_without end t.1)) p

-- the polynomial of an item: that of a lemma, or that of an earlier item without a letter of each word
abbrev pub item_polynomial : List Poly → List Poly → Item → Poly
item_polynomial generators before (item.Lemma l) = lemma_polynomial generators before l
item_polynomial generators before (item.Cancel letter end number) = stripped end (generator_at before number)

-- the polynomials of items that stand behind others
abbrev pub item_polynomials : List Poly → List Poly → List Item → List Poly
item_polynomials generators before [] = []
item_polynomials generators before (i ∷ items) = item_polynomial generators before i ∷ item_polynomials generators
    (before ++ item_polynomial generators before i ∷ []) items

-- how many rows an item has: a cancellation has none
abbrev pub rows_in : Item → ℕ
rows_in (item.Lemma l) = length l.rows
rows_in (item.Cancel letter end number) = 0

-- how many rows the items have together
abbrev pub row_total : List Item → ℕ
row_total [] = 0
row_total (i ∷ items) = rows_in i + row_total items

-- The word begins with the letter, or ends with it, and has other letters.
pub record HasAtEnd (end : Side) (a : ℕ) (w : List ℕ) : Type 0 where
  pub rest : List ℕ
  pub others : rest ≢ []
  pub whole : w ≡ with_letter end a rest

-- The item whose letter comes off stands before, and the letter is declared for its side.
pub record IsDeclaredLetter (proof : Cancellation) (before : List Poly) (letter : Letter) (end : Side) (number : ℕ) : Type 0 where
  pub earlier : IsNumberUpTo (length before) number
  pub declared : Contains (declared_for proof end) letter

-- So it is, and the polynomial is typed.
pub record IsTypedItem (q : Quiver) (proof : Cancellation) (before : List Poly) (letter : Letter) (end : Side) (number : ℕ) : Type 0 where
  pub of_letter : IsDeclaredLetter proof before letter end number
  pub typed : HasSignature q (generator_at before number)

-- So it is, and each word has the letter at that end, and others.
pub record ComesOff (q : Quiver) (proof : Cancellation) (before : List Poly) (letter : Letter) (end : Side) (number : ℕ) : Type 0 where
  pub item : IsTypedItem q proof before letter end number
  pub words : All (λ t. HasAtEnd end letter.0 t.1) (generator_at before number)

-- The letter comes off, and the polynomials up to this one have at most 1,000,000 terms together.
pub record CancelPasses (q : Quiver) (proof : Cancellation) (before : List Poly) (letter : Letter) (end : Side) (number : ℕ) : Type 0 where
  pub comes_off : ComesOff q proof before letter end number
  pub kept : term_total before + length (stripped end (generator_at before number)) ≤ kept_limit

-- The item with this number takes a letter off one that doesn't stand before.
pub record LacksItem (before : List Poly) (number told : ℕ) : Type 0 where
  pub numbered : told ≡ length before + 1
  pub earlier : IsNumberUpTo (length before) number → ⊥

-- The letter isn't declared for its side.
pub record LacksDeclaration (proof : Cancellation) (before : List Poly) (letter : Letter) (end : Side) (number told : ℕ) : Type 0 where
  pub numbered : told ≡ length before + 1
  pub earlier : IsNumberUpTo (length before) number
  pub declared : Contains (declared_for proof end) letter → ⊥

-- The letter is declared, and the polynomial isn't typed.
pub record LacksType (q : Quiver) (proof : Cancellation) (before : List Poly) (letter : Letter) (end : Side) (number told : ℕ) : Type 0 where
  pub numbered : told ≡ length before + 1
  pub of_letter : IsDeclaredLetter proof before letter end number
  pub typed : HasSignature q (generator_at before number) → ⊥

-- The polynomial is typed, and a word of it doesn't have the letter at that end, or has no other.
pub record StaysOn (q : Quiver) (proof : Cancellation) (before : List Poly) (letter : Letter) (end : Side) (number told : ℕ) : Type 0 where
  pub numbered : told ≡ length before + 1
  pub item : IsTypedItem q proof before letter end number
  pub words : All (λ t. HasAtEnd end letter.0 t.1) (generator_at before number) → ⊥

-- The letter comes off, and the polynomials up to this one have more than 1,000,000 terms together; the row is the last one that was read.
pub record CancelKeepsTooMuch (q : Quiver) (proof : Cancellation) (before : List Poly) (rows : ℕ) (letter : Letter) (end : Side) (number row : ℕ) : Type 0 where
  pub last_row : row ≡ rows
  pub comes_off : ComesOff q proof before letter end number
  pub kept : kept_limit < term_total before + length (stripped end (generator_at before number))

-- what is told of a cancellation in the words of certificates
abbrev pub RefusesKept : Quiver → Cancellation → List Poly → ℕ → Letter → Side → ℕ → Refusal → Type 0
RefusesKept q proof before rows letter end number (common.Kept row) = CancelKeepsTooMuch q proof before rows letter end number row
RefusesKept q proof before rows letter end number (common.Memory failed) = ⊤
RefusesKept q proof before rows letter end number other = ⊥

-- what is told of a cancellation, before which so many rows stand
abbrev pub RefusesCancel : Quiver → Cancellation → List Poly → ℕ → Letter → Side → ℕ → CancelRefusal → Type 0
RefusesCancel q proof before rows letter end number (refusal.NoSuchItem told) = LacksItem before number told
RefusesCancel q proof before rows letter end number (refusal.NotDeclared told) = LacksDeclaration proof before letter end number told
RefusesCancel q proof before rows letter end number (refusal.NotTyped told) = LacksType q proof before letter end number told
RefusesCancel q proof before rows letter end number (refusal.NotStripped told) = StaysOn q proof before letter end number told
RefusesCancel q proof before rows letter end number (refusal.Common e) = RefusesKept q proof before rows letter end number e

-- what the refusal of a part of a certificate tells
abbrev pub InCommon : (Refusal → Type 0) → CancelRefusal → Type 0
InCommon tells (refusal.Common e) = tells e
InCommon tells other = ⊥

-- each test of the item passes
abbrev pub ItemPasses : Quiver → Cancellation → List Poly → List Poly → Item → Type 0
ItemPasses q proof generators before (item.Lemma l) = LemmaPasses generators before l
ItemPasses q proof generators before (item.Cancel letter end number) = CancelPasses q proof before letter end number

-- each of the items passes
abbrev pub ItemsPass : Quiver → Cancellation → List Poly → List Poly → List Item → Type 0
ItemsPass q proof generators before [] = ⊤
ItemsPass q proof generators before (i ∷ items) = ItemPasses q proof generators before i × ItemsPass q proof generators
    (before ++ item_polynomial generators before i ∷ []) items

-- what is told of an item, where so many rows stand before it: a lemma's number is its item's
abbrev pub RefusesItem : Quiver → Cancellation → List Poly → List Poly → ℕ → Item → CancelRefusal → Type 0
RefusesItem q proof generators before rows (item.Lemma l) e = InCommon (RefusesLemma generators before rows l) e
RefusesItem q proof generators before rows (item.Cancel letter end number) e = RefusesCancel q proof before rows letter end number e

-- the first item that does not pass, and what is told of it
abbrev pub RefusesItems : Quiver → Cancellation → List Poly → List Poly → ℕ → List Item → CancelRefusal → Type 0
RefusesItems q proof generators before rows [] e = ⊥
RefusesItems q proof generators before rows (i ∷ items) e =
    RefusesItem q proof generators before rows i e
    ⊎ (ItemPasses q proof generators before i × RefusesItems q proof generators (before ++ item_polynomial generators before i ∷ []) (rows + rows_in i) items e)
