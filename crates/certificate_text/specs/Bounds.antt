-- The bounds of evidence text, in the order in which they are tested, and the values of its blocks.
use Rattle.std.specs.Prelude.{◌≡◌, ◌≤◌, ℕ, ◌+◌, ℤ, ◌∷◌, ◌++◌, List, [], length, Some, Ok}
use Rattle.std.specs.List.{All, AllZip, flat_map}
use Rattle.quiver.specs.Declarations.{Declaration}
use Rattle.traced_rows.specs.declared.certificate.CertRow.{CertRow}
use Rattle.traced_rows.specs.declared.certificate.Certificate.{Certificate}
use Rattle.traced_rows.specs.declared.evidence.LemmaRow.{LemmaRow}
use Rattle.traced_rows.specs.declared.evidence.Lemma.{Lemma}
use Rattle.traced_rows.specs.declared.evidence.LemmaCertificate.{LemmaCertificate}
use Rattle.traced_rows.specs.declared.evidence.Evidence.{Evidence}
use Rattle.traced_rows.specs.declared.evidence.Evidence.TheVariants as evidence
use Rattle.block_text.specs.declared.fault.Flaw.{Flaw}
use Rattle.block_text.specs.declared.fault.Flaw.TheVariants.{UnknownName, NumberTooLarge, TooMany}
use Rattle.block_text.specs.Letters.{number_within, integer_within, word_of}
use Rattle.block_text.specs.Lines.{number_limit, integer_limit, integer_of}
use Rattle.certificate_text.specs.Lines.{RowTokens, word_limit, row_limit, letter_limit, row_values, over_lemma}
use Rattle.certificate_text.specs.Blocks.{ScaledTokens, LemmaTokens, PlainTokens, LemmasTokens, BlockTokens, plain, lemmas}

-- the rows of a certificate, of all its lemmas and of its goal
abbrev pub rows_in : BlockTokens → List RowTokens
rows_in (plain b) = b.rows
rows_in (lemmas b) = flat_map (λ l. l.scaled.rows) b.lemmas ++ b.goal.rows

abbrev pub lemmas_in : BlockTokens → List LemmaTokens
lemmas_in (plain b) = []
lemmas_in (lemmas b) = b.lemmas

-- how many letters the rows have
abbrev pub letters_in : List RowTokens → ℕ
letters_in [] = 0
letters_in (r ∷ rows) = length r.left + length r.right + letters_in rows

-- the number is at most this
abbrev pub IsWithin : ℕ → List ℕ → Type 0
IsWithin most digits = (n : ℕ) × (number_within most digits ≡ Some n)

-- each of the letters is one of the quiver
abbrev pub AreKnown : List Declaration → List (List ℕ) → Type 0
AreKnown ds tokens = (w : List ℕ) × (word_of ds tokens ≡ Some w)

-- the letters and the numbers of the row
abbrev pub IsLemmaRowOf : List Declaration → RowTokens → LemmaRow → Type 0
IsLemmaRowOf ds r row = (values : CertRow) × (row_values ds r ≡ Ok values) × (row ≡ over_lemma r.lemma values)

pub record IsScaledOf (ds : List Declaration) (s : ScaledTokens) (l : Lemma) : Type 0 where
  pub scale : integer_of s.scale ≡ Ok l.scale
  pub rows : AllZip (IsLemmaRowOf ds) s.rows l.rows

pub record IsPlainOf (ds : List Declaration) (b : PlainTokens) (c : Certificate) : Type 0 where
  pub claim : number_within number_limit b.claim ≡ Some c.claim
  pub denominator : integer_of b.denominator ≡ Ok c.denominator
  pub rows : AllZip (λ r row. row_values ds r ≡ Ok row) b.rows c.rows

pub record IsLemmasOf (ds : List Declaration) (b : LemmasTokens) (c : LemmaCertificate) : Type 0 where
  pub claim : number_within number_limit b.claim ≡ Some c.claim
  pub denominator : integer_of b.denominator ≡ Ok c.denominator
  pub lemmas : AllZip (λ l lemma. IsScaledOf ds l.scaled lemma) b.lemmas c.lemmas
  pub goal : IsScaledOf ds b.goal c.goal

-- what the tokens of a certificate say
abbrev pub IsCertificateOf : List Declaration → BlockTokens → Evidence → Type 0
IsCertificateOf ds (plain b) (evidence.Plain c) = IsPlainOf ds b c
IsCertificateOf ds (lemmas b) (evidence.Lemmas c) = IsLemmasOf ds b c
IsCertificateOf ds (plain b) (evidence.Lemmas c) = ⊥
IsCertificateOf ds (lemmas b) (evidence.Plain c) = ⊥

-- on names, on numbers, on the letters of a word, on the rows and the lemmas of a block, and on the letters in its rows
pub data Bound : Type 0 where
  names : Bound
  numbers : Bound
  words : Bound
  rows : Bound
  letters : Bound

-- they are tested in this order
abbrev pub bounds : List Bound
bounds = names ∷ numbers ∷ words ∷ rows ∷ letters ∷ []

-- the flaw of a line that exceeds the bound
abbrev pub flaw_of : Bound → Flaw
flaw_of names = UnknownName
flaw_of numbers = NumberTooLarge
flaw_of words = TooMany word_limit
flaw_of rows = TooMany row_limit
flaw_of letters = TooMany letter_limit

-- its names are known
pub record HasNames (ds : List Declaration) (r : RowTokens) : Type 0 where
  pub left : AreKnown ds r.left
  pub right : AreKnown ds r.right

-- its coefficient and its number are within their bounds
pub record HasNumbers (r : RowTokens) : Type 0 where
  pub coefficient : (c : ℤ) × (integer_within integer_limit r.coefficient ≡ Some c)
  pub number : IsWithin number_limit r.number

-- its words are short
pub record HasShortWords (r : RowTokens) : Type 0 where
  pub left : length r.left ≤ word_limit
  pub right : length r.right ≤ word_limit

-- the numbers of a certificate outside of its rows
abbrev pub HasNumbersOutside : BlockTokens → Type 0
HasNumbersOutside (plain b) = IsWithin number_limit b.claim × IsWithin integer_limit b.denominator
HasNumbersOutside (lemmas b) =
    IsWithin number_limit b.claim × IsWithin integer_limit b.denominator × All (λ l. IsWithin integer_limit l.scaled.scale) b.lemmas
    × IsWithin integer_limit b.goal.scale

-- the block is within the bound
abbrev pub KeepsOne : List Declaration → Bound → BlockTokens → Type 0
KeepsOne ds names b = All (HasNames ds) (rows_in b)
KeepsOne ds numbers b = HasNumbersOutside b × All HasNumbers (rows_in b)
KeepsOne ds words b = All HasShortWords (rows_in b)
KeepsOne ds rows b = (length (rows_in b) ≤ row_limit) × (length (lemmas_in b) ≤ row_limit)
KeepsOne ds letters b = letters_in (rows_in b) ≤ letter_limit
