-- Kinds of lines of a block: a word, followed by a number, a letter or a polynomial.
use Rattle.std.specs.Prelude.{◌≡◌, ℕ, Bool, true, IsTrue, List, [], ◌∷◌, Option, Some, None, IfSome}
use Rattle.std.specs.Option.{option_map}
use Rattle.definitions.specs.Poly.{Poly}
use Rattle.word_core.specs.declared.letter.Letter.{Letter}
use Rattle.nc_polynomial.specs.Limits.{word_limit, term_limit}
use Rattle.quiver.specs.Declarations.{Declaration}
use Rattle.block_text.specs.declared.fault.Flaw.{Flaw}
use Rattle.block_text.specs.declared.fault.Flaw.TheVariants.{UnknownName, NotAsWritten, NumberTooLarge, TooMany}
use Rattle.block_text.specs.Letters.{is_letter, letter_of, is_number, number_within}
use Rattle.block_text.specs.Lines.{Line}
use Rattle.block_text.specs.PolynomialLines.{PolynomialTokens, polynomial_line, IsPolynomialTokens, IsPolynomialOf, HasKnownLetters}
use Rattle.block_text.specs.PolynomialLines.{IsAsWritten, HasNumbersWithin, HasFewTerms, HasShortWords}

-- A kind of line: its tokens, their bounds, and what they say.
pub record LineKind (Bound Value : Type 0) : Type 1 where
  pub Tokens : Type 0
  pub line_of : Tokens → Line
  pub IsLine : Tokens → Type 0
  pub Keeps : Bound → Tokens → Type 0
  pub Says : Tokens → Value → Type 0

-- a line whose tokens have a value if they are within this bound
abbrev pub said_line : {Bound T V : Type 0} → Bound → (T → Line) → (T → Type 0) → (T → Option V) → LineKind Bound V
said_line {Bound} {T} {V} bound line_of IsLine value = record {
  Tokens = T;
  line_of = line_of;
  IsLine = IsLine;
  Keeps = λ b t. b ≡ bound → (v : V) × (value t ≡ Some v);
  Says = λ t v. value t ≡ Some v;
}

-- a word and a number that is at most this
abbrev pub number_line : {Bound : Type 0} → Bound → List ℕ → ℕ → LineKind Bound ℕ
number_line bound word most = said_line bound (λ digits. word ∷ digits ∷ []) (λ digits. IsTrue (is_number digits)) (number_within most)

-- a word and a token that spells a letter, or the word alone
abbrev pub letter_line : List ℕ → Option (List ℕ) → Line
letter_line word None = word ∷ []
letter_line word (Some token) = word ∷ token ∷ []

abbrev pub may_be_letter : Option (List ℕ) → Bool
may_be_letter None = true
may_be_letter (Some token) = is_letter token

-- none, or the letter of the quiver that the token spells
abbrev pub letter_said : List Declaration → Option (List ℕ) → Option (Option Letter)
letter_said ds None = Some None
letter_said ds (Some token) = option_map (λ a. Some (record { 0 = a })) (letter_of ds token)

-- a word and a letter of the quiver, or the word alone
abbrev pub letter_behind : {Bound : Type 0} → Bound → List Declaration → List ℕ → LineKind Bound (Option Letter)
letter_behind bound ds word = said_line bound (letter_line word) (λ token. IsTrue (may_be_letter token)) (letter_said ds)

-- the bounds on a polynomial, in the order in which they are tested
pub data PolynomialBound : Type 0 where
  names : PolynomialBound
  writing : PolynomialBound
  numbers : PolynomialBound
  terms : PolynomialBound
  words : PolynomialBound

-- those before one
abbrev pub polynomial_before : PolynomialBound → List PolynomialBound
polynomial_before names = []
polynomial_before writing = names ∷ []
polynomial_before numbers = names ∷ writing ∷ []
polynomial_before terms = names ∷ writing ∷ numbers ∷ []
polynomial_before words = names ∷ writing ∷ numbers ∷ terms ∷ []

-- the flaw of a line that exceeds one
abbrev pub polynomial_flaw : PolynomialBound → Flaw
polynomial_flaw names = UnknownName
polynomial_flaw writing = NotAsWritten
polynomial_flaw numbers = NumberTooLarge
polynomial_flaw terms = TooMany term_limit
polynomial_flaw words = TooMany word_limit

abbrev pub KeepsPolynomial : List Declaration → PolynomialBound → PolynomialTokens → Type 0
KeepsPolynomial ds names p = HasKnownLetters ds p
KeepsPolynomial ds writing p = IsAsWritten ds p
KeepsPolynomial ds numbers p = HasNumbersWithin p
KeepsPolynomial ds terms p = HasFewTerms p
KeepsPolynomial ds words p = HasShortWords p

-- a word and a polynomial, by which of the bounds are on polynomials
abbrev pub polynomial_behind : {Bound : Type 0} → List Declaration → (Bound → Option PolynomialBound) → List ℕ → LineKind Bound Poly
polynomial_behind ds part word = record {
  Tokens = PolynomialTokens;
  line_of = λ p. word ∷ polynomial_line p;
  IsLine = IsPolynomialTokens;
  Keeps = λ bound p. IfSome (part bound) (λ b. KeepsPolynomial ds b p);
  Says = IsPolynomialOf ds;
}
