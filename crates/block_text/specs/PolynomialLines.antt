-- The lines that spell polynomials: terms with their signs between them, or 0.
use Rattle.std.specs.Prelude.{◌≡◌, ◌≤◌, ◌<◌, ◌&&◌, ⊤, ℕ, ℤ, Bool, true, not, IsTrue, List, [], ◌∷◌, ◌++◌, length, Option, Some, None, codes, if◌then◌else◌}
use Rattle.std.specs.List.{All, AllZip, flat_map}
use Rattle.std.specs.Str.Parse.{digits_value}
use Rattle.definitions.specs.Poly.{Poly, Term}
use Rattle.nc_polynomial.specs.Limits.{word_limit, term_limit}
use Rattle.nc_polynomial.specs.Terms.{IsDescending}
use Rattle.quiver.specs.Declarations.{Declaration}
use Rattle.block_text.specs.Letters.{Spelled, spelled_by, letter_of, word_of, is_number, signed}
use Rattle.block_text.specs.Lines.{Line, integer_limit}
use Rattle.block_text.specs.Written.{letter_text}

-- a term without its sign: an optional number, and letters
pub record TermTokens : Type 0 where
  pub negative : Bool
  pub factor : Option (List ℕ)
  pub letters : List (List ℕ)

-- a number for the zero polynomial, or a first term and the later ones
pub data PolynomialTokens : Type 0 where
  zero : List ℕ → PolynomialTokens
  terms : TermTokens → List TermTokens → PolynomialTokens

-- the number, if there is one
abbrev pub factor_line : Option (List ℕ) → Line
factor_line None = []
factor_line (Some digits) = digits ∷ []

-- [N] LETTER ..
abbrev pub term_line : TermTokens → Line
term_line t = factor_line t.factor ++ t.letters

-- - before a term, where it is negative
abbrev pub first_line : TermTokens → Line
first_line t = if t.negative then codes "-" ∷ term_line t else term_line t

-- - or + before a term
abbrev pub later_line : TermTokens → Line
later_line t = (if t.negative then codes "-" else codes "+") ∷ term_line t

-- N, or the terms with their signs
abbrev pub polynomial_line : PolynomialTokens → Line
polynomial_line (zero digits) = digits ∷ []
polynomial_line (terms first later) = first_line first ++ flat_map later_line later

-- NAME, NAME' or [NAME]
abbrev pub is_plain : Option Spelled → Bool
is_plain None = not true
is_plain (Some spelled) = not (spelled.identity && spelled.adjoint)

abbrev pub is_term_letter : List ℕ → Bool
is_term_letter token = is_plain (spelled_by token)

-- none, or a number above 1
abbrev pub IsFactor : Option (List ℕ) → Type 0
IsFactor None = ⊤
IsFactor (Some digits) = IsTrue (is_number digits) × (1 < digits_value 10 digits)

-- one letter at least
pub record IsTerm (t : TermTokens) : Type 0 where
  pub factor : IsFactor t.factor
  pub some : 0 < length t.letters
  pub letters : All (λ token. IsTrue (is_term_letter token)) t.letters

-- a number of value 0, or terms
abbrev pub IsPolynomialTokens : PolynomialTokens → Type 0
IsPolynomialTokens (zero digits) = IsTrue (is_number digits) × (digits_value 10 digits ≡ 0)
IsPolynomialTokens (terms first later) = IsTerm first × All IsTerm later

-- what they say
abbrev pub terms_in : PolynomialTokens → List TermTokens
terms_in (zero digits) = []
terms_in (terms first later) = first ∷ later

-- 1 where there is no number
abbrev pub factor_value : Option (List ℕ) → ℕ
factor_value None = 1
factor_value (Some digits) = digits_value 10 digits

abbrev pub coefficient_value : TermTokens → ℤ
coefficient_value t = signed t.negative (factor_value t.factor)

-- its coefficient and its letters
pub record IsTermOf (ds : List Declaration) (t : TermTokens) (term : Term) : Type 0 where
  pub coefficient : term.0 ≡ coefficient_value t
  pub letters : word_of ds t.letters ≡ Some term.1

abbrev pub IsPolynomialOf : List Declaration → PolynomialTokens → Poly → Type 0
IsPolynomialOf ds tokens p = AllZip (IsTermOf ds) (terms_in tokens) p

-- each letter is one of the quiver
pub record HasKnownLetters (ds : List Declaration) (tokens : PolynomialTokens) : Type 0 where
  pub known : All (λ t. All (λ token. (a : ℕ) × (letter_of ds token ≡ Some a)) t.letters) (terms_in tokens)

-- it is spelled as it is written
abbrev pub IsWrittenLetter : List Declaration → List ℕ → Type 0
IsWrittenLetter ds token = (a : ℕ) × (letter_of ds token ≡ Some a) × (letter_text ds a ≡ token)

-- each letter is spelled as it is written, and the words descend
pub record IsAsWritten (ds : List Declaration) (tokens : PolynomialTokens) : Type 0 where
  pub letters : All (λ t. All (IsWrittenLetter ds) t.letters) (terms_in tokens)
  pub descends : (p : Poly) → IsPolynomialOf ds tokens p → IsDescending p

-- no number is too large
pub record HasNumbersWithin (tokens : PolynomialTokens) : Type 0 where
  pub within : All (λ t. factor_value t.factor ≤ integer_limit) (terms_in tokens)

-- not too many terms
pub record HasFewTerms (tokens : PolynomialTokens) : Type 0 where
  pub few : length (terms_in tokens) ≤ term_limit

-- no word is too long
pub record HasShortWords (tokens : PolynomialTokens) : Type 0 where
  pub short : All (λ t. length t.letters ≤ word_limit) (terms_in tokens)
