-- What is read of a polynomial that is written.
use Rattle.std.specs.Prelude.{◌≡◌, ◌<◌, IsTrue, List, length}
use Rattle.std.specs.List.{All, list_all}
use Rattle.definitions.specs.Poly.{Poly}
use Rattle.word_core.specs.Letters.{IsOver}
use Rattle.nc_polynomial.specs.Shape.{IsCanonical}
use Rattle.quiver.specs.Declarations.{Declaration, letter_count, IsDeclared}
use Rattle.block_text.specs.Back.{is_named}
use Rattle.block_text.specs.Lines.{Line}
use Rattle.block_text.specs.PolynomialLines.{PolynomialTokens, polynomial_line, IsPolynomialTokens, IsPolynomialOf, HasKnownLetters}
use Rattle.block_text.specs.PolynomialLines.{IsAsWritten, HasNumbersWithin, HasFewTerms, HasShortWords}
use Rattle.block_text.specs.Tokens.{tokens_of}
use Rattle.block_text.specs.Written.{poly_text}

-- The line spells the polynomial, within all bounds.
pub record IsPolynomialLine (ds : List Declaration) (line : Line) (p : Poly) : Type 0 where
  pub tokens : PolynomialTokens
  pub are : polynomial_line tokens ≡ line
  pub fit : IsPolynomialTokens tokens
  pub known : HasKnownLetters ds tokens
  pub written : IsAsWritten ds tokens
  pub numbers : HasNumbersWithin tokens
  pub few : HasFewTerms tokens
  pub short : HasShortWords tokens
  pub says : IsPolynomialOf ds tokens p

-- A polynomial in the letters of a quiver, without the empty word, is spelled by the line as which it is written.
abbrev pub PolynomialsAreReadBack : Type 0
PolynomialsAreReadBack = (ds : List Declaration) (p : Poly) → IsDeclared ds → IsTrue (list_all is_named ds)
    → IsCanonical p → All (λ t. IsOver (letter_count ds) t.1) p → All (λ t. 0 < length t.1) p
    → IsPolynomialLine ds (tokens_of (poly_text ds p)) p
