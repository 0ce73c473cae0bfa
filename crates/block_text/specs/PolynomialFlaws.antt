-- The first flaw of a line that spells no polynomial within all bounds.
use Rattle.std.specs.Prelude.{◌≡◌, ◌↔◌, List, Ok, Err}
use Rattle.definitions.specs.Poly.{Poly}
use Rattle.nc_polynomial.specs.Limits.{word_limit, term_limit}
use Rattle.quiver.specs.Declarations.{Declaration}
use Rattle.block_text.specs.declared.fault.Flaw.{Flaw}
use Rattle.block_text.specs.declared.fault.Flaw.TheVariants.{BadLine, UnknownName, NotAsWritten, NumberTooLarge, TooMany}
use Rattle.block_text.specs.Lines.{Line}
use Rattle.block_text.specs.PolynomialBack.{IsPolynomialLine}
use Rattle.block_text.specs.PolynomialLines.{PolynomialTokens, polynomial_line, IsPolynomialTokens, HasKnownLetters, IsAsWritten}
use Rattle.block_text.specs.PolynomialLines.{HasNumbersWithin, HasFewTerms, HasShortWords}
use Rattle.block_text.specs.PolynomialReading.{polynomial_of}

-- the line is that of the tokens
pub record Fits (line : Line) (tokens : PolynomialTokens) : Type 0 where
  pub are : polynomial_line tokens ≡ line
  pub fit : IsPolynomialTokens tokens

module _ (ds : List Declaration) where
  -- No tokens fit the line, or some do, within the bounds before one, but not within that one.
  pub data IsPolynomialFlaw (line : Line) (flaw : Flaw) : Type 0 where
    misfit : flaw ≡ BadLine → ((tokens : PolynomialTokens) → Fits line tokens → ⊥) → IsPolynomialFlaw line flaw
    unknown : (tokens : PolynomialTokens) → flaw ≡ UnknownName → Fits line tokens
        → (HasKnownLetters ds tokens → ⊥) → IsPolynomialFlaw line flaw
    unwritten : (tokens : PolynomialTokens) → flaw ≡ NotAsWritten → Fits line tokens
        → HasKnownLetters ds tokens → (IsAsWritten ds tokens → ⊥) → IsPolynomialFlaw line flaw
    large : (tokens : PolynomialTokens) → flaw ≡ NumberTooLarge → Fits line tokens
        → HasKnownLetters ds tokens → IsAsWritten ds tokens → (HasNumbersWithin tokens → ⊥) → IsPolynomialFlaw line flaw
    many : (tokens : PolynomialTokens) → flaw ≡ TooMany term_limit → Fits line tokens
        → HasKnownLetters ds tokens → IsAsWritten ds tokens → HasNumbersWithin tokens
        → (HasFewTerms tokens → ⊥) → IsPolynomialFlaw line flaw
    long : (tokens : PolynomialTokens) → flaw ≡ TooMany word_limit → Fits line tokens
        → HasKnownLetters ds tokens → IsAsWritten ds tokens → HasNumbersWithin tokens → HasFewTerms tokens
        → (HasShortWords tokens → ⊥) → IsPolynomialFlaw line flaw

-- A line is read as the polynomial that it spells within all bounds, and no other is.
abbrev pub PolynomialLinesAreRead : Type 0
PolynomialLinesAreRead = (ds : List Declaration) (line : Line) (p : Poly) → (polynomial_of ds line ≡ Ok p) ↔ IsPolynomialLine ds line p

-- A line is refused for its first flaw, and for no other.
abbrev pub PolynomialFlawsAreTold : Type 0
PolynomialFlawsAreTold = (ds : List Declaration) (line : Line) (flaw : Flaw) → (polynomial_of ds line ≡ Err flaw) ↔ IsPolynomialFlaw ds line flaw
