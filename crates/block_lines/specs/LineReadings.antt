-- What a reader makes of a line. Only the reader's functions and proofs use it; the lines are defined in LineKinds.
use Rattle.std.specs.Prelude.{ℕ, ◌&&◌, List, [], ◌∷◌, Option, Some, None, Result, Err, if◌then◌else◌}
use Rattle.definitions.specs.Poly.{Poly}
use Rattle.word_core.specs.declared.letter.Letter.{Letter}
use Rattle.quiver.specs.Declarations.{Declaration}
use Rattle.block_text.specs.declared.fault.Flaw.{Flaw}
use Rattle.block_text.specs.declared.fault.Flaw.TheVariants.{BadLine, UnknownName}
use Rattle.block_text.specs.Letters.{is_letter}
use Rattle.block_text.specs.Lines.{Line, is, said}
use Rattle.block_text.specs.PolynomialReading.{polynomial_of}
use Rattle.block_lines.specs.LineKinds.{letter_said}

-- what a line says, or its first flaw
abbrev pub Reading : Type 0 → Type 0
Reading Value = Line → Result Value Flaw

-- the token after the word, None where there is none
abbrev pub letter_token : List ℕ → Line → Option (Option (List ℕ))
letter_token word [] = None
letter_token word (first ∷ []) = if is word first then Some None else None
letter_token word (first ∷ token ∷ []) = if is word first && is_letter token then Some (Some token) else None
letter_token word (first ∷ token ∷ more ∷ tokens) = None

abbrev pub letter_read : List Declaration → List ℕ → Reading (Option Letter)
letter_read ds word line = said (letter_token word) (letter_said ds) UnknownName line

-- the polynomial after a word
abbrev pub polynomial_read : List Declaration → List ℕ → Reading Poly
polynomial_read ds word [] = Err BadLine
polynomial_read ds word (token ∷ tokens) = if is word token then polynomial_of ds tokens else Err BadLine
