-- Lines and steps by a table of the texts of letters. Only private functions use it.
use Rattle.std.specs.Prelude.{◌≡◌, ℕ, List, [], ◌∷◌, ◌++◌, length, map, get_or, codes, decimal}
use Rattle.std.specs.Fmt.{signed_decimal}
use Rattle.std.specs.List.{All, flat_map, zip, range_with_len}
use Rattle.definitions.specs.Poly.{Poly}
use Rattle.word_core.specs.Letters.{IsOver}
use Rattle.quiver.specs.Declarations.{Declaration, letter_count}
use Rattle.traced_rows.specs.declared.certificate.CertRow.{CertRow}
use Rattle.block_text.specs.Written.{letter_text, word_by, poly_by}

-- the table has the text of each letter of the quiver
abbrev pub AreTexts : List Declaration → List (List ℕ) → Type 0
AreTexts ds texts = texts ≡ map (letter_text ds) (range_with_len 0 (letter_count ds))

-- the text of a letter
abbrev pub text_in : List (List ℕ) → ℕ → List ℕ
text_in texts a = get_or texts a []

-- a line of a chain, and a step
abbrev pub line_by : List (List ℕ) → Poly → List ℕ
line_by texts line = codes "line " ++ (poly_by (text_in texts) line ++ codes "\n")

abbrev pub use_by : List (List ℕ) → CertRow → List ℕ
use_by texts step =
    codes "use " ++ signed_decimal step.coef ++ codes " (" ++ word_by (text_in texts) step.left ++ codes ") " ++ decimal step.generator ++ codes " ("
    ++ word_by (text_in texts) step.right ++ codes ")\n"

-- each step, with the line after it
abbrev pub steps_by : List (List ℕ) → List CertRow → List Poly → List ℕ
steps_by texts steps lines = flat_map (λ s. use_by texts s.0 ++ line_by texts s.1) (zip steps lines)

-- the first line, and then the steps
abbrev pub lines_spelled : List (List ℕ) → List CertRow → List Poly → List ℕ
lines_spelled texts steps [] = []
lines_spelled texts steps (line ∷ lines) = line_by texts line ++ steps_by texts steps lines

-- the letters of the words of a step, and of a line, have texts
pub record IsStepSpelled (texts : List (List ℕ)) (step : CertRow) : Type 0 where
  pub left : IsOver (length texts) step.left
  pub right : IsOver (length texts) step.right

abbrev pub IsLineSpelled : List (List ℕ) → Poly → Type 0
IsLineSpelled texts line = All (λ t. IsOver (length texts) t.1) line
