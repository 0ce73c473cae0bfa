-- How a chain is written.
use Rattle.std.specs.Prelude.{ℕ, ℤ, List, [], ◌∷◌, ◌++◌, codes, decimal}
use Rattle.std.specs.Fmt.{signed_decimal}
use Rattle.std.specs.List.{flat_map, zip}
use Rattle.definitions.specs.Poly.{Poly}
use Rattle.quiver.specs.Declarations.{Declaration}
use Rattle.traced_rows.specs.declared.certificate.CertRow.{CertRow}
use Rattle.block_text.specs.Written.{word_text, poly_text}
use Rattle.certificate_text.specs.Written.{opening_text}

abbrev pub line_text : List Declaration → Poly → List ℕ
line_text ds line = codes "line " ++ (poly_text ds line ++ codes "\n")

abbrev pub use_text : List Declaration → CertRow → List ℕ
use_text ds step =
    codes "use " ++ signed_decimal step.coef ++ codes " (" ++ word_text ds step.left ++ codes ") " ++ decimal step.generator ++ codes " ("
    ++ word_text ds step.right ++ codes ")\n"

-- each step, with the line after it
abbrev pub steps_text : List Declaration → List CertRow → List Poly → List ℕ
steps_text ds steps lines = flat_map (λ s. use_text ds s.0 ++ line_text ds s.1) (zip steps lines)

-- the first line, and then the steps
abbrev pub lines_text : List Declaration → List CertRow → List Poly → List ℕ
lines_text ds steps [] = []
lines_text ds steps (line ∷ lines) = line_text ds line ++ steps_text ds steps lines

-- a chain, whose last line is ended by what follows it
abbrev pub chain_text : List Declaration → ℕ → ℤ → List CertRow → List Poly → List ℕ
chain_text ds claim denominator steps lines = opening_text (codes "chain 1\nclaim ") claim denominator ++ (lines_text ds steps lines ++ codes "end")
