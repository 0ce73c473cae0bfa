-- How lines of letters and bases are written.
use Rattle.std.specs.Prelude.{ℕ, List, ◌++◌, Option, Some, None, decimal, codes}
use Rattle.std.specs.List.{flat_map}
use Rattle.word_core.specs.declared.letter.Letter.{Letter}
use Rattle.nc_polynomial.specs.declared.poly.Poly.{Poly}
use Rattle.quiver.specs.Declarations.{Declaration}
use Rattle.block_text.specs.Written.{letter_text, poly_text}

-- a word and a letter, or the word alone
abbrev pub letter_line_text : List Declaration → List ℕ → Option Letter → List ℕ
letter_line_text ds word None = word ++ codes "\n"
letter_line_text ds word (Some a) = ((word ++ codes " ") ++ letter_text ds a.0) ++ codes "\n"

abbrev pub rule_line : List Declaration → Poly → List ℕ
rule_line ds p = codes "rule " ++ poly_text ds p.terms ++ codes "\n"

-- all rules, and the rest of the claim by them
abbrev pub basis_text : List Declaration → List Poly → ℕ → Poly → List ℕ
basis_text ds rules claim rest = codes "basis 1\nclaim " ++ decimal claim ++ codes "\n" ++ flat_map (rule_line ds) rules ++ codes "rest "
    ++ poly_text ds rest.terms ++ codes "\nend\n"
