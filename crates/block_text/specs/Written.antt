-- How words and polynomials are written.
use Rattle.std.specs.Prelude.{ℕ, ◌==◌, List, [], ◌∷◌, ◌++◌, map, nat_eq, decimal, Option, Some, None, if◌then◌else◌, codes}
use Rattle.std.specs.Int.{is_negative}
use Rattle.std.specs.Int.RustNames.{unsigned_abs}
use Rattle.std.specs.List.{flat_map, join_with_byte}
use Rattle.definitions.specs.Poly.{Poly, Term}
use Rattle.quiver.specs.declared.named.Named.{Named}
use Rattle.quiver.specs.declared.named.Named.TheVariants.{Object, Map}
use Rattle.quiver.specs.Declarations.{Declaration, named_in, letter_name}

-- the text of a letter that comes from what its name stands for: an identity, a map, or the adjoint of a map
abbrev pub spelled_as : List ℕ → ℕ → Option Named → List ℕ
spelled_as name a (Some (Object v)) = codes "[" ++ name ++ codes "]"
spelled_as name a (Some (Map b)) = if nat_eq a b.0 then name else name ++ codes "'"
spelled_as name a None = []

abbrev pub letter_text : List Declaration → ℕ → List ℕ
letter_text ds a = spelled_as (letter_name ds a) a (named_in ds (letter_name ds a))

-- the blank before the letter at a place, but the first
abbrev pub gap_text : ℕ → List ℕ
gap_text place = if place == 0 then [] else codes " "

-- an absolute value and a blank, unless it is 1
abbrev pub factor_text : ℕ → List ℕ
factor_text n = if n == 1 then [] else decimal n ++ codes " "

-- letters with one blank between them, by the text of each letter
abbrev pub word_by : (ℕ → List ℕ) → List ℕ → List ℕ
word_by spell word = join_with_byte 32 (map spell word)

abbrev pub term_by : (ℕ → List ℕ) → Term → List ℕ
term_by spell t = factor_text (unsigned_abs t.0) ++ word_by spell t.1

abbrev pub first_by : (ℕ → List ℕ) → Term → List ℕ
first_by spell t = (if is_negative t.0 then codes "- " else []) ++ term_by spell t

abbrev pub later_by : (ℕ → List ℕ) → Term → List ℕ
later_by spell t = (if is_negative t.0 then codes " - " else codes " + ") ++ term_by spell t

-- terms with their signs between them, or 0
abbrev pub poly_by : (ℕ → List ℕ) → Poly → List ℕ
poly_by spell [] = codes "0"
poly_by spell (t ∷ terms) = first_by spell t ++ flat_map (later_by spell) terms

-- the same by the names of the letters
abbrev pub word_text : List Declaration → List ℕ → List ℕ
word_text ds = word_by (letter_text ds)

abbrev pub term_text : List Declaration → Term → List ℕ
term_text ds = term_by (letter_text ds)

abbrev pub first_text : List Declaration → Term → List ℕ
first_text ds = first_by (letter_text ds)

abbrev pub later_text : List Declaration → Term → List ℕ
later_text ds = later_by (letter_text ds)

abbrev pub poly_text : List Declaration → Poly → List ℕ
poly_text ds = poly_by (letter_text ds)
