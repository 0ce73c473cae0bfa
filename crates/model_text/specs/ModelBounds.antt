-- The bounds of models in evidence text, in the order in which they are tested, their lines, and what these say.
use Rattle.std.specs.Prelude.{◌≡◌, ◌<◌, ◌≤◌, ⊤, ℕ, ◌∷◌, Bool, false, IsTrue, List, [], length, map, nat_eq, Option, Some, None, if◌then◌else◌, codes}
use Rattle.std.specs.List.{All, flat_map, range_with_len}
use Rattle.std.specs.Str.Parse.{digits_value}
use Rattle.quiver.specs.declared.named.Named.{Named}
use Rattle.quiver.specs.declared.named.Named.TheVariants.{Object, Map}
use Rattle.quiver.specs.Declarations.{Declaration, object_count, letter_count, named_in}
use Rattle.matrix_models.specs.Limits.{modulus_limit, side_limit}
use Rattle.matrix_models.specs.Matrix.{Matrix}
use Rattle.matrix_models.specs.declared.model.Model.{Model}
use Rattle.block_text.specs.declared.fault.Flaw.{Flaw}
use Rattle.block_text.specs.declared.fault.Flaw.TheVariants.{UnknownName, NumberTooLarge, TooMany}
use Rattle.block_text.specs.Letters.{number_within}
use Rattle.block_text.specs.Lines.{number_limit}
use Rattle.block_lines.specs.LineKinds.{LineKind, said_line, number_line}
use Rattle.block_lines.specs.Sections.{Section, line_by, line_then, named_lines, said_as}
use Rattle.model_text.specs.declared.place.Entry.{Entry}
use Rattle.model_text.specs.declared.place.Entry.TheVariants as entry
use Rattle.model_text.specs.Written.{is_map_named}
use Rattle.model_text.specs.ModelBlocks.{EntryTokens, side, matrix, modulus_line, entry_line, name_of, is_entry, is_modulus}

-- the value of decimal digits
abbrev pub value_of : List ℕ → ℕ
value_of digits = digits_value 10 digits

-- whether the name is that of the object with this number
abbrev pub is_object_named : ℕ → Option Named → Bool
is_object_named v (Some (Object w)) = nat_eq w.0 v
is_object_named v (Some (Map b)) = false
is_object_named v None = false

-- the side of an object, 1 where no line has one
abbrev pub side_of : List Declaration → List EntryTokens → ℕ → ℕ
side_of ds [] v = 1
side_of ds (side name number ∷ entries) v = if is_object_named v (named_in ds name) then value_of number else side_of ds entries v
side_of ds (matrix name first rest ∷ entries) v = side_of ds entries v

-- the matrix of these rows
abbrev pub matrix_value : ℕ → List (List ℕ) → List (List (List ℕ)) → Matrix
matrix_value modulus first rest = record {
  modulus = modulus;
  rows = length (first ∷ rest);
  columns = length first;
  entries = map value_of (flat_map (λ row. row) (first ∷ rest));
}

-- the matrix of a letter that a line names
abbrev pub matrix_of : List Declaration → ℕ → List EntryTokens → ℕ → Option Matrix
matrix_of ds modulus [] a = None
matrix_of ds modulus (side name number ∷ entries) a = matrix_of ds modulus entries a
matrix_of ds modulus (matrix name first rest ∷ entries) a =
    if is_map_named a (named_in ds name) then Some (matrix_value modulus first rest) else matrix_of ds modulus entries a

-- the tokens of a model: its claim, its modulus, and its lines `side` and `map`
abbrev pub ModelTokens : Type 0
ModelTokens = List ℕ × (List ℕ × List EntryTokens)

-- what they say: the side of each object, and a matrix or none for each letter
abbrev pub model_value : List Declaration → ModelTokens → Model
model_value ds b = record {
  claim = value_of b.0;
  modulus = value_of b.1.0;
  sides = map (side_of ds b.1.1) (range_with_len 0 (object_count ds));
  maps = map (matrix_of ds (value_of b.1.0) b.1.1) (range_with_len 0 (letter_count ds));
}

-- on names, on numbers, and on sides, rows and columns
pub data Bound : Type 0 where
  names : Bound
  numbers : Bound
  sizes : Bound

-- they are tested in this order
abbrev pub bounds : List Bound
bounds = names ∷ numbers ∷ sizes ∷ []

-- the flaw of a line that exceeds the bound
abbrev pub flaw_of : Bound → Flaw
flaw_of names = UnknownName
flaw_of numbers = NumberTooLarge
flaw_of sizes = TooMany side_limit

-- a side is that of an object, and a matrix that of a declared map
abbrev pub HasName : List Declaration → EntryTokens → Type 0
HasName ds (side name number) = (v : _) × (named_in ds name ≡ Some (Object v))
HasName ds (matrix name first rest) = (a : _) × (named_in ds name ≡ Some (Map a))

-- the entries of a matrix are below the modulus; a side has no bound of this kind
abbrev pub IsBelow : ℕ → EntryTokens → Type 0
IsBelow modulus (side name number) = ⊤
IsBelow modulus (matrix name first rest) = All (λ row. All (λ number. value_of number < modulus) row) (first ∷ rest)

-- a side is at most 64, and so are the rows and the columns of a matrix
abbrev pub IsSmall : EntryTokens → Type 0
IsSmall (side name number) = value_of number ≤ side_limit
IsSmall (matrix name first rest) = (length (first ∷ rest) ≤ side_limit) × (length first ≤ side_limit)

-- the line is within the bound, in a model with this modulus
abbrev pub KeepsEntry : List Declaration → ℕ → Bound → EntryTokens → Type 0
KeepsEntry ds modulus names e = HasName ds e
KeepsEntry ds modulus numbers e = IsBelow modulus e
KeepsEntry ds modulus sizes e = IsSmall e

-- what it says: the side of an object, or the matrix of a declared map
abbrev pub SaysEntry : List Declaration → ℕ → EntryTokens → Entry → Type 0
SaysEntry ds modulus (side name number) said = (v : _) × (named_in ds name ≡ Some (Object v)) × (said ≡ entry.Side v (value_of number))
SaysEntry ds modulus (matrix name first rest) said = (a : _) × (named_in ds name ≡ Some (Map a)) × (said ≡ entry.Map a (matrix_value modulus first rest))

-- the lines `side` and `map` of a model with this modulus
abbrev pub entry_kind : List Declaration → ℕ → LineKind Bound Entry
entry_kind ds modulus = record { Tokens = EntryTokens; line_of = entry_line; IsLine = λ e. IsTrue (is_entry e); Keeps = KeepsEntry ds modulus; Says = SaysEntry ds modulus }

-- claim N, modulus M, and lines of which no two have the same name
abbrev pub model_lines : List Declaration → Section Bound Model
model_lines ds =
    said_as (line_then (number_line numbers (codes "claim") number_limit)
    (line_by (said_line numbers modulus_line (λ m. IsTrue (is_modulus m)) (number_within modulus_limit)) value_of (λ modulus. named_lines (entry_kind ds modulus) name_of)))
    (λ b m. m ≡ model_value ds b)
