-- How a reader of models goes over the lines of evidence text, and what it has made of the first ones. Only the reader's functions and
-- proofs use it; the models of a text are defined in Models.
use Rattle.std.specs.Prelude.{⊤, ℕ, ◌-◌, ◌&&◌, List, [], ◌∷◌, ◌++◌, length, map, nat_eq, nat_le, Option, Some, None, Result, Ok, Err}
use Rattle.std.specs.Prelude.{IsTrue, if◌then◌else◌, codes}
use Rattle.std.specs.List.{flat_map, list_all, range_with_len}
use Rattle.std.specs.Option.{option_map, option_and_then}
use Rattle.quiver.specs.declared.named.Named.{Named}
use Rattle.quiver.specs.declared.named.Named.TheVariants.{Object, Map}
use Rattle.quiver.specs.Declarations.{Declaration, object_count, letter_count, named_in}
use Rattle.matrix_models.specs.Matrix.{Matrix, IsModulus}
use Rattle.matrix_models.specs.declared.model.Model.{Model}
use Rattle.block_text.specs.declared.fault.Flaw.{Flaw}
use Rattle.block_text.specs.declared.fault.Flaw.TheVariants.{UnknownName, NumberTooLarge, TooMany}
use Rattle.block_text.specs.Fault.{◌>>=◌, asked}
use Rattle.block_text.specs.Letters.{number_within}
use Rattle.block_text.specs.Lines.{number_limit, is, begins, said, number_of, Line}
use Rattle.model_text.specs.ModelBlocks.{EntryTokens, side, matrix, name_of, is_row, is_row_of, is_entry, is_modulus}
use Rattle.matrix_models.specs.Limits.{modulus_limit, side_limit}
use Rattle.block_text.specs.Steps.{Steps}
use Rattle.model_text.specs.ModelBounds.{value_of}
use Rattle.model_text.specs.Models.{other_words}
use Rattle.model_text.specs.declared.place.Entry.{Entry}
use Rattle.model_text.specs.declared.place.Entry.TheVariants as entry
use Rattle.block_lines.specs.declared.section.LinePlace.{LinePlace}
use Rattle.block_lines.specs.declared.section.LinePlace.TheVariants as at
use Rattle.block_lines.specs.SectionSteps.{SectionSteps, line_steps_by, line_steps, named_steps, steps_as, block_steps}

-- the tokens before the first ; and those between the others
abbrev pub rows_in : Line → Line × List Line
rows_in [] = ([], [])
rows_in (token ∷ tokens) = if is (codes ";") token then ([], (rows_in tokens).0 ∷ (rows_in tokens).1) else (token ∷ (rows_in tokens).0, (rows_in tokens).1)

-- the rows after the first one, where a ; is before them
abbrev pub rows_behind : Option Line → List Line
rows_behind None = []
rows_behind (Some line) = (rows_in line).0 ∷ (rows_in line).1

-- side NAME S
abbrev pub side_tokens : Line → Option EntryTokens
side_tokens (word ∷ name ∷ number ∷ []) = if is (codes "side") word then Some (side name number) else None
side_tokens [] = None
side_tokens (word ∷ []) = None
side_tokens (word ∷ name ∷ []) = None
side_tokens (word ∷ name ∷ number ∷ token ∷ tokens) = None

-- map NAME = X .. ; X ..
abbrev pub map_tokens : Line → Option EntryTokens
map_tokens (word ∷ name ∷ sign ∷ tokens) = if is (codes "map") word && is (codes "=") sign then Some
    (matrix name (rows_in tokens).0 (rows_in tokens).1) else None
map_tokens [] = None
map_tokens (word ∷ []) = None
map_tokens (word ∷ name ∷ []) = None

-- numbers and names are at their places
abbrev pub if_entry : EntryTokens → Option EntryTokens
if_entry e = if is_entry e then Some e else None

abbrev pub entry_tokens : Line → Option EntryTokens
entry_tokens line = if begins (codes "side") line then option_and_then if_entry (side_tokens line) else option_and_then if_entry (map_tokens line)

-- rows of numbers, all of the same length, at least 1
pub record AreRows (first : List (List ℕ)) (rest : List (List (List ℕ))) : Type 0 where
  pub first_row : IsTrue (is_row first)
  pub more : IsTrue (list_all (is_row_of (length first)) rest)

-- the values of numbers, if all are below the modulus
abbrev pub values_below : ℕ → Line → Option (List ℕ)
values_below modulus [] = Some []
values_below modulus (number ∷ numbers) = option_and_then (λ n. option_map (λ ns. n ∷ ns) (values_below modulus numbers)) (number_within (modulus - 1) number)

-- values, and those that follow them, if these exist
abbrev pub after : List ℕ → Option (List ℕ) → Option (List ℕ)
after front rest = option_map (λ ns. front ++ ns) rest

-- values, and after them those of the numbers in rows
abbrev pub values_in : ℕ → List ℕ → List Line → Option (List ℕ)
values_in modulus values [] = Some values
values_in modulus values (row ∷ rows) = option_and_then (λ more. values_in modulus more rows) (after values (values_below modulus row))

-- the matrix with these entries, if it is small enough
abbrev pub matrix_made : ℕ → ℕ → ℕ → List ℕ → Result Matrix Flaw
matrix_made modulus rows columns entries =
    if nat_le rows side_limit && nat_le columns side_limit then Ok
    (record { modulus = modulus; rows = rows; columns = columns; entries = entries }) else Err (TooMany side_limit)

abbrev pub side_value : Option Named → List ℕ → Result Entry Flaw
side_value (Some (Object v)) number = if nat_le (value_of number) side_limit then Ok (entry.Side v (value_of number)) else Err (TooMany side_limit)
side_value (Some (Map a)) number = Err UnknownName
side_value None number = Err UnknownName

abbrev pub map_value : Option Named → ℕ → Line → List Line → Result Entry Flaw
map_value (Some (Map a)) modulus first rest =
    asked NumberTooLarge (values_below modulus (flat_map (λ row. row) (first ∷ rest))) >>= λ values.
    (matrix_made modulus (length (first ∷ rest)) (length first) values >>= λ x. Ok (entry.Map a x))
map_value (Some (Object v)) modulus first rest = Err UnknownName
map_value None modulus first rest = Err UnknownName

abbrev pub entry_value : List Declaration → ℕ → EntryTokens → Result Entry Flaw
entry_value ds modulus (side name number) = side_value (named_in ds name) number
entry_value ds modulus (matrix name first rest) = map_value (named_in ds name) modulus first rest

-- the side of an object, and the matrix of a letter, by the lines that were read
abbrev pub side_in : List Entry → ℕ → ℕ
side_in [] v = 1
side_in (entry.Side w n ∷ entries) v = if nat_eq w.0 v then n else side_in entries v
side_in (entry.Map b x ∷ entries) v = side_in entries v

abbrev pub matrix_in : List Entry → ℕ → Option Matrix
matrix_in [] a = None
matrix_in (entry.Side w n ∷ entries) a = matrix_in entries a
matrix_in (entry.Map b x ∷ entries) a = if nat_eq b.0 a then Some x else matrix_in entries a

abbrev pub sides_in : List Declaration → List Entry → List ℕ
sides_in ds entries = map (side_in entries) (range_with_len 0 (object_count ds))

abbrev pub maps_in : List Declaration → List Entry → List (Option Matrix)
maps_in ds entries = map (matrix_in entries) (range_with_len 0 (letter_count ds))

abbrev pub model_of : List Declaration → ℕ × (ℕ × List Entry) → Model
model_of ds said = record { claim = said.0; modulus = said.1.0; sides = sides_in ds said.1.1; maps = maps_in ds said.1.1 }

-- modulus M
abbrev pub modulus_digits : Line → Option (List ℕ)
modulus_digits (word ∷ m ∷ []) = if is (codes "modulus") word && is_modulus m then Some m else None
modulus_digits [] = None
modulus_digits (word ∷ []) = None
modulus_digits (word ∷ m ∷ token ∷ tokens) = None

abbrev pub modulus_of : Line → Result ℕ Flaw
modulus_of line = said modulus_digits (number_within modulus_limit) NumberTooLarge line

-- the names of the lines `side` and `map`, and what these say
abbrev pub Entries : Type 0
Entries = List (List ℕ) × List Entry

abbrev pub entry_steps : List Declaration → ℕ → SectionSteps Entries (List Entry)
entry_steps ds modulus = named_steps entry_tokens name_of (entry_value ds modulus)

-- the modulus and the lines after it
abbrev pub modulus_steps : List Declaration → SectionSteps (LinePlace ℕ Entries) (ℕ × List Entry)
modulus_steps ds = line_steps_by modulus_of (entry_steps ds)

abbrev pub model_steps : List Declaration → Steps (LinePlace ℕ (LinePlace ℕ Entries)) Model
model_steps ds = block_steps (codes "model") (codes "1") other_words (steps_as (model_of ds) (line_steps (number_of (codes "claim") number_limit) (modulus_steps ds)))

-- the modulus of a model is one
abbrev pub HasModulus : LinePlace ℕ Entries → Type 0
HasModulus at.Before = ⊤
HasModulus (at.Behind m entries) = IsModulus m

abbrev pub IsSound : LinePlace ℕ (LinePlace ℕ Entries) → Type 0
IsSound at.Before = ⊤
IsSound (at.Behind n place) = HasModulus place
