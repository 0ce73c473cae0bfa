-- How models are written.
use Rattle.std.specs.Prelude.{◌≡◌, ℕ, ◌==◌, nat_eq, false, List, [], ◌++◌, length, get_or, decimal, Option, Some, None, Bool, if◌then◌else◌, codes}
use Rattle.std.specs.List.{flat_map, range_with_len}
use Rattle.quiver.specs.declared.named.Named.{Named}
use Rattle.quiver.specs.declared.named.Named.TheVariants.{Object, Map}
use Rattle.quiver.specs.Declarations.{Declaration, object_count, letter_count, named_in, object_name, letter_name}
use Rattle.matrix_models.specs.Matrix.{Matrix, entry_at}
use Rattle.matrix_models.specs.declared.model.Model.{Model}

-- whether the name is that of the map with this number
abbrev pub is_map_named : ℕ → Option Named → Bool
is_map_named a (Some (Map b)) = nat_eq b.0 a
is_map_named a (Some (Object w)) = false
is_map_named a None = false

-- the text before the part at a place: none before the first one
abbrev pub between : List ℕ → ℕ → List ℕ
between sign place = if place == 0 then [] else sign

-- the entries of a row with one blank between them
abbrev pub entry_text : Matrix → ℕ → ℕ → List ℕ
entry_text x row column = between (codes " ") column ++ decimal (entry_at x row column)

abbrev pub row_text : Matrix → ℕ → List ℕ
row_text x row = flat_map (entry_text x row) (range_with_len 0 x.columns)

-- the rows with ; between them
abbrev pub part_text : Matrix → ℕ → List ℕ
part_text x row = between (codes " ; ") row ++ row_text x row

abbrev pub rows_text : Matrix → List ℕ
rows_text x = flat_map (part_text x) (range_with_len 0 x.rows)

abbrev pub side_text : List Declaration → ℕ → ℕ → List ℕ
side_text ds v n = codes "side " ++ object_name ds v ++ codes " " ++ decimal n ++ codes "\n"

-- a line for each object
abbrev pub sides_text : List Declaration → List ℕ → List ℕ
sides_text ds sides = flat_map (λ v. side_text ds v (get_or sides v 1)) (range_with_len 0 (object_count ds))

-- whether the letter is a declared map, and no identity and no adjoint
abbrev pub is_map : List Declaration → ℕ → Bool
is_map ds a = is_map_named a (named_in ds (letter_name ds a))

-- a line for a declared map that has a matrix
abbrev pub map_text : List Declaration → ℕ → Option Matrix → List ℕ
map_text ds a None = []
map_text ds a (Some x) = if is_map ds a then codes "map " ++ letter_name ds a ++ codes " = " ++ rows_text x ++ codes "\n" else []

-- in the order of the letters, which is that of the declarations
abbrev pub maps_text : List Declaration → List (Option Matrix) → List ℕ
maps_text ds maps = flat_map (λ a. map_text ds a (get_or maps a None)) (range_with_len 0 (letter_count ds))

-- a word and a number
abbrev pub numbered_text : List ℕ → ℕ → List ℕ
numbered_text word n = word ++ decimal n ++ codes "\n"

-- the first lines of a model
abbrev pub head_text : Model → List ℕ
head_text m = codes "model 1\n" ++ numbered_text (codes "claim ") m.claim ++ numbered_text (codes "modulus ") m.modulus

-- a model as a block of evidence text
abbrev pub model_text : List Declaration → Model → List ℕ
model_text ds m = head_text m ++ sides_text ds m.sides ++ maps_text ds m.maps ++ codes "end\n"

-- A side for each object, and an entry for each letter.
pub record HasPlaces (ds : List Declaration) (m : Model) : Type 0 where
  pub sides : length m.sides ≡ object_count ds
  pub maps : length m.maps ≡ letter_count ds
