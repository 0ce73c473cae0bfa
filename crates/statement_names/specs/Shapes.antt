-- The shapes of models that a file asks for.
use Rattle.std.specs.Prelude.{ℕ, List, [], ◌∷◌, map, replicate, unwrap_or}
use Rattle.std.specs.List.{flat_map, range_with_len}
use Rattle.std.specs.Map.{lookup}
use Rattle.std.specs.Str.{bytes_eq}
use Rattle.quiver.specs.Declarations.{Declaration, object_count, object_name}
use Rattle.statement_names.specs.Types.{Name, Number, Statement, StatementKind, statement, Shape}
use Rattle.statement_names.specs.Faults.{value_of}

abbrev pub shape : ℕ → List ℕ → Shape
shape modulus sides = record { modulus = modulus; sides = sides }

-- the side of an object, which is 1 where none is given
abbrev pub side_in : List (Name × Number) → List ℕ → ℕ
side_in sides name = unwrap_or (lookup (bytes_eq name) (map (λ pair. (pair.0.text, value_of pair.1.value)) sides)) 1

-- the sides of all objects, in the order of their numbers
abbrev pub sides_of : List Declaration → List (Name × Number) → List ℕ
sides_of ds sides = map (λ v. side_in sides (object_name ds v)) (range_with_len 0 (object_count ds))

-- the shape of a statement
abbrev pub shapes_in : List Declaration → StatementKind → List Shape
shapes_in ds (statement.Shape modulus sides) = shape (value_of modulus.value) (sides_of ds sides) ∷ []
shapes_in ds kind = []

-- modulus 2, with all sides 1 and with all sides 2
abbrev pub default_shapes : List Declaration → List Shape
default_shapes ds = shape 2 (replicate (object_count ds) 1) ∷ shape 2 (replicate (object_count ds) 2) ∷ []

abbrev pub or_shapes : List Shape → List Shape → List Shape
or_shapes [] others = others
or_shapes (s ∷ shapes) others = s ∷ shapes

-- the shapes of the file, and the default ones where it has none
abbrev pub shapes_of : List Declaration → List Statement → List Shape
shapes_of ds statements = or_shapes (flat_map (λ s. shapes_in ds s.kind) statements) (default_shapes ds)
