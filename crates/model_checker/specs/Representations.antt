-- The representation that matrices for the declared maps describe.
use Rattle.std.specs.Prelude.{ℕ, get_or, nat_lt, nat_le, Option, Some, None, if◌then◌else◌}
use Rattle.definitions.specs.Quiver.{Quiver, star}
use Rattle.definitions.specs.Representation.{Representation}
use Rattle.matrix_models.specs.Matrix.{Matrix}
use Rattle.matrix_models.specs.Matrices.{identity_matrix, zero_matrix, transpose}
use Rattle.matrix_models.specs.declared.model.Model.{Model}

-- the side of the object with this number
abbrev pub side_of : Model → ℕ → ℕ
side_of m v = get_or m.sides v 1

-- the matrix in the entry of the letter with this number
abbrev pub map_at : Model → ℕ → Option Matrix
map_at m a = get_or m.maps a None

-- a zero matrix where there is none
abbrev pub matrix_or_zero : ℕ → Option Matrix → Matrix
matrix_or_zero modulus None = zero_matrix modulus 1 1
matrix_or_zero modulus (Some x) = x

-- An identity goes to the identity matrix, a declared map to its matrix, and the adjoint of a declared map to the transpose of that map's.
abbrev pub arrow_of : Quiver → Model → ℕ → Matrix
arrow_of q m a =
    if nat_lt a q.objects then identity_matrix m.modulus (side_of m a)
    else (if nat_le a (star q a) then matrix_or_zero m.modulus (map_at m a) else transpose m.modulus (matrix_or_zero m.modulus (map_at m (star q a))))

abbrev pub representation_of : Quiver → Model → Representation ℕ Matrix
representation_of q m = record { object = side_of m; arrow = arrow_of q m }
