-- The limits of a quiver.
use Rattle.std.specs.Prelude.{ℕ, ◌+◌, ◌*◌}

abbrev pub object_limit : ℕ
object_limit = 64

abbrev pub map_limit : ℕ
map_limit = 1000

-- an object has one letter, and a map at most two
abbrev pub letter_limit : ℕ
letter_limit = object_limit + 2 * map_limit
