-- How many candidates of a shape are tried, and how many entries all matrices of a model have at most.
use Rattle.std.specs.Prelude.{ℕ, ◌*◌}
use Rattle.quiver.specs.Limits.{letter_limit}
use Rattle.adjoint_rules.specs.Limits.{shape_side_limit}

-- up to so many lists of values, all are
abbrev pub exhaustive_limit : ℕ
exhaustive_limit = 65536

-- else so many are drawn
abbrev pub drawn_count : ℕ
drawn_count = 4096

-- a matrix for each letter at most, with as many rows and columns as a side has at most
abbrev pub entry_limit : ℕ
entry_limit = shape_side_limit * shape_side_limit * letter_limit
