-- The limits of a file: the maps that it declares, by its language, and the exponents of its powers.
use Rattle.std.specs.Prelude.{ℕ, List, [], ◌∷◌}
use Rattle.quiver.specs.Limits.{map_limit}
use Rattle.statement_names.specs.Types.{Statement, StatementKind, statement}

-- the maps of a file of the first language
abbrev pub first_map_limit : ℕ
first_map_limit = 200

-- a file whose first statement names the second language may have as many as a quiver
abbrev pub map_limit_after : StatementKind → ℕ
map_limit_after statement.Language = map_limit
map_limit_after kind = first_map_limit

abbrev pub map_limit_of : List Statement → ℕ
map_limit_of [] = first_map_limit
map_limit_of (s ∷ statements) = map_limit_after s.kind

-- an exponent
abbrev pub exponent_limit : ℕ
exponent_limit = 500
