-- The limit of nesting.
use Rattle.std.specs.Prelude.{ℕ}

-- of nested round brackets
abbrev pub bracket_limit : ℕ
bracket_limit = 64
