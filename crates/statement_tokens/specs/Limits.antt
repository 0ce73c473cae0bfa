-- The limit of a name.
use Rattle.std.specs.Prelude.{ℕ}

-- of the bytes of a name
abbrev pub name_limit : ℕ
name_limit = 32
