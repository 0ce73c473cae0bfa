-- The limit of a chain.
use Rattle.std.specs.Prelude.{ℕ}

-- of the letters of all its lines together
abbrev pub letter_limit : ℕ
letter_limit = 10000000
