-- The limits of a block of evidence.
use Rattle.std.specs.Prelude.{ℕ}

-- of its rows, and of its lemmas
abbrev pub row_limit : ℕ
row_limit = 200000

-- of the letters of its rows
abbrev pub letter_limit : ℕ
letter_limit = 1000000
