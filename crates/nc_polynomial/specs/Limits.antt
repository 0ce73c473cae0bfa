-- The limits of a polynomial.
use Rattle.std.specs.Prelude.{ℕ}

-- of the letters of a word
abbrev pub word_limit : ℕ
word_limit = 500

-- of the terms of a polynomial
abbrev pub term_limit : ℕ
term_limit = 20000
