-- The limits of a completion.
use Rattle.std.specs.Prelude.{ℕ}

-- of both numbers of a budget
abbrev pub budget_limit : ℕ
budget_limit = 1000000

-- of the ambiguities that a round treats
abbrev pub round_limit : ℕ
round_limit = 32

-- the least number of ambiguities per thread
abbrev pub share : ℕ
share = 8
