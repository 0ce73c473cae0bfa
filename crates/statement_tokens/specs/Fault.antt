-- Faults of a statement: what is printed for one, and one with its place.
use Rattle.std.specs.Prelude.{ℕ}
use Rattle.statement_tokens.specs.Types.{Spot, Fault, Fault as fault, Placed}

-- the number that is printed for it, and the limit that is exceeded, or 0
abbrev pub code_of : Fault → ℕ
code_of fault.NotUtf8 = 1
code_of fault.BadToken = 2
code_of fault.Expected = 3
code_of fault.LiteralTooLarge = 4
code_of fault.TooDeep = 5
code_of fault.Unknown = 6
code_of fault.Double = 7
code_of (fault.TooMany limit) = 8
code_of fault.NotSquare = 9
code_of fault.NotComposable = 10
code_of fault.SumMismatch = 11
code_of fault.OpenZero = 12
code_of fault.BadNumber = 16

abbrev pub limit_of : Fault → ℕ
limit_of (fault.TooMany limit) = limit
limit_of f = 0

abbrev pub placed : Fault → Spot → Placed
placed f at = record { fault = f; at = at }
