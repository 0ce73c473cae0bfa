-- Each statement has a problem or a fault.
use Rattle.std.specs.Prelude.{◌≡◌, ◌⊎◌, List, Some}
use Rattle.signature_typing.specs.Types.{Statement, Problem, TypeFault}
use Rattle.signature_typing.specs.Fault.{IsMemory}
use Rattle.signature_typing.specs.Typing.{fault_of, IsProblemOf}

-- Statements have a fault, which is not want of memory, or there is a problem that they stand for.
abbrev pub EachStatementHasAProblemOrAFault : Type 0
EachStatementHasAProblemOrAFault = (statements : List Statement)
    → ((fault : TypeFault) × (fault_of statements ≡ Some fault) × (IsMemory fault → ⊥)) ⊎ ((problem : Problem) × IsProblemOf statements problem)
