-- Each text is read.
use Rattle.std.specs.Prelude.{ℕ, ◌⊎◌, List}
use Rattle.statement_syntax.specs.Types.{Spot, Statement, Fault}
use Rattle.statement_syntax.specs.Fault.{IsFirstFault}
use Rattle.statement_syntax.specs.Texts.{IsTreeOf}

-- Each text has a tree or a first fault.
abbrev pub EachTextIsRead : Type 0
EachTextIsRead = (bytes : List ℕ) → ((statements : List Statement) × IsTreeOf bytes statements)
    ⊎ ((fault : Fault) × ((at : Spot) × IsFirstFault bytes fault at))
