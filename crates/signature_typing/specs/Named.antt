-- Names that stand for what they should, and signatures between objects.
use Rattle.std.specs.Prelude.{List, IfSome}
use Rattle.std.specs.List.{All}
use Rattle.quiver.specs.Declarations.{Declaration}
use Rattle.signature_typing.specs.Types.{Statement, SignatureFault}
use Rattle.statement_names.specs.Ready.{HasNames}
use Rattle.adjoint_rules.specs.Problem.{HasObjects}
use Rattle.signature_typing.specs.Typing.{equations_in}

-- the names in all equations of all statements
abbrev pub AreNamed : List Declaration → List Statement → Type 0
AreNamed ds statements = All (λ s. All (HasNames ds) (equations_in ds s)) statements

-- the signatures that a fault has
abbrev pub HasFaultObjects : List Declaration → SignatureFault → Type 0
HasFaultObjects ds f = IfSome f.sides (λ both. HasObjects ds both.0 × HasObjects ds both.1)
