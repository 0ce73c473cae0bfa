-- The ending of the bytes of a statement: its first fault, or the ending of its problem.
use Rattle.std.specs.Prelude.{ℕ, ◌≡◌, List, Option, Some, None}
use Rattle.statement_tokens.specs.declared.place.Spot.{Spot}
use Rattle.statement_tokens.specs.declared.fault.Fault.{Fault}
use Rattle.statement_syntax.specs.declared.tree.Statement.{Statement}
use Rattle.statement_tokens.specs.Fault.{code_of}
use Rattle.statement_syntax.specs.Fault.{IsFirstFault}
use Rattle.statement_syntax.specs.Texts.{IsTreeOf}
use Rattle.adjoint_rules.specs.declared.problem.Problem.{Problem}
use Rattle.signature_typing.specs.declared.fault.TypeFault.{TypeFault}
use Rattle.signature_typing.specs.declared.fault.TypeFault.TheVariants as typing
use Rattle.signature_typing.specs.Typing.{fault_of}
use Rattle.command_shape.specs.Ending.{Ending, refused_statement}
use Rattle.command_shape.specs.Texts.{statement_fault}
use Rattle.stated_problem.specs.Stated.{IsStated}

-- the text of a fault of names and types; want of memory has none
abbrev pub typing_text : TypeFault → Option (List ℕ)
typing_text (typing.Fault code line column left right limit) = Some (statement_fault code line column limit left right)
typing_text (typing.Memory failed) = None

-- The statement has a first fault, and the line says so.
pub data IsRefusedStatement (bytes text : List ℕ) : Type 0 where
  no_tree : (fault : Fault) (at : Spot) → IsFirstFault bytes fault at
      → text ≡ statement_fault (code_of fault) at.line at.column 0 None None → IsRefusedStatement bytes text
  no_problem : (statements : List Statement) (fault : TypeFault) → IsTreeOf bytes statements → fault_of statements ≡ Some fault
      → typing_text fault ≡ Some text → IsRefusedStatement bytes text

-- The statement is refused, for its first fault, or its problem leads to the ending.
pub data OverStatement (bytes : List ℕ) (next : Problem → Ending → Type 0) (ending : Ending) : Type 0 where
  faulty : (text : List ℕ) → IsRefusedStatement bytes text → ending ≡ refused_statement text → OverStatement bytes next ending
  stated : (problem : Problem) → IsStated bytes problem → next problem ending → OverStatement bytes next ending
