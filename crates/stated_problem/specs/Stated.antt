-- The problem of the bytes of a statement.
use Rattle.std.specs.Prelude.{ℕ, List}
use Rattle.statement_syntax.specs.declared.tree.Statement.{Statement}
use Rattle.statement_syntax.specs.Texts.{IsTreeOf}
use Rattle.adjoint_rules.specs.declared.problem.Problem.{Problem}
use Rattle.signature_typing.specs.Typing.{IsProblemOf}

-- The bytes are a statement, and this is its problem.
pub record IsStated (bytes : List ℕ) (problem : Problem) : Type 0 where
  pub statements : List Statement
  pub tree : IsTreeOf bytes statements
  pub elaborated : IsProblemOf statements problem
