-- The files that the pages are about.
use Rattle.std.specs.Prelude.{◌≡◌, ℕ, List, None}
use Rattle.statement_syntax.specs.declared.tree.Statement.{Statement}
use Rattle.statement_syntax.specs.Texts.{IsTreeOf}
use Rattle.signature_typing.specs.Typing.{fault_of}

-- The bytes are a file with these statements, without a fault: no name, number, signature or coefficient of it is wrong, and it has a claim.
pub record IsFaultlessFile (bytes : List ℕ) (statements : List Statement) : Type 0 where
  pub tree : IsTreeOf bytes statements
  pub faultless : fault_of statements ≡ None
