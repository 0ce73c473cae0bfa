-- Which bytes are which statements.
use Rattle.std.specs.Prelude.{◌≡◌, ℕ, List}
use Rattle.std.specs.Str.{IsUtf8, chars}
use Rattle.statement_syntax.specs.Types.{Statement, Language}
use Rattle.statement_tokens.specs.Tokens.{AreTokens}
use Rattle.statement_syntax.specs.Grammar.{StatedLine, IsFileOf, file_tokens, FileFits}
use Rattle.statement_syntax.specs.Tree.{file_tree}

-- the bytes are these statements, a line each, of one of the languages, with at most 64 nested round brackets
pub record IsStatements (bytes : List ℕ) (lines : List StatedLine) : Type 0 where
  pub utf8 : IsUtf8 bytes
  pub tokens : AreTokens (chars bytes) (file_tokens lines)
  pub language : Language
  pub speaks : IsFileOf language lines
  pub fits : FileFits lines

-- the bytes are statements that have this tree
abbrev pub IsTreeOf : List ℕ → List Statement → Type 0
IsTreeOf bytes statements = (lines : List StatedLine) × IsStatements bytes lines × (statements ≡ file_tree lines)

-- they are the tree of some text
abbrev pub HasText : List Statement → Type 0
HasText statements = (bytes : List ℕ) × IsTreeOf bytes statements
