-- The names of the statement language, and of what a statement file declares.
use Rattle.std.specs.Prelude.{◌↔◌, ℕ, List, ◌∷◌, ◌++◌, IsTrue}
use Rattle.std.specs.List.{list_all}
use Rattle.std.specs.Str.{IsUtf8, chars}
use Rattle.statement_tokens.specs.declared.place.Spot.{Spot}
use Rattle.statement_tokens.specs.declared.token.Token.{Token}
use Rattle.statement_syntax.specs.declared.tree.Statement.{Statement}
use Rattle.statement_tokens.specs.Tokens.{AreTokens}
use Rattle.statement_syntax.specs.Grammar.{name_token}
use Rattle.statement_syntax.specs.Texts.{IsTreeOf}
use Rattle.adjoint_rules.specs.declared.problem.Problem.{Problem}
use Rattle.signature_typing.specs.Typing.{IsProblemOf}
use Rattle.block_text.specs.Letters.{is_name}
use Rattle.block_text.specs.Back.{is_named}

-- in some bytes the statement language has a name token with this text
pub record IsNameToken (text : List ℕ) : Type 0 where
  pub bytes : List ℕ
  pub utf8 : IsUtf8 bytes
  pub front : List Token
  pub at : Spot
  pub back : List Token
  pub tokens : AreTokens (chars bytes) (front ++ name_token (record { text = text; at = at }) ∷ back)

-- The names of evidence text are the names of the statement language, no more and no fewer.
abbrev pub NamesAreNameTokens : Type 0
NamesAreNameTokens = (text : List ℕ) → IsTrue (is_name text) ↔ IsNameToken text

-- In the problem of the statements of a text, each object and map has a name of the language. This is all that
-- is required of names where evidence that is written is read back.
abbrev pub DeclaredNamesAreNames : Type 0
DeclaredNamesAreNames = (bytes : List ℕ) (statements : List Statement) (problem : Problem)
    → IsTreeOf bytes statements → IsProblemOf statements problem → IsTrue (list_all is_named problem.parts.quiver)
