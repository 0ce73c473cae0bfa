-- The polynomial of an equation has the equation's signature, and its letters are those that the equation writes.
use Rattle.std.specs.Prelude.{◌≡◌, ℕ, ◌<◌, ◌||◌, List, Ok, IsTrue}
use Rattle.std.specs.List.{All}
use Rattle.definitions.specs.Poly.{Poly}
use Rattle.definitions.specs.Quiver.{star, IsTyped}
use Rattle.quiver.specs.declared.named.Sig.{Sig}
use Rattle.quiver.specs.Declarations.{Declaration, object_count, letter_count, quiver_of, ObjectsFirst, IsDeclared}
use Rattle.statement_syntax.specs.declared.tree.Sum.{Sum}
use Rattle.abbreviations.specs.Names.{AreNames}
use Rattle.abbreviations.specs.Occurrences.{has_quote, has_identity}
use Rattle.expressions.specs.Signatures.{equation_signature}
use Rattle.expressions.specs.Polynomials.{equation_poly}

-- Each word of the polynomial of an equation is a path of the equation's signature.
abbrev pub EquationsAreTyped : Type 0
EquationsAreTyped = (ds : List Declaration) (left right : Sum) (s : Sig) (p : Poly)
    → IsDeclared ds → ObjectsFirst ds → AreNames ds left → AreNames ds right
    → equation_signature ds left right ≡ Ok s → equation_poly ds left right ≡ Ok p
    → IsTyped (quiver_of ds) s.source.0 s.target.0 p

-- A letter of the quiver that is no identity, unless one side writes that identity, and is no adjoint of a declared map,
-- unless one side has a quote.
pub record IsWritten (ds : List Declaration) (left right : Sum) (a : ℕ) : Type 0 where
  pub letter : a < letter_count ds
  pub identity : a < object_count ds → IsTrue (has_identity ds a left || has_identity ds a right)
  pub adjoint : star (quiver_of ds) a < a → IsTrue (has_quote left || has_quote right)

abbrev pub LettersAreWritten : Type 0
LettersAreWritten = (ds : List Declaration) (left right : Sum) (p : Poly)
    → IsDeclared ds → ObjectsFirst ds → AreNames ds left → AreNames ds right
    → equation_poly ds left right ≡ Ok p
    → All (λ t. All (IsWritten ds left right) t.1) p
