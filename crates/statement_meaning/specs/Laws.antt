-- A file has one tree, and the polynomials of equations and statements say what these mean.
use Rattle.std.specs.Prelude.{◌≡◌, ◌↔◌, ℕ, List, Ok, false, ◌||◌}
use Rattle.std.specs.List.{AllZip}
use Rattle.definitions.specs.Category.{Structure, InvolutionLaws}
use Rattle.definitions.specs.Poly.{Poly}
use Rattle.definitions.specs.Representation.{Representation, Represents, StarRepresents}
use Rattle.definitions.specs.Soundness.{HasValueZero}
use Rattle.quiver.specs.declared.named.Sig.{Sig}
use Rattle.quiver.specs.Declarations.{Declaration, quiver_of, ObjectsFirst, IsDeclared}
use Rattle.nc_polynomial.specs.declared.poly.Poly as made
use Rattle.statement_syntax.specs.declared.tree.Statement.{Statement}
use Rattle.statement_syntax.specs.declared.tree.Sum.{Sum}
use Rattle.statement_syntax.specs.Texts.{IsTreeOf}
use Rattle.abbreviations.specs.Names.{AreNames}
use Rattle.abbreviations.specs.Occurrences.{has_quote}
use Rattle.abbreviations.specs.declared.written.Equation.{Equation}
use Rattle.abbreviations.specs.Written.{assumptions_of, claims_of}
use Rattle.expressions.specs.Signatures.{equation_signature}
use Rattle.expressions.specs.Polynomials.{equation_poly}
use Rattle.adjoint_rules.specs.declared.problem.Problem.{Problem}
use Rattle.signature_typing.specs.Typing.{IsProblemOf}
use Rattle.statement_meaning.specs.Values.{Reading, Holds}

-- Bytes are one file, whose statements each promise is about: they have at most one tree.
abbrev pub FilesHaveOneTree : Type 0
FilesHaveOneTree = (bytes : List ℕ) (one other : List Statement) → IsTreeOf bytes one → IsTreeOf bytes other → one ≡ other

-- The equation is one of maps and objects that are declared, it has a signature, and this is its polynomial.
pub record IsEquation (ds : List Declaration) (left right : Sum) (s : Sig) (p : Poly) : Type 0 where
  pub declared : IsDeclared ds
  pub objects_first : ObjectsFirst ds
  pub left_names : AreNames ds left
  pub right_names : AreNames ds right
  pub signature : equation_signature ds left right ≡ Ok s
  pub polynomial : equation_poly ds left right ≡ Ok p

abbrev pub reading : {Object Arrow : Type 0} → Structure Object Arrow → (Arrow → Arrow) → List Declaration → Representation Object Arrow → Reading Object Arrow
reading s involution ds f = record { category = s; involution = involution; names = ds; maps = f }

-- In each representation the polynomial of an equation without adjoints has the value zero exactly where both sides have the same value.
abbrev pub EquationsAreRead : {Object Arrow : Type 0} → Structure Object Arrow → Type 0
EquationsAreRead {Object} {Arrow} s = (involution : Arrow → Arrow) (ds : List Declaration) (left right : Sum) (e : Sig) (p : Poly) (f : Representation Object Arrow)
    → IsEquation ds left right e p → (has_quote left || has_quote right) ≡ false → Represents s (quiver_of ds) f
    → HasValueZero s (quiver_of ds) f p ↔ Holds (reading s involution ds f) left right

-- Whatever the involution, in each star representation the polynomial of an equation has the value zero exactly where both sides have the same value.
abbrev pub StarredEquationsAreRead : {Object Arrow : Type 0} → Structure Object Arrow → Type 0
StarredEquationsAreRead {Object} {Arrow} s = (involution : Arrow → Arrow) → InvolutionLaws s involution
    → (ds : List Declaration) (left right : Sum) (e : Sig) (p : Poly) (f : Representation Object Arrow)
    → IsEquation ds left right e p → StarRepresents s involution (quiver_of ds) f
    → HasValueZero s (quiver_of ds) f p ↔ Holds (reading s involution ds f) left right

-- Each polynomial has the value zero exactly where its equation holds.
abbrev pub AreRead : {Object Arrow : Type 0} → Structure Object Arrow → (Arrow → Arrow) → List Declaration → Representation Object Arrow → List made.Poly → List Equation → Type 0
AreRead s involution ds f polys equations = AllZip (λ p e. HasValueZero s (quiver_of ds) f p.terms ↔ Holds (reading s involution ds f) e.left e.right) polys equations

-- The assumptions and the claims of a problem are read so, by the equations of its statements, abbreviations written out.
pub record IsRead {Object Arrow : Type 0} (s : Structure Object Arrow) (involution : Arrow → Arrow) (f : Representation Object Arrow) (statements : List Statement) (problem : Problem) : Type 0 where
  pub assumptions : AreRead s involution problem.parts.quiver f problem.parts.assumptions (assumptions_of problem.parts.quiver statements)
  pub claims : AreRead s involution problem.parts.quiver f problem.parts.claims (claims_of statements)

-- In each representation the assumptions and the claims of a statement that isn't starred are zero exactly where its equations hold.
abbrev pub StatementsAreRead : {Object Arrow : Type 0} → Structure Object Arrow → Type 0
StatementsAreRead {Object} {Arrow} s = (involution : Arrow → Arrow) (statements : List Statement) (problem : Problem) (f : Representation Object Arrow)
    → IsProblemOf statements problem → problem.parts.starred ≡ false → Represents s (quiver_of problem.parts.quiver) f → IsRead s involution f statements problem

-- Whatever the involution, in each star representation those of every statement are.
abbrev pub StarredStatementsAreRead : {Object Arrow : Type 0} → Structure Object Arrow → Type 0
StarredStatementsAreRead {Object} {Arrow} s = (involution : Arrow → Arrow) → InvolutionLaws s involution
    → (statements : List Statement) (problem : Problem) (f : Representation Object Arrow)
    → IsProblemOf statements problem → StarRepresents s involution (quiver_of problem.parts.quiver) f → IsRead s involution f statements problem
