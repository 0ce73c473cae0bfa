-- `not derivable` and `closed`: no positive multiple of the claim is a combination of the assumptions.
use Rattle.std.specs.Prelude.{◌≡◌, ◌<◌, ◌⊎◌, ℕ, List, ◌++◌, map, codes, decimal, Ok}
use Rattle.std.specs.List.{AllZip}
use Rattle.definitions.specs.Poly.{Poly}
use Rattle.definitions.specs.Combination.{InRationalIdeal}
use Rattle.definitions.specs.Generators.{generators_of}
use Rattle.quiver.specs.Declarations.{Declaration}
use Rattle.statement_syntax.specs.declared.tree.Statement.{Statement}
use Rattle.abbreviations.specs.declared.written.Equation.{Equation}
use Rattle.abbreviations.specs.Written.{assumptions_of}
use Rattle.expressions.specs.Polynomials.{equation_poly}
use Rattle.statement_names.specs.Numbered.{declarations_of}
use Rattle.statement_names.specs.Marked.{marked_of}
use Rattle.statement_names.specs.Starred.{is_starred}
use Rattle.statement_meaning.specs.Claims.{quiver_in, IsClaim}
use Rattle.command_runs.specs.Promises.Faultless.{IsFaultlessFile}
use Rattle.command_runs.specs.Promises.Lines.{HasLine, claim_line, block_line, number_limit}

-- the polynomial of the equation: its left side minus its right side
abbrev pub IsPolynomialOf : List Declaration → Equation → Poly → Type 0
IsPolynomialOf ds e p = equation_poly ds e.left e.right ≡ Ok p

-- The bytes are a file without a fault with a claim of this number, of which no positive multiple is a combination of the generators: the assumptions,
-- abbreviations written out, where the file is starred their adjoints, and the equations by which the identities that occur are identities.
pub record IsNotDerivable (bytes : List ℕ) (number : ℕ) : Type 0 where
  pub statements : List Statement
  pub file : IsFaultlessFile bytes statements
  pub assumptions : List Poly
  pub assumed : AllZip (IsPolynomialOf (declarations_of statements)) (assumptions_of (declarations_of statements) statements) assumptions
  pub claim : Equation
  pub is_claim : IsClaim statements number claim
  pub polynomial : Poly
  pub claimed : IsPolynomialOf (declarations_of statements) claim polynomial
  pub outside : InRationalIdeal
      (generators_of (quiver_in statements) (is_starred statements) (map (λ v. v.0) (marked_of (declarations_of statements) statements)) assumptions) polynomial → ⊥

-- claim N, and then ` sharp`, or nothing
pub record SaysClosed (bytes text : List ℕ) : Type 0 where
  pub number : ℕ
  pub says : (text ≡ codes "claim " ++ decimal number) ⊎ (text ≡ codes "claim " ++ decimal number ++ codes " sharp")
  pub outside : IsNotDerivable bytes number

-- The promise.
pub record NotDerivableIsMeant (bytes put : List ℕ) : Type 0 where
  pub not_derivable : (number : ℕ) (text : List ℕ) → number < number_limit → HasLine put (claim_line number (codes "not derivable " ++ text)) → IsNotDerivable bytes number
  pub closed : (block : ℕ) (text : List ℕ) → HasLine put (block_line block (codes "closed " ++ text)) → SaysClosed bytes text
