-- Which matrices for the declared maps are a model, and when they refute a claim.
use Rattle.std.specs.Prelude.{◌≡◌, ◌<◌, ◌≤◌, ℕ, List, length, Some}
use Rattle.std.specs.List.{All, AllByRecursion}
use Rattle.definitions.specs.Poly.{Poly}
use Rattle.definitions.specs.Quiver.{Quiver, letters, source, target, star}
use Rattle.definitions.specs.Combination.{generator_at}
use Rattle.definitions.specs.Soundness.{HasValueZero}
use Rattle.quiver.specs.Declarations.{quiver_of}
use Rattle.matrix_models.specs.Matrix.{Matrix, IsModulus, IsSide, IsMatrix}
use Rattle.matrix_models.specs.Matrices.{matrices, transpose}
use Rattle.matrix_models.specs.declared.model.Model.{Model}
use Rattle.adjoint_rules.specs.declared.problem.Problem.{Problem}
use Rattle.adjoint_rules.specs.Problem.{polynomials}
use Rattle.model_checker.specs.Representations.{side_of, map_at, representation_of}

-- a modulus, a side for each object, and an entry for each letter
pub record IsModel (q : Quiver) (m : Model) : Type 0 where
  pub modulus : IsModulus m.modulus
  pub side_of_each : length m.sides ≡ q.objects
  pub sides : All IsSide m.sides
  pub place_of_each : length m.maps ≡ letters q

-- the number is that of a declared map, and not of the adjoint of one
pub record IsMap (q : Quiver) (a : ℕ) : Type 0 where
  pub map : q.objects ≤ a
  pub letter : a < letters q
  pub declared : a ≤ star q a

-- The matrix is one modulo the modulus of the model, with the sides of the map's target and source. A `Matrix` is one modulo its own
-- modulus, so the two moduli are one.
pub record HasEnds (q : Quiver) (m : Model) (a : ℕ) (x : Matrix) : Type 0 where
  pub matrix : IsMatrix m.modulus x
  pub rows : x.rows ≡ side_of m (target q a)
  pub columns : x.columns ≡ side_of m (source q a)

-- the matrix of a map that is its own adjoint is its own transpose
pub record IsSelfTransposed (q : Quiver) (m : Model) (a : ℕ) (x : Matrix) : Type 0 where
  pub same : star q a ≡ a → transpose m.modulus x ≡ x

-- The map has a matrix, with its ends, which is its own transpose where the map is its own adjoint.
pub record HasMatrix (q : Quiver) (m : Model) (a : ℕ) : Type 0 where
  pub matrix : Matrix
  pub there : map_at m a ≡ Some matrix
  pub ends : HasEnds q m a matrix
  pub self_transposed : IsSelfTransposed q m a matrix

-- each declared map before this number has one
pub record HaveMatrices (q : Quiver) (m : Model) (count : ℕ) : Type 0 where
  pub each : (a : ℕ) → a < count → IsMap q a → HasMatrix q m a

-- the number of a claim
pub record IsClaimNumber (problem : Problem) (number : ℕ) : Type 0 where
  pub least : 1 ≤ number
  pub most : number ≤ length problem.parts.claims

-- the value in the model is the zero matrix
abbrev pub IsZeroIn : Problem → Model → Poly → Type 0
IsZeroIn problem m p = HasValueZero (matrices m.modulus) (quiver_of problem.parts.quiver) (representation_of (quiver_of problem.parts.quiver) m) p

-- the polynomials of the assumptions, and that of the claim
abbrev pub assumptions_of : Problem → List Poly
assumptions_of problem = polynomials problem.parts.assumptions

abbrev pub claim_polynomial : Problem → ℕ → Poly
claim_polynomial problem number = generator_at (polynomials problem.parts.claims) number

-- The model names a claim, and each declared map has its matrix.
pub record IsFitting (problem : Problem) (m : Model) : Type 0 where
  pub claim : IsClaimNumber problem m.claim
  pub maps : HaveMatrices (quiver_of problem.parts.quiver) m (letters (quiver_of problem.parts.quiver))

-- All assumptions are zero in it.
pub record MakesAssumptionsZero (problem : Problem) (m : Model) : Type 0 where
  pub fitting : IsFitting problem m
  pub zero : AllByRecursion (IsZeroIn problem m) (assumptions_of problem)

-- All assumptions are zero in it, and the claim isn't.
pub record Refutes (problem : Problem) (m : Model) : Type 0 where
  pub assumptions : MakesAssumptionsZero problem m
  pub claim : IsZeroIn problem m (claim_polynomial problem m.claim) → ⊥
