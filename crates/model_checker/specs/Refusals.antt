-- The first test that a model fails for its claim.
use Rattle.std.specs.Prelude.{◌≡◌, ⊤, ℕ, ◌+◌, ◌<◌, take, Some, None, length}
use Rattle.std.specs.List.{AllByRecursion}
use Rattle.definitions.specs.Combination.{generator_at}
use Rattle.definitions.specs.Quiver.{Quiver}
use Rattle.quiver.specs.Declarations.{quiver_of}
use Rattle.matrix_models.specs.Matrix.{Matrix}
use Rattle.matrix_models.specs.declared.model.Model.{Model}
use Rattle.adjoint_rules.specs.declared.problem.Problem.{Problem}
use Rattle.model_checker.specs.declared.refusal.ModelRefusal.{ModelRefusal}
use Rattle.model_checker.specs.declared.refusal.ModelRefusal.TheVariants as refusal
use Rattle.model_checker.specs.Models.{IsMap, HasEnds, IsSelfTransposed, HaveMatrices, IsClaimNumber, IsZeroIn, assumptions_of}
use Rattle.model_checker.specs.Representations.{map_at}
use Rattle.model_checker.specs.Models.{claim_polynomial, IsFitting, MakesAssumptionsZero}
pub use Rattle.model_checker.specs.Memory.{IsMemory}

-- The declared maps before this one have their matrices.
pub record IsAtMap (q : Quiver) (m : Model) (a : ℕ) : Type 0 where
  pub map : IsMap q a
  pub earlier : HaveMatrices q m a

-- it has no matrix
pub record LacksMatrix (q : Quiver) (m : Model) (a : ℕ) : Type 0 where
  pub at : IsAtMap q m a
  pub none : map_at m a ≡ None

-- its matrix has another modulus, or other sides
pub record HasOtherEnds (q : Quiver) (m : Model) (a : ℕ) : Type 0 where
  pub at : IsAtMap q m a
  pub matrix : Matrix
  pub there : map_at m a ≡ Some matrix
  pub other : HasEnds q m a matrix → ⊥

-- it is declared as its own adjoint, and its matrix isn't its own transpose
pub record IsNotSelfTransposed (q : Quiver) (m : Model) (a : ℕ) : Type 0 where
  pub at : IsAtMap q m a
  pub matrix : Matrix
  pub there : map_at m a ≡ Some matrix
  pub ends : HasEnds q m a matrix
  pub other : IsSelfTransposed q m a matrix → ⊥

-- The first declared map that lacks its matrix, with the test that fails.
abbrev pub RefusesMap : Quiver → Model → ModelRefusal → Type 0
RefusesMap q m (refusal.MissingMap letter) = LacksMatrix q m letter.0
RefusesMap q m (refusal.BadShape letter) = HasOtherEnds q m letter.0
RefusesMap q m (refusal.NotSymmetric letter) = IsNotSelfTransposed q m letter.0
RefusesMap q m (refusal.Memory failed) = ⊤
RefusesMap q m refusal.NoSuchClaim = ⊥
RefusesMap q m (refusal.NotZero number) = ⊥
RefusesMap q m refusal.ClaimZero = ⊥

-- The assumption with this number, counted from 1, is the first that isn't zero.
pub record IsFirstNotZero (problem : Problem) (m : Model) (number : ℕ) : Type 0 where
  pub before : ℕ
  pub numbered : number ≡ before + 1
  pub inside : before < length (assumptions_of problem)
  pub earlier : AllByRecursion (IsZeroIn problem m) (take before (assumptions_of problem))
  pub other : IsZeroIn problem m (generator_at (assumptions_of problem) number) → ⊥

-- the assumptions are zero, and the claim is zero too
pub record MakesClaimZero (problem : Problem) (m : Model) : Type 0 where
  pub assumptions : MakesAssumptionsZero problem m
  pub claim : IsZeroIn problem m (claim_polynomial problem m.claim)

-- a claim is named, and its map is refused
abbrev pub RefusesItsMap : Problem → Model → ModelRefusal → Type 0
RefusesItsMap problem m e = IsClaimNumber problem m.claim × RefusesMap (quiver_of problem.parts.quiver) m e

-- Each refusal is that of the first test that fails, and want of memory can come at any time.
abbrev pub RefusesModel : Problem → Model → ModelRefusal → Type 0
RefusesModel problem m refusal.NoSuchClaim = IsClaimNumber problem m.claim → ⊥
RefusesModel problem m (refusal.MissingMap letter) = RefusesItsMap problem m (refusal.MissingMap letter)
RefusesModel problem m (refusal.BadShape letter) = RefusesItsMap problem m (refusal.BadShape letter)
RefusesModel problem m (refusal.NotSymmetric letter) = RefusesItsMap problem m (refusal.NotSymmetric letter)
RefusesModel problem m (refusal.NotZero number) = IsFitting problem m × IsFirstNotZero problem m number
RefusesModel problem m refusal.ClaimZero = MakesClaimZero problem m
RefusesModel problem m (refusal.Memory failed) = ⊤
