-- The laws of models that refute a claim, and that each model has one outcome.
use Rattle.std.specs.Prelude.{◌≡◌, ◌⊎◌, ℕ, ℤ, ◌<◌, List}
use Rattle.std.specs.List.{AllByRecursion}
use Rattle.definitions.specs.Poly.{Poly}
use Rattle.definitions.specs.Quiver.{IsTyped}
use Rattle.definitions.specs.Representation.{StarRepresents, Cancels}
use Rattle.definitions.specs.Combination.{Row, IsCombination}
use Rattle.definitions.specs.Soundness.{HasValueZeroAt}
use Rattle.quiver.specs.Declarations.{object_count, quiver_of}
use Rattle.matrix_models.specs.Matrices.{matrices, transpose}
use Rattle.matrix_models.specs.declared.model.Model.{Model}
use Rattle.adjoint_rules.specs.declared.problem.Problem.{Problem}
use Rattle.adjoint_rules.specs.Problem.{polynomials}
use Rattle.model_checker.specs.declared.refusal.ModelRefusal.{ModelRefusal}
use Rattle.model_checker.specs.Models.{IsModel, IsZeroIn, assumptions_of, claim_polynomial, Refutes}
use Rattle.model_checker.specs.Representations.{representation_of}
use Rattle.model_checker.specs.Refusals.{RefusesModel, IsMemory}

-- The polynomial has a signature, and at this its value in the model isn't the zero matrix.
pub record HasOtherValue (problem : Problem) (m : Model) (p : Poly) : Type 0 where
  pub source : ℕ
  pub target : ℕ
  pub source_is_object : source < object_count problem.parts.quiver
  pub target_is_object : target < object_count problem.parts.quiver
  pub typed : IsTyped (quiver_of problem.parts.quiver) source target p
  pub other : HasValueZeroAt (matrices m.modulus) (quiver_of problem.parts.quiver) (representation_of (quiver_of problem.parts.quiver) m) source target p → ⊥

-- Matrices modulo the model's modulus, with transposes as adjoints: a representation in which all assumptions and generators are zero, and the claim isn't.
pub record IsCounterexample (problem : Problem) (m : Model) : Type 0 where
  pub represents : StarRepresents (matrices m.modulus) (transpose m.modulus) (quiver_of problem.parts.quiver)
      (representation_of (quiver_of problem.parts.quiver) m)
  pub assumptions : AllByRecursion (IsZeroIn problem m) (assumptions_of problem)
  pub generators : AllByRecursion (IsZeroIn problem m) (polynomials problem.generators)
  pub claim : HasOtherValue problem m (claim_polynomial problem m.claim)

-- A model that refutes its claim is one.
abbrev pub RefutingModelsAreCounterexamples : Type 0
RefutingModelsAreCounterexamples = (problem : Problem) (m : Model) → IsModel (quiver_of problem.parts.quiver) m → Refutes problem m → IsCounterexample problem m

-- The claim isn't the sum of rows over the generators, with a denominator that cancels in the matrices of the modulus.
abbrev pub RefutedClaimsDoNotFollow : Type 0
RefutedClaimsDoNotFollow =
    (problem : Problem) (m : Model) (rows : List Row) (d : ℤ) → IsModel (quiver_of problem.parts.quiver) m → Refutes problem m → Cancels (matrices m.modulus) d
    → IsCombination (polynomials problem.generators) rows d (claim_polynomial problem m.claim) → ⊥

-- A model has at most one refusal, apart from want of memory.
abbrev pub ModelRefusalIsUnique : Type 0
ModelRefusalIsUnique =
    (problem : Problem) (m : Model) (e f : ModelRefusal) → RefusesModel problem m e → RefusesModel problem m f → (IsMemory e → ⊥) → (IsMemory f → ⊥) → e ≡ f

-- A model that refutes its claim is refused only for want of memory.
abbrev pub RefutingModelIsNotRefused : Type 0
RefutingModelIsNotRefused = (problem : Problem) (m : Model) (e : ModelRefusal) → Refutes problem m → RefusesModel problem m e → IsMemory e

-- Each model refutes its claim, or one of the tests is the first that fails.
abbrev pub EachModelIsJudged : Type 0
EachModelIsJudged = (problem : Problem) (m : Model) → Refutes problem m ⊎ ((e : ModelRefusal) × RefusesModel problem m e × (IsMemory e → ⊥))
