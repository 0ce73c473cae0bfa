-- What it means that a claim is refuted by a model.
use Rattle.std.specs.Prelude.{◌≡◌, ℕ}
use Rattle.std.specs.List.{AllByRecursion}
use Rattle.definitions.specs.Representation.{StarRepresents}
use Rattle.quiver.specs.Declarations.{quiver_of}
use Rattle.matrix_models.specs.Matrices.{matrices, transpose}
use Rattle.matrix_models.specs.declared.model.Model.{Model}
use Rattle.adjoint_rules.specs.declared.problem.Problem.{Problem}
use Rattle.adjoint_rules.specs.Problem.{polynomials, generators_in}
use Rattle.model_checker.specs.Models.{IsZeroIn, claim_polynomial}
use Rattle.model_checker.specs.Representations.{representation_of}
use Rattle.model_checker.specs.Laws.{HasOtherValue}

-- What it means that the claim with this number is refuted by this model: matrices over the integers modulo its modulus, with transposes as adjoints.
pub record RefutedMeans (problem : Problem) (number : ℕ) (m : Model) : Type 0 where
  -- the model names the claim,
  pub names : m.claim ≡ number
  -- its matrices are a star representation of what the statement declares
  pub represents : StarRepresents (matrices m.modulus) (transpose m.modulus) (quiver_of problem.parts.quiver)
      (representation_of (quiver_of problem.parts.quiver) m)
  -- in which the assumptions of the statement have the value zero,
  pub assumptions : AllByRecursion (IsZeroIn problem m) (polynomials problem.parts.assumptions)
  -- and so have all its generators;
  pub generators : AllByRecursion (IsZeroIn problem m) (generators_in problem.parts)
  -- but the claim has a signature, and its value there is another matrix than zero
  pub claim : HasOtherValue problem m (claim_polynomial problem number)
