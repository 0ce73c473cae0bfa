-- The least candidate that breaks a claim.
use Rattle.std.specs.Prelude.{ℕ, Option, IfSome, IfNone}
use Rattle.matrix_models.specs.declared.model.Model.{Model}
use Rattle.adjoint_rules.specs.declared.problem.Problem.{Problem}
use Rattle.model_candidates.specs.Candidates.{IsLeastBreaking, NoneBreaks}
use Rattle.model_search.specs.declared.found.Found.{Found}

-- the least candidate of all shapes that breaks the claim
abbrev pub LeastBreaks : Problem → ℕ → ℕ → Model → Type 0
LeastBreaks problem claim seed m = (shape : ℕ) × (k : ℕ) × IsLeastBreaking problem claim seed shape k m

-- it is found, or none breaks the claim
abbrev pub IsFoundFor : Problem → ℕ → ℕ → Option Found → Type 0
IsFoundFor problem seed claim found = IfSome found (λ f. IsLeastBreaking problem claim seed f.shape f.candidate f.model)
    × IfNone found (NoneBreaks problem claim seed)
