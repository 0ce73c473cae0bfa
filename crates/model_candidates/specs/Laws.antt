-- That each number has one candidate.
use Rattle.std.specs.Prelude.{◌≡◌, ℕ, Option}
use Rattle.matrix_models.specs.declared.model.Model.{Model}
use Rattle.adjoint_rules.specs.declared.parts.Shape.{Shape}
use Rattle.adjoint_rules.specs.declared.problem.Problem.{Problem}
use Rattle.model_candidates.specs.Candidates.{IsShapeOf, IsCandidate}

-- There is one at most for a shape, a seed and a number: a model, or that there is none.
abbrev pub CandidatesAreUnique : Type 0
CandidatesAreUnique = (problem : Problem) (number : ℕ) (s : Shape) (seed k : ℕ) (one other : Option Model)
    → IsCandidate problem number s seed k one → IsCandidate problem number s seed k other
    → one ≡ other

-- Where the problem has the shape, there is one.
abbrev pub EachNumberHasACandidate : Type 0
EachNumberHasACandidate = (problem : Problem) (number : ℕ) (s : Shape) (seed k : ℕ) → IsShapeOf problem number s
    → (candidate : Option Model) × IsCandidate problem number s seed k candidate
