-- The results of a search for a breaking candidate, and what a breaking candidate is.
use Rattle.std.specs.Prelude.{◌≡◌, ◌⊎◌, ℕ, length}
use Rattle.quiver.specs.Declarations.{object_count, letter_count, quiver_of}
use Rattle.matrix_models.specs.declared.model.Model.{Model}
use Rattle.adjoint_rules.specs.declared.problem.Problem.{Problem}
use Rattle.model_checker.specs.Models.{IsModel, Refutes}
use Rattle.model_candidates.specs.Candidates.{Breaks, IsLeastBreaking, NoneBreaks}

-- At most one candidate is the least that breaks the claim.
abbrev pub LeastBreakingIsUnique : Type 0
LeastBreakingIsUnique =
    (problem : Problem) (claim seed number k number' k' : ℕ) (m m' : Model) → IsLeastBreaking problem claim seed number k m
    → IsLeastBreaking problem claim seed number' k' m'
    → (number ≡ number') × (k ≡ k') × (m ≡ m')

-- Where none breaks it, none is the least that does.
abbrev pub NoneBreaksLeavesNoLeast : Type 0
NoneBreaksLeavesNoLeast = (problem : Problem) (claim seed number k : ℕ) (m : Model) → NoneBreaks problem
    claim seed → IsLeastBreaking problem claim seed number k m → ⊥

-- Some candidate is the least that breaks the claim.
pub record HasLeastBreaking (problem : Problem) (claim seed : ℕ) : Type 0 where
  pub number : ℕ
  pub k : ℕ
  pub model : Model
  pub least : IsLeastBreaking problem claim seed number k model

-- Some is, or none breaks it.
abbrev pub EachSearchHasAnAnswer : Type 0
EachSearchHasAnAnswer = (problem : Problem) (claim seed : ℕ) → HasLeastBreaking problem claim seed ⊎ NoneBreaks problem claim seed

-- A model of this claim, with a side for each object and an entry for each letter, that refutes it.
pub record IsRefutingModel (problem : Problem) (claim : ℕ) (m : Model) : Type 0 where
  pub model : IsModel (quiver_of problem.parts.quiver) m
  pub sides : length m.sides ≡ object_count problem.parts.quiver
  pub maps : length m.maps ≡ letter_count problem.parts.quiver
  pub named : m.claim ≡ claim
  pub refutes : Refutes problem m

-- Each candidate that breaks the claim is one.
abbrev pub BreakingCandidatesRefute : Type 0
BreakingCandidatesRefute = (problem : Problem) (claim seed number k : ℕ) (m : Model) → Breaks problem
    claim seed number k m → IsRefutingModel problem claim m
