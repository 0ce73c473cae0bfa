-- What the linear equations are that drawn entries leave for those that are solved for, for private functions.
use Rattle.std.specs.Prelude.{ℕ, Bool, List}
use Rattle.matrix_models.specs.declared.system.System.{System}
use Rattle.adjoint_rules.specs.declared.parts.Shape.{Shape}
use Rattle.adjoint_rules.specs.declared.problem.Problem.{Problem}
use Rattle.quiver.specs.Declarations.{quiver_of}
use Rattle.model_candidates.specs.declared.plan.LinearAssumption.{LinearAssumption}
use Rattle.model_candidates.specs.Candidates.{model_by}
use Rattle.model_candidates.specs.Factors.{system_in}
use Rattle.model_candidates.specs.Unknowns.{set_count, filled, unit_values}

-- The equations that the drawn values leave: those in the model where each entry that is solved for is 0.
abbrev pub system_for : Problem → Shape → List Bool → List LinearAssumption → List ℕ → System
system_for problem s solved gs drawn =
    let n = set_count solved in
    system_in problem s (model_by (quiver_of problem.parts.quiver) s 0 (filled solved drawn (unit_values n n))) n gs
