use Rattle.model_candidates.proofs.Prelude.{◌≡◌, ◌≤◌, ◌*◌, take, sum_by, quiver_of, exhaustive_limit, candidate_count}
use Rattle.model_candidates.proofs.candidate_count.all_candidates.Given as goal

-- the candidates of the shapes that were passed
abbrev pub invariant-loop-shape : goal.invariant-loop-shape
invariant-loop-shape l = record {
  exact : l.total ≡ sum_by (candidate_count (quiver_of l.problem.parts.quiver)) (take l.shape-index l.problem.parts.shapes);
  few : l.total ≤ exhaustive_limit * l.shape-index;
}
