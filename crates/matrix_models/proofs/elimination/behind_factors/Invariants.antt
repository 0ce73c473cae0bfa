use Rattle.matrix_models.proofs.Prelude.{◌≡◌, ◌<◌, ◌≤◌, ℕ, get_or}
use Rattle.matrix_models.proofs.elimination.behind_factors.Given as goal

-- the numbers that were passed are 0
abbrev pub invariant-loop-left : goal.invariant-loop-left
invariant-loop-left l = record {
  within : l.left ≤ l.fn.count;
  none : (k : ℕ) → l.left ≤ k → k < l.fn.count → get_or l.row k 0 ≡ 0;
}

abbrev pub decreases-loop-left : goal.decreases-loop-left
decreases-loop-left l = l.left
