use Rattle.closed_checker.proofs.Prelude.{◌<◌, IsAdded, IsOfFirst}
use Rattle.closed_checker.proofs.finding.push_first.Given as goal

-- those at the places that were passed
abbrev pub invariant-loop-place : goal.invariant-loop-place
invariant-loop-place l = IsAdded (IsOfFirst l.table l.first (λ p. p < l.place)) l.fn.found l.found
