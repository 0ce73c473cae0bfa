use Rattle.closed_checker.proofs.Prelude.{take, IsAdded, IsWith}
use Rattle.closed_checker.proofs.finding.push_all.Given as goal

-- those with the words that were passed
abbrev pub invariant-loop-second : goal.invariant-loop-second
invariant-loop-second l = IsAdded (IsWith (take l.second-index l.seconds) l.first l.kind l.place) l.fn.found l.found
