use Rattle.closed_checker.proofs.Prelude.{[], take, IsAdded, IsOfFirsts}
use Rattle.closed_checker.proofs.finding.find_all.Given as goal

-- those of the first words that were passed
abbrev pub invariant-loop-first : goal.invariant-loop-first
invariant-loop-first l = IsAdded (IsOfFirsts l.table (take l.first-index l.table)) [] l.found
