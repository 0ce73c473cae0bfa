use Rattle.closed_checker.proofs.Prelude.{take, drop, ListsExactly, IsAdded, StandsBefore}
use Rattle.closed_checker.proofs.Walking.{IsLonger, IsIncluded}
use Rattle.closed_checker.proofs.finding.push_place.Given as goal

-- the words that begin with the letters that were passed and are longer, and the inclusions of those that aren't
abbrev pub invariant-loop-depth : goal.invariant-loop-depth
invariant-loop-depth l = record {
  walked : ListsExactly StandsBefore (IsLonger l.table (take l.depth (drop l.place l.first.letters))) l.longer;
  added : IsAdded (IsIncluded l.table l.first l.place l.depth) l.fn.found l.found;
}
