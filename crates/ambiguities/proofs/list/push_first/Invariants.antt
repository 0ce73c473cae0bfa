use Rattle.ambiguities.proofs.Prelude.{◌≤◌, IsGrown}
use Rattle.ambiguities.proofs.Numbered.{IsOfSeconds}
use Rattle.ambiguities.proofs.list.push_first.Given as goal

-- those with the second rules that were passed
abbrev pub invariant-loop-j : goal.invariant-loop-j
invariant-loop-j l = record {
  reached : l.least ≤ l.j;
  seconds : IsGrown (IsOfSeconds l.rules l.i l.least l.j) l.fn.found l.found;
}
