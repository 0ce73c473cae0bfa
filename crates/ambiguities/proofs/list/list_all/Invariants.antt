use Rattle.ambiguities.proofs.Prelude.{[], IsGrown}
use Rattle.ambiguities.proofs.Numbered.{IsUpTo}
use Rattle.ambiguities.proofs.list.list_all.Given as goal

-- those with the first rules that were passed
abbrev pub invariant-loop-i : goal.invariant-loop-i
invariant-loop-i l = IsGrown (IsUpTo l.rules l.from l.i) [] l.found
