use Rattle.traced_completion.proofs.Prelude.{◌≡◌, ◌++◌, take}
use Rattle.traced_completion.proofs.rounds.push_treated.Given as goal

abbrev pub invariant-loop-which : goal.invariant-loop-which
invariant-loop-which l = l.treated ≡ l.fn.treated ++ take l.which-index l.taken
