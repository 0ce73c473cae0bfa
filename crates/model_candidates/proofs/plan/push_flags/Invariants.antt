use Rattle.model_candidates.proofs.Prelude.{◌≡◌, ◌++◌, replicate}
use Rattle.model_candidates.proofs.plan.push_flags.Given as goal

-- with the flags that were pushed
abbrev pub invariant-loop : goal.invariant-loop
invariant-loop l = l.flags ≡ l.initial.flags ++ replicate l.counter l.flag
