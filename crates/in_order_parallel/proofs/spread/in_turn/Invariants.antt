use Rattle.in_order_parallel.proofs.Prelude.{take, AllZip}
use Rattle.in_order_parallel.proofs.spread.in_turn.Given as goal

-- the items so far have their answers
abbrev pub invariant-loop-place : goal.invariant-loop-place
invariant-loop-place g l = AllZip (g.J.Job.gives l.job) (take l.place l.items) l.answers.items
