use Rattle.command_shape.proofs.Judging.{GoesOn}
use Rattle.command_shape.proofs.judge.judge_blocks.Given as goal

-- the lines on the blocks before the place
abbrev pub invariant-loop-place : goal.invariant-loop-place
invariant-loop-place g l = GoesOn (g.J.Judge.accepts l.problem) (g.J.Judge.refuses l.problem) l.blocks l.place l.report.items
