use Rattle.equation_chain.proofs.Prelude.{StepsPass, IsMaking}
use Rattle.equation_chain.proofs.chain.made_chain.Given as goal

-- the chain after the rows so far, whose steps pass
abbrev pub invariant-loop-place : goal.invariant-loop-place
invariant-loop-place l = record { making : IsMaking l.problem l.certificate l.place l.making; passed : StepsPass l.problem l.certificate l.place }
