use Rattle.equation_chain.proofs.Prelude.{rules}
use Rattle.equation_chain.proofs.Numbered.{ends_named, ends_absent}
use Rattle.equation_chain.proofs.step.claim_ends.Goals as goal

pub returns-in-Some : goal.returns-in-Some
returns-in-Some c = ends_named c.args.problem.now c.args.claim c.in-Some.ends.now (search rules) (search rules)

pub returns-in-None : goal.returns-in-None
returns-in-None c = ends_absent c.args.problem.now c.args.claim (search rules)
