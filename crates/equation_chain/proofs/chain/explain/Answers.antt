use Rattle.equation_chain.proofs.Making.{explained_part, complete_part}
use Rattle.equation_chain.proofs.Letters.{writable_part}
use Rattle.equation_chain.proofs.chain.explain.Goals as goal

pub returns-clause-explained : goal.returns-clause-explained
returns-clause-explained c = explained_part c.args.problem.now c.args.certificate.now c.made_chain.result c.in_ok-check.ensures.accepts c.made_chain.ensures.passed

pub returns-clause-complete : goal.returns-clause-complete
returns-clause-complete c = complete_part c.args.problem.now c.args.certificate.now c.made_chain.result c.made_chain.ensures.fault

pub returns-clause-writable : goal.returns-clause-writable
returns-clause-writable c = writable_part c.args.problem.now c.args.certificate.now c.made_chain.result c.made_chain.ensures.chain
