use Rattle.equation_chain.proofs.Prelude.{rules, sym}
use Rattle.equation_chain.proofs.Numbered.{poly_named, poly_absent}
use Rattle.equation_chain.proofs.Typed.{empty_is_none}
use Rattle.equation_chain.proofs.step.is_row_step.Goals as goal

pub is_step-requires : goal.is_step-requires
is_step-requires c = poly_named c.args.problem.now.generators c.args.row.now.generator c.in-Some.generator.now (search rules) (search rules)

pub returns-in-None : goal.returns-in-None
returns-in-None c = sym (empty_is_none c.args.problem.now c.args.claim c.args.row.now (poly_absent c.args.problem.now.generators c.args.row.now.generator (search rules)))
