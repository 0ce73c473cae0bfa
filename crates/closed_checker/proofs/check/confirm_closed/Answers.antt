use Rattle.closed_checker.proofs.Prelude.{rules, IsClosedBasis}
use Rattle.closed_checker.proofs.ClosedMeaning.{closed_bases_mean_outside}
use Rattle.closed_checker.proofs.Judged.{complete}
use Rattle.closed_checker.proofs.check.confirm_closed.Goals as goal

pub returns-clause-means : goal.returns-clause-means
returns-clause-means c =
    let closed : IsClosedBasis c.args.problem.now c.args.basis.now = search rules in
    closed_bases_mean_outside c.args.problem.now c.args.basis.now c.requires closed

pub returns-in_err-reduce_generators-clause-complete : goal.returns-in_err-reduce_generators-clause-complete
returns-in_err-reduce_generators-clause-complete c =
    complete c.args.problem.now c.args.basis.now c.from_residual-in_err-reduce_generators.result (search rules)

pub returns-in_err-reduce_ambiguities-clause-complete : goal.returns-in_err-reduce_ambiguities-clause-complete
returns-in_err-reduce_ambiguities-clause-complete c =
    complete c.args.problem.now c.args.basis.now c.from_residual-in_err-reduce_ambiguities.result (search rules)

pub returns-in_err-compare_claim-clause-complete : goal.returns-in_err-compare_claim-clause-complete
returns-in_err-compare_claim-clause-complete c =
    complete c.args.problem.now c.args.basis.now c.from_residual-in_err-compare_claim.result (search rules)
