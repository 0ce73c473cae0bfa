use Rattle.command_runs.proofs.Prelude.{◌≡◌, Err, rules, AnswersOver, refused_statement_ends, stated_ends}
use Rattle.command_runs.proofs.answers.answer_over.Goals as goal

-- the statement is refused
pub returns-in_err-problem : goal.returns-in_err-problem
returns-in_err-problem g c =
    let stop = c.in_err-problem.field-0.0 in
    let back : c.from_residual.result ≡ Err stop = search rules in
    refused_statement_ends c.args.statement.now (AnswersOver c.args.call.now c.args.evidence.now) c.from_residual.result stop back c.in_err-problem.ensures.stopped

-- it has a problem
pub returns : goal.returns
returns g c = stated_ends c.args.statement.now (AnswersOver c.args.call.now c.args.evidence.now) c.in_ok-problem.problem c.answer_problem.result c.in_ok-problem.ensures.stated c.answer_problem.ensures
