use Rattle.command_runs.proofs.Prelude.{sym, subst, Problem, Call, report_of, Asked, AnswersOver, asked_by, AnswersClaims, EndsAs}
use Rattle.command_runs.proofs.answers.answer_problem.Goals as goal

pub returns-in-Prove : goal.returns-in-Prove
returns-in-Prove g c =
    let problem : Problem = c.args.problem.now in
    let ends : EndsAs (AnswersClaims report_of (asked_by c.in-Prove.call) problem) c.report_claims.result =
    subst (λ (asked : Asked). EndsAs (AnswersClaims report_of asked problem) c.report_claims.result) c.asked_by-asked.ensures c.report_claims.ensures in
    subst (λ (call : Call). EndsAs (AnswersOver call c.args.evidence.now problem) c.report_claims.result) (sym c.in-Prove.is) ends

pub returns-in-Refute : goal.returns-in-Refute
returns-in-Refute g c = subst (λ (call : Call). EndsAs (AnswersOver call c.args.evidence.now c.args.problem.now) c.report_search.result) (sym c.in-Refute.is) c.report_search.ensures

pub returns-in-Bench : goal.returns-in-Bench
returns-in-Bench g c =
    subst (λ (call : Call). EndsAs (AnswersOver call c.args.evidence.now c.args.problem.now) c.report_claims-in-Bench.result)
    (sym c.in-Bench.is) c.report_claims-in-Bench.ensures
