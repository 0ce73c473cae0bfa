use Rattle.refute_command.proofs.Prelude.{◌≡◌, ◌∙◌, List, [], ap, rules, Problem, Verdict, report_of, status_of, AnswersSearch, memory_ends}
use Rattle.refute_command.proofs.refute.report_search.Goals as goal

-- memory is short for the text
pub returns-in_err-report : goal.returns-in_err-report
returns-in_err-report g c = memory_ends (AnswersSearch c.args.seed c.args.problem.now) c.from_residual-in_err-report.result c.from_residual-in_err-report.ensures.0 c.from_residual-in_err-report.ensures.1

-- the report of all verdicts
pub returns : goal.returns
returns g c =
    let problem : Problem = c.args.problem.now in
    let verdicts : List Verdict = c.in_ok-verdicts.verdicts in
    let verdicts_are : c.as_slice-verdicts.result.now ≡ verdicts = search rules in
    let status : c.status_of.result ≡ status_of verdicts = c.status_of.ensures ∙ ap status_of verdicts_are in
    let report : c.in_ok-report.report.items ≡ report_of problem.parts.quiver [] verdicts = c.in_ok-report.ensures ∙ ap (report_of problem.parts.quiver []) verdicts_are in
    record {
      verdicts = verdicts;
      each = c.in_ok-verdicts.ensures.each;
      says = c.decided.ensures ∙ (λ i. record { status = status i; report = report i });
    }
