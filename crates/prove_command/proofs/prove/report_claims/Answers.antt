use Rattle.prove_command.proofs.Prelude.{◌≡◌, ◌∙◌, List, ap, rules, Poly, Problem, Verdict, status_of, memory_ends, print_of, AnswersClaims}
use Rattle.prove_command.proofs.prove.report_claims.Goals as goal

-- memory is short for the verdicts
pub returns-in_err-said : goal.returns-in_err-said
returns-in_err-said g c =
    memory_ends (AnswersClaims (print_of c.args.extent) c.args.asked c.args.problem.now) c.from_residual.result c.from_residual.ensures.0 c.from_residual.ensures.1

-- or for the text
pub returns-in_err-text : goal.returns-in_err-text
returns-in_err-text g c =
    memory_ends (AnswersClaims (print_of c.args.extent) c.args.asked c.args.problem.now)
    c.from_residual-in_err-text.result c.from_residual-in_err-text.ensures.0 c.from_residual-in_err-text.ensures.1

-- all verdicts are printed
pub returns : goal.returns
returns g c =
    let problem : Problem = c.args.problem.now in
    let verdicts : List Verdict = c.in_ok-said.said.verdicts in
    let rules_of : List Poly = c.in_ok-said.said.rules in
    let verdicts_are : c.as_slice-verdicts.result.now ≡ verdicts = search rules in
    let rules_are : c.as_slice-rules.result.now ≡ rules_of = search rules in
    let status : c.status_of.result ≡ status_of verdicts = c.status_of.ensures ∙ ap status_of verdicts_are in
    let text : c.in_ok-text.text.items ≡ print_of c.args.extent problem.parts.quiver rules_of verdicts =
    c.in_ok-text.ensures ∙ (λ i. print_of c.args.extent problem.parts.quiver (rules_are i) (verdicts_are i)) in
    record {
      verdicts = verdicts;
      rules = rules_of;
      decides = c.in_ok-said.ensures.decides;
      says = c.decided.ensures ∙ (λ i. record { status = status i; report = text i });
    }
