use Rattle.claim_decider.proofs.Prelude.{IfOk, ap, subst, Setting, setting_of, AreOutcomesOf, AreLastRules, case_numbers}
use Rattle.claim_decider.proofs.claims.run.Goals as goal

pub returns-clause-outcomes : goal.returns-clause-outcomes
returns-clause-outcomes g c =
    let problem = c.args.problem.now in
    subst (λ (s : Setting). IfOk c.decide_cases.result (λ d. AreOutcomesOf s c.args.format problem (case_numbers c.args.cases.items) d.outcomes))
    (ap (setting_of problem) c.in_ok-completion.ensures.budget) c.decide_cases.ensures.outcomes

pub returns-clause-rules : goal.returns-clause-rules
returns-clause-rules g c =
    let problem = c.args.problem.now in
    subst (λ (s : Setting). IfOk c.decide_cases.result (λ d. AreLastRules s c.args.format problem (case_numbers c.args.cases.items) d.rules))
    (ap (setting_of problem) c.in_ok-completion.ensures.budget) c.decide_cases.ensures.rules
