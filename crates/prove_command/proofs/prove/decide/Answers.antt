use Rattle.prove_command.proofs.Prelude.{◌∙◌, length-range_with_len, AllZip-long, setting_of, IsOutcomeOf, claim_at, claim_numbers, last_rules_have_letters}
use Rattle.prove_command.proofs.Writing.{verdicts_over}
use Rattle.prove_command.proofs.prove.decide.Goals as goal

-- each claim has an outcome
pub verdicts_of-requires-clause-one_each : goal.verdicts_of-requires-clause-one_each
verdicts_of-requires-clause-one_each g c κs within =
    let problem = c.args.problem.now in
    let asked = c.args.asked in
    AllZip-long (λ n o. IsOutcomeOf (setting_of problem asked.budget) asked.form n (claim_at problem n) o) (claim_numbers problem) c.in_ok-decided.decided.outcomes c.in_ok-decided.ensures.outcomes
    ∙ length-range_with_len 1 _

pub returns-clause-verdicts : goal.returns-clause-verdicts
returns-clause-verdicts g c =
    let problem = c.args.problem.now in
    verdicts_over problem c.args.asked (claim_numbers problem) c.in_ok-decided.decided.outcomes c.in_ok-verdicts.verdicts c.in_ok-decided.ensures.outcomes c.in_ok-verdicts.ensures

pub returns-clause-rules : goal.returns-clause-rules
returns-clause-rules g c =
    let problem = c.args.problem.now in
    last_rules_have_letters problem c.args.asked.budget c.args.asked.form (claim_numbers problem) c.in_ok-decided.decided.rules c.in_ok-decided.ensures.rules
