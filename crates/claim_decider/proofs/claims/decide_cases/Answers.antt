use Rattle.claim_decider.proofs.Prelude.{rules, ◌≡◌, subst, AllZip, Setting, setting_of, IsRunState, state_of, AreOutcomesOf, IsLastRound, polynomials_in, Gives}
use Rattle.claim_decider.proofs.StepsTaken.{outcomes_of_all}
use Rattle.claim_decider.proofs.claims.decide_cases.Goals as goal

pub returns-clause-outcomes : goal.returns-clause-outcomes
returns-clause-outcomes g c =
    let problem = c.args.problem.now in
    let setting : Setting = setting_of problem c.args.completion.now.budget in
    let completion = c.settle.new.completion in
    let cases = c.settle.new.cases.items in
    let told = c.in_ok-settle.ensures in
    let gives : AllZip Gives cases c.in_ok-outcomes.outcomes = search rules in
    subst (λ numbers. AreOutcomesOf setting c.args.format problem numbers c.in_ok-outcomes.outcomes) told.numbers
    (outcomes_of_all setting c.args.format problem completion.rounds (state_of completion) cases c.in_ok-outcomes.outcomes told.cases gives)

pub returns-clause-rules : goal.returns-clause-rules
returns-clause-rules g c =
    let problem = c.args.problem.now in
    let setting : Setting = setting_of problem c.args.completion.now.budget in
    let completion = c.settle.new.completion in
    let told = c.in_ok-settle.ensures in
    let polys : c.in_ok-rules.rules ≡ polynomials_in completion.rules.rules = search rules in
    record {
      rounds = completion.rounds;
      state = state_of completion;
      last = subst (λ numbers. IsLastRound setting c.args.format problem numbers completion.rounds) told.numbers told.last;
      run = subst (λ b. IsRunState (setting_of problem b) completion.rounds (state_of completion)) told.budget told.of_problem.run;
      are = polys;
    }
