use Rattle.claim_decider.proofs.Prelude.{rules, ◌≡◌, ◌≤◌, inr, suc, sym, ap, subst, ◌∙◌, arith, All, AllZip, Budget, Setting, setting_of, IsRound, IsUnchangedAfter, state_of, outcome_of, rounds_after, Case, IsNumber, IsOfProblem, IsSettled, Follows}
use Rattle.claim_decider.proofs.CaseLists.{AllZip-kept, AllZip-same_map}
use Rattle.claim_decider.proofs.StepsTaken.{Steps, step_taken, cases_next, late_next, find_open, smaller, last_round}
use Rattle.claim_decider.proofs.claims.settle.Goals as goal

-- where a claim is open, fewer rounds are left
pub loop-alloc-smaller : goal.loop-alloc-smaller
loop-alloc-smaller g c =
    let old = c.loop-alloc.completion in
    let new = c.round.new.self in
    let step = c.in_ok-step.step in
    let olds = c.loop-alloc.cases.items in
    let news = c.follow_all.new.cases.items in
    let same : old.budget ≡ c.args.completion.now.budget = c.loop-alloc.invariant.budget in
    let pairs : old.budget.pairs ≡ c.args.completion.now.budget.pairs = ap (λ (b : Budget). b.pairs) same in
    let few : old.rounds ≤ suc c.args.completion.now.budget.pairs = omega (arith, pairs, c.loop-alloc.invariant.of_problem.few_rounds, c.loop-alloc.invariant.of_problem.few_treated) in
    let yet : All IsSettled olds → ⊥ = search rules in
    let zipped : AllZip (Follows c.args.format c.args.problem.now new step) olds news = search rules in
    let rounds_are : new.rounds ≡ rounds_after step old.rounds = search rules in
    smaller c.args.format c.args.problem.now new step old.rounds c.args.completion.now.budget.pairs olds news zipped yet few rounds_are

pub loop-alloc-preserved : goal.loop-alloc-preserved
loop-alloc-preserved g c =
    let problem = c.args.problem.now in
    let form = c.args.format in
    let setting : Setting = setting_of problem c.args.completion.now.budget in
    let old = c.loop-alloc.completion in
    let new = c.round.new.self in
    let step = c.in_ok-step.step in
    let olds = c.loop-alloc.cases.items in
    let news = c.follow_all.new.cases.items in
    let old_budget : old.budget ≡ c.args.completion.now.budget = c.loop-alloc.invariant.budget in
    let kept_budget : new.budget ≡ old.budget = search rules in
    let new_budget : new.budget ≡ c.args.completion.now.budget = kept_budget ∙ old_budget in
    let same : setting_of problem new.budget ≡ setting = ap (setting_of problem) new_budget in
    let made : IsRound (setting_of problem old.budget) old.rounds (state_of old) (outcome_of step (state_of new)) = search rules in
    let round : IsRound setting old.rounds (state_of old) (outcome_of step (state_of new)) =
    subst (λ b. IsRound (setting_of problem b) old.rounds (state_of old) (outcome_of step (state_of new))) old_budget made in
    let rounds_are : new.rounds ≡ rounds_after step old.rounds = search rules in
    let unchanged : IsUnchangedAfter step old new = search rules in
    let steps : Steps setting step old.rounds new.rounds (state_of old) (state_of new) = step_taken setting step old new round rounds_are unchanged in
    let yet : All IsSettled olds → ⊥ = search rules in
    let zipped : AllZip (Follows form problem new step) olds news = search rules in
    let one = find_open olds yet in
    record {
      of_problem = search rules;
      budget = new_budget;
      numbers = AllZip-same_map (λ (x : Case). x.number) (Follows form problem new step) olds news (λ x y follows. follows.same) zipped ∙ c.loop-alloc.invariant.numbers;
      named = AllZip-kept (IsOfProblem problem) (IsOfProblem problem) (Follows form problem new step) olds news (λ x y is follows. subst (IsNumber problem) (sym follows.same) is)
          c.loop-alloc.invariant.named zipped;
      cases = cases_next setting form problem new step same old.rounds (state_of old) steps olds news c.loop-alloc.invariant.cases zipped;
      needed = inr (late_next setting form problem new step same old.rounds (state_of old) steps olds news c.loop-alloc.invariant.cases zipped one);
    }

pub returns-clause-last : goal.returns-clause-last
returns-clause-last g c =
    let problem = c.args.problem.now in
    let setting : Setting = setting_of problem c.args.completion.now.budget in
    let here = c.loop-alloc in
    let settled : All IsSettled here.cases.items = search rules in
    last_round setting c.args.format problem here.completion.rounds (state_of here.completion) here.cases.items here.invariant.cases settled here.invariant.needed
