use Rattle.claim_decider.proofs.Prelude.{◌≡◌, ◌⊎◌, All, setting_of, IsCompletionOf, state_of, IsOfProblem, IsCase, case_numbers}
use Rattle.claim_decider.proofs.StepsTaken.{LateOne, left_for}
use Rattle.claim_decider.proofs.claims.settle.Given as goal

-- the completion is the run's, the claims are the same, and each has its outcome or is open
abbrev pub invariant-loop-alloc : goal.invariant-loop-alloc
invariant-loop-alloc g l = record {
  of_problem : IsCompletionOf l.problem l.completion;
  budget : l.completion.budget ≡ l.initial.completion.budget;
  numbers : case_numbers l.cases.items ≡ case_numbers l.initial.cases.items;
  named : All (IsOfProblem l.problem) l.cases.items;
  cases : All (IsCase (setting_of l.problem l.initial.completion.budget) l.format l.problem l.completion.rounds (state_of l.completion)) l.cases.items;
  needed : (l.completion.rounds ≡ 0) ⊎ LateOne (setting_of l.problem l.initial.completion.budget) l.format l.problem l.cases.items l.completion.rounds (state_of l.completion);
}

-- each round after the first one treats an ambiguity, and a run that ends leaves no claim open
abbrev pub decreases-loop-alloc : goal.decreases-loop-alloc
decreases-loop-alloc g l = left_for l.cases.items l.completion.rounds l.initial.completion.budget.pairs
