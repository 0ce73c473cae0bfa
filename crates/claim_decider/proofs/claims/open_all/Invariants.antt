use Rattle.claim_decider.proofs.Prelude.{◌≡◌, All, range_with_len, Budget, start, setting_of, IsCase, IsOfProblem, case_numbers}
use Rattle.claim_decider.proofs.claims.open_all.Given as goal

-- the first claims are opened
abbrev pub invariant-loop-place : goal.invariant-loop-place
invariant-loop-place l = record {
  numbers : case_numbers l.cases.items ≡ range_with_len 1 l.place;
  named : All (IsOfProblem l.problem) l.cases.items;
  cases : (budget : Budget) → All (IsCase (setting_of l.problem budget) l.format l.problem 0 start) l.cases.items;
}
