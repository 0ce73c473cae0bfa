use Rattle.round_tests.proofs.Prelude.{IsCompletionOf}
use Rattle.round_tests.proofs.rounds.tell_rounds.Given as goal

-- the completion is the problem's
abbrev pub invariant-loop : goal.invariant-loop
invariant-loop g l = IsCompletionOf l.problem l.completion
