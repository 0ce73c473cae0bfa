use Rattle.model_search.proofs.Prelude.{◌+◌, length}
use Rattle.model_search.proofs.SearchSteps.{AreNoted}
use Rattle.model_search.proofs.candidate_search.note.Given as goal

-- the claims so far are searched up to the candidate, and the others have what they had
abbrev pub invariant-loop-place : goal.invariant-loop-place
invariant-loop-place l = AreNoted l.pass.problem.now l.pass.seed l.pass.plan.now.number (l.first + length l.answers) l.pass.claims.now l.initial.found l.found
    l.place
