use Rattle.model_search.proofs.Prelude.{AreUnbroken}
use Rattle.model_search.proofs.candidate_search.first_broken.Given as goal

-- by the answers that were passed the claim isn't broken
abbrev pub invariant-loop-number : goal.invariant-loop-number
invariant-loop-number l = AreUnbroken l.place l.number l.answers
