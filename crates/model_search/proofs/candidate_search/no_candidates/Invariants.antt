use Rattle.model_search.proofs.Prelude.{◌≡◌, replicate, None}
use Rattle.model_search.proofs.candidate_search.no_candidates.Given as goal

abbrev pub invariant-loop : goal.invariant-loop
invariant-loop l = l.found.items ≡ replicate l.counter None
