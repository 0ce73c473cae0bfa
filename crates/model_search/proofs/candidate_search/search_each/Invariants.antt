use Rattle.model_search.proofs.Prelude.{◌+◌, AreSearchedTo}
use Rattle.model_search.proofs.candidate_search.search_each.Given as goal

-- the shapes that were passed are searched
abbrev pub invariant-loop-place : goal.invariant-loop-place
invariant-loop-place g l = AreSearchedTo l.problem l.seed (l.place + 1) 0 l.claims l.found.items
