use Rattle.model_search.proofs.Prelude.{◌≤◌, ◌-◌, AreSearchedTo}
use Rattle.model_search.proofs.candidate_search.search_shape.Given as goal

-- the candidates before this block are searched
abbrev pub invariant-loop-first : goal.invariant-loop-first
invariant-loop-first g l = record {
  within : l.first ≤ l.count;
  searched : AreSearchedTo l.pass.problem.now l.pass.seed l.pass.plan.now.number l.first l.pass.claims.now l.found.items;
}

abbrev pub decreases-loop-first : goal.decreases-loop-first
decreases-loop-first g l = l.count - l.first
