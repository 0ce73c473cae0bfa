use Rattle.rule_reduce.proofs.Prelude.{◌<◌, ◌≤◌, length}
use Rattle.rule_reduce.proofs.LeadingPlaces.{IsBest}
use Rattle.rule_reduce.proofs.rule.leading_place.Given as goal

-- the best place so far, and the terms that are left
abbrev pub invariant-loop-place : goal.invariant-loop-place
invariant-loop-place g l = record {
  best_in : l.best < length l.terms;
  place_in : l.place ≤ length l.terms;
  best : IsBest (g.O.WordOrder.compare l.order) l.terms l.best l.place;
}
