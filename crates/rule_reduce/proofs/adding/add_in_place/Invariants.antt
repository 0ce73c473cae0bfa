use Rattle.rule_reduce.proofs.Prelude.{◌≡◌, ◌<◌, ◌≤◌, length, drop, All, IsCoefficient, IsShaped, sum_from}
use Rattle.rule_reduce.proofs.adding.add_in_place.Given as goal

-- what is left to be added is added to the terms from the place on
abbrev pub invariant-loop-coefficient : goal.invariant-loop-coefficient
invariant-loop-coefficient l = record {
  in_range : l.place ≤ length l.terms.items;
  shaped : IsShaped (drop l.place l.terms.items);
  few : l.moves < 16;
  others_in : All (λ t. IsCoefficient t.0) l.others.items;
  same : sum_from 0 l.fn.terms.items l.fn.others.items ≡ sum_from l.place l.terms.items l.others.items;
}

abbrev pub decreases-loop-coefficient : goal.decreases-loop-coefficient
decreases-loop-coefficient l = length l.others.items
