use Rattle.traced_completion.proofs.Prelude.{◌≡◌, ◌≤◌, ◌+◌, length, map, take, drop, Result, ReduceFault, polynomials, Recorded, generator_work, InTurn, units_first, HasRecords}
use Rattle.traced_completion.proofs.generators.reduce_generators.Given as goal

-- how the works that are left end by the rules so far, all works end by the rules from before
abbrev pub invariant-loop-turn : goal.invariant-loop-turn
invariant-loop-turn g l = record {
  order : l.rules.order ≡ l.fn.rules.order;
  records : HasRecords (record { rules = l.rules.rules; made = l.made });
  most : length l.rules.rules ≤ length l.fn.rules.rules + l.turn;
  rules_front : take (length l.fn.rules.rules) l.rules.rules ≡ l.fn.rules.rules;
  made_front : take (length l.fn.made) l.made ≡ l.fn.made;
  goes_on : (result : Result Recorded ReduceFault)
      → InTurn (g.O.WordOrder.compare l.fn.rules.order) (map (generator_work (g.O.WordOrder.compare l.fn.rules.order) l.steps (polynomials l.generators)) (drop l.turn (units_first l.units (length l.generators))))
      (record { rules = l.rules.rules; made = l.made }) result
      → InTurn (g.O.WordOrder.compare l.fn.rules.order) (map (generator_work (g.O.WordOrder.compare l.fn.rules.order) l.steps (polynomials l.generators)) (units_first l.units (length l.generators)))
      (record { rules = l.fn.rules.rules; made = l.fn.made }) result;
}
