use Rattle.traced_completion.proofs.Prelude.{◌≡◌, ◌≤◌, ◌+◌, length, map, take, Result, All, into_iter_items, into_iter_len, ReduceFault, Recorded, second_work, InTurn, HasRecords, plain_first, IsKeptFirst}
use Rattle.traced_completion.proofs.passes.treat_all.Given as goal

-- how the works that are left end by the rules so far, all works end by the rules from before
abbrev pub invariant-loop-first : goal.invariant-loop-first
invariant-loop-first g l = record {
  left : into_iter_len l.first-iterator ≡ length (into_iter_items l.first-iterator);
  order : l.rules.order ≡ l.fn.rules.order;
  kept : All (λ f. IsKeptFirst (g.O.WordOrder.letters l.fn.rules.order) (length l.fn.rules.rules) (plain_first f)) (into_iter_items l.first-iterator);
  records : HasRecords (record { rules = l.rules.rules; made = l.made });
  most : length l.rules.rules + length (into_iter_items l.first-iterator) ≤ length l.fn.rules.rules + length l.fn.firsts;
  rules_front : take (length l.fn.rules.rules) l.rules.rules ≡ l.fn.rules.rules;
  made_front : take (length l.fn.made) l.made ≡ l.fn.made;
  goes_on : (result : Result Recorded ReduceFault)
      → InTurn (g.O.WordOrder.compare l.fn.rules.order) (map (second_work (g.O.WordOrder.compare l.fn.rules.order) l.steps) (map plain_first (into_iter_items l.first-iterator))) (record { rules = l.rules.rules; made = l.made }) result
      → InTurn (g.O.WordOrder.compare l.fn.rules.order) (map (second_work (g.O.WordOrder.compare l.fn.rules.order) l.steps) (map plain_first l.fn.firsts)) (record { rules = l.fn.rules.rules; made = l.fn.made }) result;
}
