use Rattle.word_orders.proofs.Prelude.{◌≡◌, ◌≤◌, ◌*◌, take, sum_by, weight_limit, weight_in}
use Rattle.word_orders.proofs.weight.WeightLex.sum.Given as goal

abbrev pub invariant-loop-place : goal.invariant-loop-place
invariant-loop-place l = record {
  sum : l.sum ≡ sum_by (weight_in l.self) (take l.place l.word);
  small : l.sum ≤ l.place * weight_limit;
}
