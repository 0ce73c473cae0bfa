use Rattle.expressions.proofs.Prelude.{◌≡◌, ◌≤◌, ◌-◌, replicate, product_from, product_poly}
use Rattle.expressions.proofs.powers.power_of_sum.Given as goal

-- the factors that are left, after the power so far, make the whole power
abbrev pub invariant-loop : goal.invariant-loop
invariant-loop l = record {
  rest : product_from l.power.terms (replicate (l.factors - l.counter) l.base.terms) ≡ product_poly (replicate l.factors l.base.terms);
  begun : 1 ≤ l.counter;
}
