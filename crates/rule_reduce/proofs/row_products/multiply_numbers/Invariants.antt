use Rattle.rule_reduce.proofs.Prelude.{◌≡◌, ◌*ℤ◌, ◌++◌, map, take, drop, All, IsCoefficient, first_overflow, products_by}
use Rattle.rule_reduce.proofs.row_products.multiply_numbers.Given as goal

abbrev pub invariant-loop-number : goal.invariant-loop-number
invariant-loop-number l = record {
  so_far : l.number-items ≡ map (λ z. z *ℤ l.by) (take l.number-index l.fn.numbers) ++ drop l.number-index l.fn.numbers;
  in_range : All IsCoefficient l.number-items;
  none_yet : first_overflow (products_by l.by l.fn.numbers) ≡ first_overflow (products_by l.by (drop l.number-index l.fn.numbers));
}
