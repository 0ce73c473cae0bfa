use Rattle.nc_polynomial.proofs.Prelude.{length, ◌≡◌, ◌+◌, All, IsCoefficient, aligned}
use Rattle.nc_polynomial.proofs.Checked.{join, total_from}
use Rattle.nc_polynomial.proofs.terms.merge_terms.Given as goal

abbrev pub invariant-loop-x : goal.invariant-loop-x
invariant-loop-x l = record {
  left_in : All (λ t. IsCoefficient t.0) l.left.items;
  right_in : All (λ t. IsCoefficient t.0) l.right.items;
  same : join l.sum (total_from (aligned l.left.items l.right.items)) ≡ total_from (aligned l.fn.p l.fn.q);
}

abbrev pub decreases-loop-x : goal.decreases-loop-x
decreases-loop-x l = length l.left.items + length l.right.items
