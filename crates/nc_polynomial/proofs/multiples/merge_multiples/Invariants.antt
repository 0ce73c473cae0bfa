use Rattle.nc_polynomial.proofs.Prelude.{length, ◌≡◌, ◌+◌, aligned}
use Rattle.nc_polynomial.proofs.Checked.{join, total_from}
use Rattle.nc_polynomial.proofs.AlignedMultiples.{AreInRange, multiplied_pairs}
use Rattle.nc_polynomial.proofs.multiples.merge_multiples.Given as goal

abbrev pub invariant-loop-next : goal.invariant-loop-next
invariant-loop-next l = record {
  in_range : AreInRange (multiplied_pairs l.a l.b (aligned l.left l.right));
  same : join l.sum (total_from (multiplied_pairs l.a l.b (aligned l.left l.right))) ≡ total_from (multiplied_pairs l.a l.b (aligned l.p l.q));
}

abbrev pub decreases-loop-next : goal.decreases-loop-next
decreases-loop-next l = length l.left + length l.right
