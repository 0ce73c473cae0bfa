use Rattle.matrix_models.proofs.Prelude.{◌≡◌, replicate, None}
use Rattle.matrix_models.proofs.pivots.no_rows.Given as goal

abbrev pub invariant-loop : goal.invariant-loop
invariant-loop l = l.rows.items ≡ replicate l.counter None
