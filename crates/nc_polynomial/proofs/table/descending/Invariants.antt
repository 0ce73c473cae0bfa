use Rattle.nc_polynomial.proofs.Prelude.{◌≡◌, ◌++◌, [], btree_map_len, reversed}
use Rattle.nc_polynomial.proofs.table.descending.Given as goal

abbrev pub invariant-loop-word : goal.invariant-loop-word
invariant-loop-word l = l.terms ++ reversed l.table.entries [] ≡ reversed l.initial.table.entries []

abbrev pub decreases-loop-word : goal.decreases-loop-word
decreases-loop-word l = btree_map_len l.table
