use Rattle.model_candidates.proofs.Prelude.{◌≡◌, length, map, range_with_len, Add, row_with}
use Rattle.model_candidates.proofs.factor_rows.add_rows.Given as goal

-- the equations of the places that were passed are added
abbrev pub invariant-loop-place : goal.invariant-loop-place
invariant-loop-place l = record {
  unknowns : length l.pivots.rows ≡ length l.initial.pivots.rows;
  modulus : l.pivots.modulus ≡ l.initial.pivots.modulus;
  added : Add (map (row_with l.fn.unknowns l.value l.terms) (range_with_len 0 l.place)) l.initial.pivots l.pivots;
}
