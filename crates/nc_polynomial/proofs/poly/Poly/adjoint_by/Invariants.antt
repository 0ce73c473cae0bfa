use Rattle.nc_polynomial.proofs.Prelude.{◌≡◌, ◌≤◌, ℕ, List, take, IsOrdered, btree_map_len, coefficient_of, word_cmp, numbers_of, coefficient_in}
use Rattle.nc_polynomial.proofs.Adjoints.{adjoint_terms}
use Rattle.nc_polynomial.proofs.poly.Poly.adjoint_by.Given as goal

-- the table has the adjoints of the terms that were passed
abbrev pub invariant-loop-term : goal.invariant-loop-term
invariant-loop-term l = record {
  ordered : IsOrdered word_cmp l.table;
  few : btree_map_len l.table ≤ l.term-index;
  coefficients : (w : List ℕ) → coefficient_in l.table w ≡ coefficient_of (adjoint_terms (numbers_of l.stars) (take l.term-index l.self.terms)) w;
}
