use Rattle.cofactor_checker.proofs.Prelude.{◌≡◌, ◌+◌, map, polynomials}
use Rattle.cofactor_checker.proofs.RowSums.{SumsUpTo}
use Rattle.cofactor_checker.proofs.rows.add_rows.Given as goal

abbrev pub invariant-loop-row : goal.invariant-loop-row
invariant-loop-row g l = record {
  numbered : l.number ≡ l.before + l.row-index;
  sums : SumsUpTo (g.R.AnyRow.over (polynomials l.generators) (polynomials l.lemmas)) (map (g.R.AnyRow.plain (polynomials l.generators) (polynomials l.lemmas)) l.rows) l.sum l.row-index;
}
