use Rattle.cancel_rules.proofs.Prelude.{◌≡◌, ◌≤◌, All, length, quiver_of, polynomials, term_total, IsPolyOver}
use Rattle.cancel_rules.proofs.Steps.{ItemsUpTo}
use Rattle.cancel_rules.proofs.items.make_items.Given as goal

abbrev pub invariant-loop-item : goal.invariant-loop-item
invariant-loop-item l = record {
  made : length l.polynomials ≡ l.item-index;
  kept : l.kept ≡ term_total (polynomials l.polynomials);
  few : l.kept ≤ 1000000;
  letters : All (IsPolyOver l.problem.parts.quiver) l.polynomials;
  so_far : ItemsUpTo (quiver_of l.problem.parts.quiver) l.proof (polynomials l.problem.generators) (polynomials l.polynomials) l.items l.rows l.item-index;
}
