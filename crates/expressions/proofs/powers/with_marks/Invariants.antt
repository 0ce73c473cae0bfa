use Rattle.expressions.proofs.Prelude.{◌≡◌, drop, All, IsOver, letter_count, quiver_of, due_poly, marked_poly, ◌>>=◌}
use Rattle.expressions.proofs.powers.with_marks.Given as goal

-- the marks that are left give the same
abbrev pub invariant-loop-mark : goal.invariant-loop-mark
invariant-loop-mark l = record {
  rest : (due_poly (quiver_of l.quiver) l.marked >>= marked_poly (quiver_of l.quiver) (drop l.mark-index l.marks)) ≡ marked_poly (quiver_of l.quiver) l.marks l.fn.poly.terms;
  letters : All (λ t. IsOver (letter_count l.quiver) t.1) l.marked.poly.terms;
}
