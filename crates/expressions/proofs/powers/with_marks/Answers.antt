use Rattle.expressions.proofs.Prelude.{rules, ◌≡◌, ◌+◌, drop, get_or, sym, ap, ◌∙◌, get_or_default, drop_next, quiver_of, Adjoint, due_poly, due_marked, marked_poly, ◌>>=◌}
use Rattle.expressions.proofs.TwoAdjoints.{due-next}
use Rattle.expressions.proofs.powers.with_marks.Goals as goal

pub loop-mark-preserved : goal.loop-mark-preserved
loop-mark-preserved c =
    let q = quiver_of c.args.quiver.now in
    let marks = c.args.marks.now in
    let place = c.loop-mark.mark-index in
    let mark = get_or marks place Adjoint in
    let made : due_poly q c.in_ok-marked.marked ≡ due_marked q c.loop-mark.marked mark = search rules in
    let here = drop_next marks place mark c.loop-mark-test.true (get_or_default marks place Adjoint mark c.loop-mark-test.true) in
    record {
      rest =
          due-next q c.loop-mark.marked c.in_ok-marked.marked mark (drop (place + 1) marks) made
          ∙ ap (λ ms. due_poly q c.loop-mark.marked >>= marked_poly q ms) (sym here)
          ∙ c.loop-mark.invariant.rest;
      letters = search rules;
    }
