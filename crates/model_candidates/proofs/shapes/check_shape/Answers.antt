use Rattle.model_candidates.proofs.Prelude.{◌<◌, ◌≤◌, take, length, get_or, refl, sym, ap, subst, arith, rules, All, take_all, take_more, All-push, IsSide}
use Rattle.model_candidates.proofs.shapes.check_shape.Goals as goal

pub loop-place-preserved : goal.loop-place-preserved
loop-place-preserved c =
    let sides = c.args.shape.now.sides in
    let k = c.loop-place.place in
    let inside : k < length sides = subst (λ xs. k < length xs) c.as_slice-side-items.ensures c.loop-place-test.true in
    let side : IsSide (get_or sides k 0) = search rules in
    subst (All IsSide) (sym (take_more sides k 0 inside)) (All-push IsSide (take k sides) _ c.loop-place.invariant side)

pub returns-clause-shape : goal.returns-clause-shape
returns-clause-shape c =
    let sides = c.args.shape.now.sides in
    let k = c.loop-place.place in
    let all : length sides ≤ k = omega (arith, ap length c.as_slice-side-items.ensures, c.loop-place-test.false) in
    record {
      modulus = search rules;
      side_of_each = refl;
      sides = subst (All IsSide) (take_all k sides all) c.loop-place.invariant;
    }
