use Rattle.model_text.proofs.Prelude.{rules, arith, ◌≡◌, ◌<◌, ◌++◌, ◌∙◌, ap, get_or, length, get_or_default, side_text}
use Rattle.model_text.proofs.Ranges.{text_put}
use Rattle.model_text.proofs.write.put_sides.Goals as goal

pub loop-object-preserved : goal.loop-object-preserved
loop-object-preserved c =
    let within : c.loop-object.object < length c.args.sides.now = omega (arith, c.loop-object-test.true, c.objects-object-end.ensures.count, c.requires) in
    let same : get_or c.args.sides.now c.loop-object.object 0 ≡ get_or c.args.sides.now c.loop-object.object 1 = get_or_default c.args.sides.now c.loop-object.object 0 1 within in
    let put : c.put_side.new.out.items ≡ c.loop-object.out.items ++ side_text c.args.quiver.now c.loop-object.object (get_or c.args.sides.now c.loop-object.object 0) = search rules in
    text_put (λ v. side_text c.args.quiver.now v (get_or c.args.sides.now v 1)) c.loop-object.object c.args.out.now.items c.loop-object.out.items c.put_side.new.out.items c.loop-object.invariant
    (put ∙ ap (λ n. c.loop-object.out.items ++ side_text c.args.quiver.now c.loop-object.object n) same)
