use Rattle.statement_names.proofs.Prelude.{◌≡◌, ◌∙◌, IsTrue, get_or, set, ap₂, sym, subst, rules, length-set, named_in, is_object, object_of, value_of}
use Rattle.statement_names.proofs.Sides.{side_put, sides_from}
use Rattle.statement_names.proofs.shapes.sides_of.Goals as goal

pub loop-pair-preserved : goal.loop-pair-preserved
loop-pair-preserved c =
    let p = c.pair-item.result in
    let named : IsTrue (is_object (named_in c.args.quiver.now p.0.text)) =
    subst (λ q. IsTrue (is_object (named_in c.args.quiver.now q.0.text))) (sym c.pair-item.is) (c.requires.objects c.loop-pair.pair-index p c.loop-pair-test.true) in
    let place : c.from.result ≡ object_of c.args.quiver.now p.0 = c.from.ensures ∙ c.object_of-object.ensures.number in
    let value : c.value_of.result ≡ value_of p.1.value = search rules in
    record {
      size = length-set c.loop-pair.sides.items c.from.result c.value_of.result ∙ c.loop-pair.invariant.size;
      given = λ v below.
          ap₂ (λ u side. get_or (set c.loop-pair.sides.items u side) v 1) place value
          ∙ side_put c.args.quiver.now c.objects.ensures.declared c.args.pairs.now c.loop-pair.pair-index p c.loop-pair-test.true c.pair-item.is c.requires.once named
          c.loop-pair.sides.items c.loop-pair.invariant.size c.loop-pair.invariant.given v below;
    }

pub returns : goal.returns
returns c =
    c.from_vec.ensures
    ∙ sides_from c.args.quiver.now c.args.pairs.now c.loop-pair.pair-index c.loop-pair.sides.items c.loop-pair-test.false c.loop-pair.invariant.size c.loop-pair.invariant.given
