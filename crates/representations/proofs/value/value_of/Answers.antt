use Rattle.representations.proofs.Prelude.{ap, ap₂, ◌∙◌, ◌≡◌, arith, rules, take, take_all, multiple, value_at, quiver_of, listed}
use Rattle.representations.proofs.ValueLoop.{object_is_object, term_is_path, path_has_signature, sum_arrow, path_arrow, same_source, same_target, value_with_next}
use Rattle.representations.proofs.value.value_of.Goals as goal

pub zero-requires-clause-source_is_object : goal.zero-requires-clause-source_is_object
zero-requires-clause-source_is_object g c =
    object_is_object c.requires.represented c.args.sig.source.0 c.requires.source_in_range c.object-source.result.now c.object-source.ensures

pub zero-requires-clause-target_is_object : goal.zero-requires-clause-target_is_object
zero-requires-clause-target_is_object g c =
    object_is_object c.requires.represented c.args.sig.target.0 c.requires.target_in_range c.object-target.result.now c.object-target.ensures

pub path_value_of-requires-clause-path : goal.path_value_of-requires-clause-path
path_value_of-requires-clause-path g c =
    let path = term_is_path (quiver_of c.args.quiver.now) c.args.sig.source.0 c.args.sig.target.0 c.args.poly.now.terms
    c.args.poly.now.canonical c.requires.typed c.loop-place.place (c.term-coefficient.result.0, c.term-coefficient.result.1.now) c.term-coefficient.ensures in
    path_has_signature (quiver_of c.args.quiver.now) c.args.sig.source.0 c.args.sig.target.0 c.term-coefficient.result.1.now path

pub multiple_of-requires : goal.multiple_of-requires
multiple_of-requires g c =
    let laws = g.C.Preadditive.laws c.args.category.now in
    let path = term_is_path (quiver_of c.args.quiver.now) c.args.sig.source.0 c.args.sig.target.0 c.args.poly.now.terms
    c.args.poly.now.canonical c.requires.typed c.loop-place.place (c.term-coefficient.result.0, c.term-coefficient.result.1.now) c.term-coefficient.ensures in
    let o = (g.C.Preadditive.structure c.args.category.now).source c.in_ok-path.path in
    (path_arrow laws c.requires.represented c.args.sig.source.0 c.args.sig.target.0 c.requires.source_in_range c.requires.target_in_range
    c.term-coefficient.result.1.now path c.in_ok-path.path c.in_ok-path.ensures.value o).arrow

pub add-requires-clause-left_is_arrow : goal.add-requires-clause-left_is_arrow
add-requires-clause-left_is_arrow g c =
    let laws = g.C.Preadditive.laws c.args.category.now in
    let o = (g.C.Preadditive.structure c.args.category.now).source c.loop-place.sum in
    (sum_arrow laws c.requires.represented c.args.sig.source.0 c.args.sig.target.0 c.requires.source_in_range c.requires.target_in_range
    (take c.loop-place.place c.args.poly.now.terms) c.loop-place.sum c.loop-place.invariant o).arrow

pub add-requires-clause-same_source : goal.add-requires-clause-same_source
add-requires-clause-same_source g c =
    let laws = g.C.Preadditive.laws c.args.category.now in
    let path = term_is_path (quiver_of c.args.quiver.now) c.args.sig.source.0 c.args.sig.target.0 c.args.poly.now.terms
    c.args.poly.now.canonical c.requires.typed c.loop-place.place (c.term-coefficient.result.0, c.term-coefficient.result.1.now) c.term-coefficient.ensures in
    same_source laws c.requires.represented c.args.sig.source.0 c.args.sig.target.0 c.requires.source_in_range c.requires.target_in_range
    c.loop-place.sum c.in_ok-path.path c.in_ok-multiple.multiple
    (sum_arrow laws c.requires.represented c.args.sig.source.0 c.args.sig.target.0 c.requires.source_in_range c.requires.target_in_range
    (take c.loop-place.place c.args.poly.now.terms) c.loop-place.sum c.loop-place.invariant)
    (path_arrow laws c.requires.represented c.args.sig.source.0 c.args.sig.target.0 c.requires.source_in_range c.requires.target_in_range
    c.term-coefficient.result.1.now path c.in_ok-path.path c.in_ok-path.ensures.value)
    c.in_ok-multiple.ensures.ends

pub add-requires-clause-same_target : goal.add-requires-clause-same_target
add-requires-clause-same_target g c =
    let laws = g.C.Preadditive.laws c.args.category.now in
    let path = term_is_path (quiver_of c.args.quiver.now) c.args.sig.source.0 c.args.sig.target.0 c.args.poly.now.terms
    c.args.poly.now.canonical c.requires.typed c.loop-place.place (c.term-coefficient.result.0, c.term-coefficient.result.1.now) c.term-coefficient.ensures in
    same_target laws c.requires.represented c.args.sig.source.0 c.args.sig.target.0 c.requires.source_in_range c.requires.target_in_range
    c.loop-place.sum c.in_ok-path.path c.in_ok-multiple.multiple
    (sum_arrow laws c.requires.represented c.args.sig.source.0 c.args.sig.target.0 c.requires.source_in_range c.requires.target_in_range
    (take c.loop-place.place c.args.poly.now.terms) c.loop-place.sum c.loop-place.invariant)
    (path_arrow laws c.requires.represented c.args.sig.source.0 c.args.sig.target.0 c.requires.source_in_range c.requires.target_in_range
    c.term-coefficient.result.1.now path c.in_ok-path.path c.in_ok-path.ensures.value)
    c.in_ok-multiple.ensures.ends

pub loop-place-init : goal.loop-place-init
loop-place-init g c o a = c.in_ok-sum.ensures ∙ ap₂ (g.C.Preadditive.structure c.args.category.now).zero (c.object-source.ensures o) (c.object-target.ensures o)

pub loop-place-preserved : goal.loop-place-preserved
loop-place-preserved g c =
    let laws = g.C.Preadditive.laws c.args.category.now in
    let path = term_is_path (quiver_of c.args.quiver.now) c.args.sig.source.0 c.args.sig.target.0 c.args.poly.now.terms
    c.args.poly.now.canonical c.requires.typed c.loop-place.place (c.term-coefficient.result.0, c.term-coefficient.result.1.now) c.term-coefficient.ensures in
    let multiplied : c.in_ok-multiple.multiple ≡ multiple (g.C.Preadditive.structure c.args.category.now) c.term-coefficient.result.0 c.in_ok-path.path = search rules in
    value_with_next laws c.requires.represented c.args.sig.source.0 c.args.sig.target.0 c.requires.source_in_range c.requires.target_in_range
    c.args.poly.now.terms c.loop-place.place (c.term-coefficient.result.0, c.term-coefficient.result.1.now) c.term-coefficient.ensures path
    c.loop-place.sum c.in_ok-path.path c.in_ok-multiple.multiple c.in_ok-sum-2.sum c.loop-place.invariant c.in_ok-path.ensures.value multiplied c.in_ok-sum-2.ensures

pub returns-clause-value : goal.returns-clause-value
returns-clause-value g c = record {
  at = λ o a.
      c.loop-place.invariant o a
      ∙ ap (value_at (g.C.Preadditive.structure c.args.category.now) (quiver_of c.args.quiver.now) (listed c.args.representation.now.objects c.args.representation.now.arrows o a) c.args.sig.source.0 c.args.sig.target.0)
      (take_all c.loop-place.place c.args.poly.now.terms (omega arith));
}

pub returns-clause-arrow : goal.returns-clause-arrow
returns-clause-arrow g c =
    let laws = g.C.Preadditive.laws c.args.category.now in
    let o = (g.C.Preadditive.structure c.args.category.now).source c.loop-place.sum in
    (sum_arrow laws c.requires.represented c.args.sig.source.0 c.args.sig.target.0 c.requires.source_in_range c.requires.target_in_range
    (take c.loop-place.place c.args.poly.now.terms) c.loop-place.sum c.loop-place.invariant o).arrow
