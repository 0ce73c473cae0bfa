use Rattle.model_checker.proofs.Prelude.{◌≡◌, sym, ap₂, ◌∙◌, quiver_of, matrices, zero_matrix, side_of, representation_of}
use Rattle.model_checker.proofs.Values.{is_representation, value_is, zero_from_value, object_is, object_at}
use Rattle.model_checker.proofs.value.is_zero.Goals as goal

pub value_of-requires-clause-represented : goal.value_of-requires-clause-represented
value_of-requires-clause-represented c =
    let asked = c.requires in
    is_representation (quiver_of c.args.quiver.now) asked.quiver c.args.model.now asked.model c.args.representation.now.objects c.args.representation.now.arrows asked.lists asked.maps

pub zero-requires-clause-source_is_object : goal.zero-requires-clause-source_is_object
zero-requires-clause-source_is_object c =
    let asked = c.requires in
    object_at (quiver_of c.args.quiver.now) asked.quiver c.args.model.now asked.model c.args.representation.now.objects c.args.representation.now.arrows asked.lists c.args.sig.source.0 asked.source_in_range
    (c.object-source.ensures 1)

pub zero-requires-clause-target_is_object : goal.zero-requires-clause-target_is_object
zero-requires-clause-target_is_object c =
    let asked = c.requires in
    object_at (quiver_of c.args.quiver.now) asked.quiver c.args.model.now asked.model c.args.representation.now.objects c.args.representation.now.arrows asked.lists c.args.sig.target.0 asked.target_in_range
    (c.object-target.ensures 1)

-- the matrices that are compared are the value and the zero matrix
pub returns : goal.returns
returns c =
    let q = quiver_of c.args.quiver.now in
    let m = c.args.model.now in
    let p = c.args.poly.now in
    let u = c.args.sig.source.0 in
    let v = c.args.sig.target.0 in
    let objects = c.args.representation.now.objects in
    let arrows = c.args.representation.now.arrows in
    let asked = c.requires in
    let source_is = c.object-source.ensures 1 ∙ object_is q asked.quiver m asked.model objects arrows asked.lists u 1 asked.source_in_range in
    let target_is = c.object-target.ensures 1 ∙ object_is q asked.quiver m asked.model objects arrows asked.lists v 1 asked.target_in_range in
    let zero_is : c.in_ok-zero.zero ≡ zero_matrix m.modulus (side_of m v) (side_of m u) = c.in_ok-zero.ensures ∙ ap₂ (zero_matrix m.modulus) target_is source_is in
    let is = value_is q asked.quiver m asked.model objects arrows asked.lists u v p.terms c.in_ok-value.value c.in_ok-value.ensures.value in (
      λ same. zero_from_value (matrices m.modulus) q (representation_of q m) p.terms p.canonical u v asked.typed (sym is ∙ c.same.ensures.0 same ∙ zero_is),
      λ zero. c.same.ensures.1 (is ∙ zero.at u v asked.source_in_range asked.target_in_range asked.typed ∙ sym zero_is),
    )
