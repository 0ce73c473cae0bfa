use Rattle.statement_names.proofs.Prelude.{◌≡◌, ◌++◌, ◌∷◌, map, drop, None, ap, sym, subst, ◌∙◌, ◌+◌, Declaration, object, object_fault, Name, objects_in, AreFirst}
use Rattle.statement_names.proofs.Items.{rest_is}
use Rattle.statement_names.proofs.Fresh.{no_object_fault}
use Rattle.statement_names.proofs.declarations.add_objects.Goals as goal

abbrev declaration : Name → Declaration
declaration n = object n.text

pub declare_object-requires : goal.declare_object-requires
declare_object-requires c =
    let names = c.as_slice-name-items.result.now in
    let rest = map declaration (drop (c.loop-name.name-index + 1) names) in
    let whole : c.args.quiver.now ++ objects_in c.args.statement.now ≡ c.loop-name.quiver ++ object c.name-item.result.text ∷ rest =
    ap (λ k. c.args.quiver.now ++ objects_in k) c.in-Objects.is ∙ ap (λ ns. c.args.quiver.now ++ map declaration ns) (sym c.as_slice-name-items.ensures)
    ∙ sym c.loop-name.invariant
    ∙ ap (λ ns. c.loop-name.quiver ++ map declaration ns) (rest_is names c.loop-name.name-index c.name-item.result c.loop-name-test.true c.name-item.is) in
    subst (λ t. object_fault c.loop-name.quiver t ≡ None) (sym c.as_str.ensures)
    (no_object_fault c.loop-name.quiver c.name-item.result.text rest (subst AreFirst whole c.requires))
