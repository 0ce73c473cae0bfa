use Rattle.quiver.proofs.Prelude.{rules, ◌≡◌, ◌∙◌, sym, slice_get, Some}
use Rattle.quiver.proofs.Fields.{name_at-entry}
use Rattle.quiver.proofs.quiver.Quiver.name_at.Goals as goal

pub returns-in-Some : goal.returns-in-Some
returns-in-Some c =
    let entry : slice_get c.self.inside.names.entries c.args.place ≡ Some (c.in-Some.name.now, c.in-Some.field-0-1.now) = search rules in
    c.as_str.ensures.value ∙ sym (name_at-entry c.self.inside c.args.self.now c.self.view_is c.args.place c.in-Some.name.now c.in-Some.field-0-1.now entry)
