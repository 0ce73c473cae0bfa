use Rattle.model_candidates.proofs.Prelude.{◌≡◌, nat_eq, ap, sym, ◌∙◌, arith, quiver_of, entry, entry_shown, is_self, value_of_entry}
use Rattle.model_candidates.proofs.EntryPlaces.{shown_mirrored, shown_itself, shown_behind}
use Rattle.model_candidates.proofs.given_values.value_shown.Goals as goal
use Rattle.model_candidates.proofs.given_values.value_shown.Goals.{else-selfmade-via-then-selfmade+else-column-row, else-selfmade-via-else-selfmade}

pub returns-then-column-row : goal.returns-then-column-row
returns-then-column-row c =
    let q = quiver_of c.args.quiver.now in
    let a = c.args.letter.0 in
    let self_is : c.eq-selfmade.result ≡ is_self q a = c.eq-selfmade.ensures ∙ ap (λ n. nat_eq n a) c.star_of.ensures.star in
    c.value_kept.ensures ∙ ap (value_of_entry q c.args.shape.now c.args.values.all.now) (sym (shown_mirrored q a (sym self_is ∙ c.if-selfmade.true) c.if-column-row.true))

pub returns-else-selfmade : goal.returns-else-selfmade
returns-else-selfmade c =
    let q = quiver_of c.args.quiver.now in
    let a = c.args.letter.0 in
    let self_is : c.eq-selfmade.result ≡ is_self q a = c.eq-selfmade.ensures ∙ ap (λ n. nat_eq n a) c.star_of.ensures.star in
    let shown : entry_shown q a c.args.row c.args.column ≡ entry a c.args.row c.args.column = elim c.else-selfmade.branch [
      | else-selfmade-via-then-selfmade+else-column-row w ↦ shown_behind q a c.args.row c.args.column (omega (arith, w.if-column-row.false))
      | else-selfmade-via-else-selfmade w ↦ shown_itself q a c.args.row c.args.column (sym self_is ∙ w.if-selfmade.false)
    ] in
    c.value_kept-else-selfmade.ensures ∙ ap (value_of_entry q c.args.shape.now c.args.values.all.now) (sym shown)
