use Rattle.model_candidates.proofs.Prelude.{◌≡◌, ◌≤◌, true, nat_le, sym, ap, subst, ◌∙◌, arith, leb-true, is_kept, place_within}
use Rattle.model_candidates.proofs.EntryPlaces.{place_of_all, place_behind}
use Rattle.model_candidates.proofs.given_values.place_in_map.Goals as goal

pub returns-then-selfmade : goal.returns-then-selfmade
returns-then-selfmade c = λ a.
    let row = c.args.row in
    let column = c.args.column in
    let kept : nat_le row column ≡ true = subst (λ b. is_kept b row column ≡ true) c.if-selfmade.true c.requires.kept in
    let le : row ≤ column = leb-true row column kept in
    place_behind a c.args.columns (omega (arith, le, c.requires.column_in_range)) le ∙ ap (λ b. place_within a b c.args.columns row column) (sym c.if-selfmade.true)

pub returns-else-selfmade : goal.returns-else-selfmade
returns-else-selfmade c = λ a.
    place_of_all a c.args.columns c.args.row c.args.column ∙ ap (λ b. place_within a b c.args.columns c.args.row c.args.column) (sym c.if-selfmade.false)
