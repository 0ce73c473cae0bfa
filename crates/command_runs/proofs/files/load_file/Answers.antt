use Rattle.command_runs.proofs.Prelude.{Err, inl, inr, sym, ap, subst, ◌∙◌, MayExceed, LoadAnswers, load_failed, too_long, RoseAt, AreLoaded}
use Rattle.command_runs.proofs.files.load_file.Goals as goal

pub returns-in-Ok-clause-loaded : goal.returns-in-Ok-clause-loaded
returns-in-Ok-clause-loaded g c =
    let told = g.L.Shelf.file c.args.shelf.now in
    let limit = c.args.file.now.limit in
    subst (λ bytes. AreLoaded (told c.args.file.now.name) limit bytes) (sym c.from_vec.ensures)
    (subst (λ name. AreLoaded (told name) limit c.in-Ok.bytes.items) c.as_str-name.ensures c.in-Ok.ensures.answer)

pub returns-in_ok-load_failed-in-Err-Failed-clause-stopped :
    goal.returns-in_ok-load_failed-in-Err-Failed-clause-stopped
returns-in_ok-load_failed-in-Err-Failed-clause-stopped g c =
    let before = g.L.Shelf.faults c.args.shelf.now in
    let now = g.L.Shelf.faults c.load.new.self in
    let name = c.as_str-name.result.now in
    let rose = subst (LoadAnswers (g.L.Shelf.file c.args.shelf.now name) c.args.file.now.limit (before name) (now name)) (c.in-Err-Failed.is ∙ ap Err c.in-Err-Failed.field-0-is) c.load.ensures.answer in
    inl (subst (RoseAt before now) c.as_str-name.ensures rose, c.in_ok-load_failed-in-Err-Failed.ensures ∙ ap load_failed c.as_str-name.ensures)

pub returns-in_ok-too_long-in-Err-TooLong-clause-stopped :
    goal.returns-in_ok-too_long-in-Err-TooLong-clause-stopped
returns-in_ok-too_long-in-Err-TooLong-clause-stopped g c =
    let told = g.L.Shelf.file c.args.shelf.now in
    let limit = c.args.file.now.limit in
    let name = c.as_str-name.result.now in
    let exceeds = subst (LoadAnswers (told name) limit (g.L.Shelf.faults c.args.shelf.now name) (g.L.Shelf.faults c.load.new.self name)) (c.in-Err-TooLong.is ∙ ap Err c.in-Err-TooLong.field-0-is) c.load.ensures.answer in
    inr (subst (λ n. MayExceed (told n) limit) c.as_str-name.ensures exceeds.0, c.in_ok-too_long-in-Err-TooLong.ensures ∙ ap (λ n. too_long n limit) c.as_str-name.ensures)
