use Rattle.traced_completion.proofs.Prelude.{normal_form_of, ExplainsHalt}
use Rattle.traced_completion.proofs.KeptReductions.{each_kept}
use Rattle.traced_completion.proofs.reduction.reduce.Goals as goal

pub returns-clause-kept : goal.returns-clause-kept
returns-clause-kept g c =
    let given = c.args.rules.now in
    let compare = g.O.WordOrder.compare given.order in
    let p = c.args.poly.now.terms in
    let made = c.normal_form.ensures in
    each_kept (g.O.WordOrder.letters given.order) compare given.rules given.each p c.args.steps c.requires.nonempty (ExplainsHalt (normal_form_of compare given.rules p c.args.steps)) c.normal_form.result made.exact made.over made.multiplier_in made.rows_in
