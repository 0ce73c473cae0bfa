use Rattle.traced_completion.proofs.FirstReductions.{firsts_exact, firsts_kept, one_for_each}
use Rattle.traced_completion.proofs.Prelude.{each_in_turn, Explains, first_of}
use Rattle.traced_completion.proofs.first_reductions.reduce_all.Goals as goal

pub returns-clause-exact : goal.returns-clause-exact
returns-clause-exact g c =
    let given = c.args.reducer.now.rules.now in
    let steps = c.args.reducer.now.steps in
    firsts_exact (g.O.WordOrder.letters given.order) (g.O.WordOrder.compare given.order) steps given.rules c.args.taken.now c.in_ok-answers.answers.items c.in_ok-answers.ensures.answers c.collect_answers.result c.collect_answers.ensures

pub returns-clause-kept : goal.returns-clause-kept
returns-clause-kept g c =
    let given = c.args.reducer.now.rules.now in
    let steps = c.args.reducer.now.steps in
    firsts_kept (g.O.WordOrder.letters given.order) (g.O.WordOrder.compare given.order) steps given.rules c.args.taken.now c.in_ok-answers.answers.items c.in_ok-answers.ensures.answers c.collect_answers.result c.collect_answers.ensures

pub returns-clause-one_each : goal.returns-clause-one_each
returns-clause-one_each g c =
    let given = c.args.reducer.now.rules.now in
    let steps = c.args.reducer.now.steps in
    let compare = g.O.WordOrder.compare given.order in
    let exact = firsts_exact (g.O.WordOrder.letters given.order) compare steps given.rules c.args.taken.now c.in_ok-answers.answers.items c.in_ok-answers.ensures.answers c.collect_answers.result c.collect_answers.ensures in
    one_for_each compare steps given.rules c.args.taken.now (Explains (each_in_turn (first_of compare steps given.rules) c.args.taken.now)) c.collect_answers.result exact
