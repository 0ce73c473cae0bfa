use Rattle.command_runs.proofs.Prelude.{◌≡◌, Err, rules, Fault, Ending, RoseAt, MayEnd, ended_as}
use Rattle.command_runs.proofs.whole_run.ending_of.Goals as goal

pub returns-in-Err-Fault : goal.returns-in-Err-Fault
returns-in-Err-Fault g c =
    let may : Ending → Type 0 = MayEnd c.args.words.now (g.L.Shelf.file c.args.shelf.now) (RoseAt (g.L.Shelf.faults c.args.shelf.now) (g.L.Shelf.faults c.answer_words.new.shelf)) in
    let is : c.answer_words.result ≡ Err (Fault c.in-Err-Fault.ending) = search rules in
    ended_as may c.answer_words.result c.in-Err-Fault.ending is c.answer_words.ensures
