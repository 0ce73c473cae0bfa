use Rattle.command_runs.proofs.Prelude.{ℕ, List, Told, Call, files_of, IsCalled, AfterFiles, RoseAt, Answers, MayEnd, called, ends_weaker}
use Rattle.command_runs.proofs.whole_run.answer_words.Goals as goal

-- the words are a call
pub returns-in-Ok : goal.returns-in-Ok
returns-in-Ok g c =
    let told : List ℕ → Told = g.L.Shelf.file c.args.shelf.now in
    let rose : List ℕ → Type 0 = RoseAt (g.L.Shelf.faults c.args.shelf.now) (g.L.Shelf.faults c.answer_call.new.shelf) in
    let call : Call = c.in-Ok.call in
    let is_called : IsCalled c.args.words.now call = record { taken = c.in-Ok.ensures.taken; names = c.in-Ok.ensures.matches } in
    ends_weaker (AfterFiles told rose (files_of call) (Answers call)) (MayEnd c.args.words.now told rose) (λ ending. called call is_called) c.answer_call.result c.answer_call.ensures
