use Rattle.command_runs.proofs.Prelude.{◌≡◌, ℕ, List, Err, sym, subst, rules, Told, FileWord, files_of, Ending, AfterFiles, WereLoaded, RoseAt, Answers, stops_weaker, ends_weaker, ended_by}
use Rattle.command_runs.proofs.AfterFiles.{after_weaker, after_loaded}
use Rattle.command_runs.proofs.whole_run.answer_call.Goals as goal

-- the run ends at a file
pub returns-in_err-contents : goal.returns-in_err-contents
returns-in_err-contents g c =
    let told : List ℕ → Told = g.L.Shelf.file c.args.shelf.now in
    let rose : List ℕ → Type 0 = RoseAt (g.L.Shelf.faults c.args.shelf.now) (g.L.Shelf.faults c.load_call.new.shelf) in
    let files : List FileWord = files_of c.args.call.now in
    let may : Ending → Type 0 = AfterFiles told rose files (Answers c.args.call.now) in
    let stop = c.in_err-contents.field-0.0 in
    let back : c.from_residual.result ≡ Err stop = search rules in
    ended_by may c.from_residual.result stop back
    (stops_weaker (AfterFiles told rose files (λ _ _. ⊥)) may (λ ending. after_weaker told rose files (λ _ _. ⊥) (Answers c.args.call.now) ending (λ contents none. absurd none)) stop c.in_err-contents.ensures.stopped)

-- all files are loaded, and their contents are answered
pub returns : goal.returns
returns g c =
    let told : List ℕ → Told = g.L.Shelf.file c.args.shelf.now in
    let rose : List ℕ → Type 0 = RoseAt (g.L.Shelf.faults c.args.shelf.now) (g.L.Shelf.faults c.load_call.new.shelf) in
    let files : List FileWord = files_of c.args.call.now in
    let contents : List (List ℕ) = c.as_slice.result.now in
    let same : c.in_ok-contents.contents ≡ contents = sym (search rules) in
    let were : WereLoaded told files contents = subst (λ (cs : List (List ℕ)). WereLoaded told files cs) same c.in_ok-contents.ensures.loaded in
    ends_weaker (Answers c.args.call.now contents) (AfterFiles told rose files (Answers c.args.call.now)) (λ ending. after_loaded told rose files (Answers c.args.call.now) contents ending were) c.answer.result c.answer.ensures
