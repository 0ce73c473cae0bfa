use Rattle.command_runs.proofs.Prelude.{◌≡◌, ◌+◌, ◌++◌, ◌∷◌, [], ℕ, List, Err, take, drop, subst, sym, ◌∙◌, arith, rules, Told, FileWord, Ending, AreLoaded, EndsAtFile, AfterFiles, WereLoaded, RoseAt, StopsBy, take-at, splits-at, stops_weaker, handed_on}
use Rattle.command_runs.proofs.AfterFiles.{ends_earlier, after_ended, loaded_more}
use Rattle.command_runs.proofs.files.load_files.Goals as goal

-- a file couldn't be loaded, after those that were
pub returns-in_err-bytes-clause-stopped : goal.returns-in_err-bytes-clause-stopped
returns-in_err-bytes-clause-stopped g c =
    let told : List ℕ → Told = g.L.Shelf.file c.args.shelf.now in
    let before : List ℕ → ℕ = g.L.Shelf.faults c.args.shelf.now in
    let mid : List ℕ → ℕ = g.L.Shelf.faults c.loop-file.shelf in
    let now : List ℕ → ℕ = g.L.Shelf.faults c.load_file.new.shelf in
    let stop = c.in_err-bytes.field-0.0 in
    let back : c.from_residual.result ≡ Err stop = search rules in
    let files : List FileWord = c.args.files.now in
    let file : FileWord = c.file-item.result in
    let i : ℕ = c.loop-file.file-index in
    let may : Ending → Type 0 = AfterFiles told (RoseAt before now) files (λ _ _. ⊥) in
    let splits : take i files ++ file ∷ drop (i + 1) files ≡ files = splits-at files i file c.loop-file-test.true c.file-item.is in
    let ends : (ending : Ending) → EndsAtFile (g.L.Shelf.file c.loop-file.shelf file.name) (RoseAt mid now file.name) file.name file.limit ending → AfterFiles told (RoseAt before now) files (λ _ _. ⊥) ending =
    λ ending at. subst (λ (fs : List FileWord). AfterFiles told (RoseAt before now) fs (λ _ _. ⊥) ending) splits
    (after_ended told (RoseAt before now) (take i files) file (drop (i + 1) files) (λ _ _. ⊥) c.loop-file.contents ending c.loop-file.invariant.loaded
    (ends_earlier (told file.name) _ (before file.name) (mid file.name) (now file.name) file.name file.limit ending (c.loop-file.invariant.files_stay file.name) (c.loop-file.invariant.counts file.name) at)) in
    handed_on (StopsBy may) c.from_residual.result stop back (stops_weaker _ may ends stop c.in_err-bytes.ensures.stopped)

-- one more file was loaded
pub loop-file-preserved : goal.loop-file-preserved
loop-file-preserved g c =
    let told : List ℕ → Told = g.L.Shelf.file c.args.shelf.now in
    let files : List FileWord = c.args.files.now in
    let file : FileWord = c.file-item.result in
    let i : ℕ = c.loop-file.file-index in
    let bytes : List ℕ = c.in_ok-bytes.bytes in
    let stays = c.loop-file.invariant.files_stay in
    let loaded : AreLoaded (told file.name) file.limit bytes = subst (λ (t : Told). AreLoaded t file.limit bytes) (stays file.name) c.in_ok-bytes.ensures.loaded in
    let all = loaded_more told (λ _. Unit {0}) (take i files) c.loop-file.contents file bytes c.loop-file.invariant.loaded loaded in
    let pushed : c.loop-file.contents ++ bytes ∷ [] ≡ c.push.new.self = sym (search rules) in
    record {
      loaded = subst (λ (cs : List (List ℕ)). WereLoaded told (take (i + 1) files) cs) pushed
          (subst (λ (fs : List FileWord). WereLoaded told fs (c.loop-file.contents ++ bytes ∷ [])) (sym (take-at files i file c.loop-file-test.true c.file-item.is)) all);
      files_stay = λ other. c.load_file.ensures.files_stay other ∙ stays other;
      counts = λ other. let one = c.loop-file.invariant.counts other in let two = c.load_file.ensures.counts other in omega arith;
    }
