use Rattle.command_runs.proofs.Prelude.{◌≡◌, ◌≤◌, ℕ, List, take, WereLoaded}
use Rattle.command_runs.proofs.files.load_files.Given as goal

-- the files before the place were loaded; what the shelf tells of files stays, and no count fell
abbrev pub invariant-loop-file : goal.invariant-loop-file
invariant-loop-file g l = record {
  loaded : WereLoaded (g.L.Shelf.file l.initial.shelf) (take l.file-index l.files) l.contents;
  files_stay : (other : List ℕ) → g.L.Shelf.file l.shelf other ≡ g.L.Shelf.file l.initial.shelf other;
  counts : (other : List ℕ) → g.L.Shelf.faults l.initial.shelf other ≤ g.L.Shelf.faults l.shelf other;
}
