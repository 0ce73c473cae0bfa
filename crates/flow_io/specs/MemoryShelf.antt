-- A shelf in memory, by its state.
use Rattle.std.specs.Prelude.{ℕ, ◌≡◌, ◌+◌, ◌≤◌, ◌⊎◌, List, length, replicate, set, slice_index, Contains, Result, Ok, Err, Vec}
use Rattle.std.specs.declared.alloc.Global.{Global}
use Rattle.flow_io.specs.declared.shelf.ShelfFault.{ShelfFault}
use Rattle.flow_io.specs.declared.shelf.ShelfFault.TheVariants.{Failed, TooLong, Memory}
use Rattle.flow_io.specs.Causes.{next_count}
use Rattle.flow_io.specs.Told.{Absent, Holds, MayExceed}
use Rattle.flow_io.specs.Files.{Files, place_of, file_under}

-- its files, the numbers of the loads that fail, how many loads there were, and the counts of faults: those of the
-- files in their order, and last the one of all other names
pub record ShelfState : Type 0 where
  pub files : Files
  pub failing : List ℕ
  pub loads : ℕ
  pub counts : List ℕ

-- a shelf from which nothing was loaded
abbrev pub new_shelf : Files → List ℕ → ShelfState
new_shelf files failing = record { files = files; failing = failing; loads = 0; counts = replicate (length files + 1) 0 }

-- the shelf with one more load; the new count is the number of that load
abbrev pub with_load : ShelfState → ShelfState
with_load s = record s { loads = next_count s.loads }

-- the count of faults of a name
abbrev pub count_of : ShelfState → List ℕ → ℕ
count_of s name = slice_index s.counts (place_of s.files name)

-- the shelf with one more fault of a name
abbrev pub with_fault : ShelfState → List ℕ → ShelfState
with_fault s name = record s { counts = set s.counts (place_of s.files name) (next_count (count_of s name)) }

-- the next load of the name fails: its number is listed, or no file has the name
abbrev pub LoadFails : ShelfState → List ℕ → Type 0
LoadFails s name = Contains s.failing (next_count s.loads) ⊎ (file_under s.files name ≡ Absent)

-- the result of a load, and the shelf after it
abbrev pub LoadGives : ShelfState → List ℕ → ℕ → Result (Vec ℕ Global) ShelfFault → ShelfState → Type 0
LoadGives old name most (Ok bytes) new =
    ¬ LoadFails old name × (file_under old.files name ≡ Holds bytes.items) × (length bytes.items ≤ most) × (new ≡ with_load old)
LoadGives old name most (Err Failed) new = LoadFails old name × (new ≡ with_fault (with_load old) name)
LoadGives old name most (Err (TooLong got)) new =
    ¬ LoadFails old name × MayExceed (file_under old.files name) most × (got ≡ most + 1) × (new ≡ with_load old)
LoadGives old name most (Err (Memory _)) new = ¬ LoadFails old name × (new ≡ with_load old)
