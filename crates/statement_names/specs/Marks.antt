-- Tables of marks, one for each number.
use Rattle.std.specs.Prelude.{◌≡◌, ℕ, ◌<◌, Bool, false, ◌||◌, List, length}
use Rattle.std.specs.List.{slice_index_or}

-- the numbers that pass the test are marked, and those that were marked stay so
abbrev pub Marks : List Bool → List Bool → (ℕ → Bool) → Type 0
Marks old new test = (k : ℕ) → k < length old → slice_index_or new k false ≡ (slice_index_or old k false || test k)
