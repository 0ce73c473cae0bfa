-- Devices that never fail, by their states.
use Rattle.std.specs.Prelude.{ℕ, List, Bool, false, if◌then◌else◌}
use Rattle.std.specs.Str.{bytes_eq}

-- a name, the file under it, and the file under every other name
pub record TwoFiles : Type 0 where
  pub name : List ℕ
  pub first : List ℕ
  pub second : List ℕ

-- the bytes of the file of a name
abbrev pub held_under : TwoFiles → List ℕ → List ℕ
held_under files name = if bytes_eq files.name name then files.first else files.second

-- how many bytes a sink took, and whether it is finished
pub record SinkCount : Type 0 where
  pub taken : ℕ
  pub finished : Bool

-- a sink that took nothing
abbrev pub nothing_taken : SinkCount
nothing_taken = record { taken = 0; finished = false }
