-- What the devices tell about a run.
use Rattle.std.specs.Prelude.{ℕ, List, Option, Bool, IsTrue}
use Rattle.std.specs.Io.KnownBytes.{Appends}
use Rattle.flow_io.specs.Causes.{Rose}
use Rattle.flow_io.specs.Told.{Told}
use Rattle.command_runs.specs.Files.{RoseAt}

-- The contents of each file, the names whose count of faults rose, the bytes that were put, and whether the sink is
-- finished or its count rose.
pub record Run : Type 1 where
  pub told : List ℕ → Told
  pub rose : List ℕ → Type 0
  pub put : List ℕ → Type 0
  pub finished : Type 0
  pub sink_rose : Type 0

-- a run between two states of a shelf and two of a sink
abbrev pub seen : {Shelf Sink : Type 0} → (Shelf → List ℕ → Told) → (Shelf → List ℕ → ℕ) → (Sink → Option (List ℕ)) → (Sink → Bool)
    → (Sink → ℕ) → Shelf → Shelf → Sink → Sink → Run
seen file faults written is_finished sink_faults shelf new_shelf sink new_sink = record {
  told = file shelf;
  rose = RoseAt (faults shelf) (faults new_shelf);
  put = λ bytes. Appends (written sink) (written new_sink) bytes;
  finished = IsTrue (is_finished new_sink);
  sink_rose = Rose (sink_faults sink) (sink_faults new_sink);
}
