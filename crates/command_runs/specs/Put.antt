-- How a report was put: whole, or in part by a sink that failed.
use Rattle.std.specs.Prelude.{ℕ, ◌≡◌, List, take}
use Rattle.command_shape.specs.Ending.{Ending}

-- whole, with its own status, or in part, with status 5 and a cause
pub data IsPut (put : List ℕ → Type 0) (finished sink_rose : Type 0) (ending : Ending) (status : ℕ) : Type 0 where
  whole : status ≡ ending.status → put ending.report → finished → IsPut put finished sink_rose ending status
  in_part : status ≡ 5 → sink_rose → (count : ℕ) → put (take count ending.report) → IsPut put finished sink_rose ending status
