-- The main theorem: what the ending of a run says.
use Rattle.std.specs.Prelude.{ℕ, ◌≢◌, List, String}
use Rattle.std.specs.declared.alloc.Global.{Global}
use Rattle.definitions.specs.Category.{Structure}
use Rattle.command_shape.specs.Ending.{Ending}
use Rattle.command_runs.specs.Answers.{Answers}
use Rattle.command_runs.specs.Says.{Says}
use Rattle.command_runs.specs.Ends.{EndsBy}
use Rattle.command_runs.specs.Put.{IsPut}
use Rattle.command_runs.specs.Seen.{Run}

-- There is an ending that is put as its status says, whole or in part. On words that are no call it is the usage line; at a file that
-- couldn't be loaded it says so;
-- and where all files of the call were loaded, it is the answer to their contents, and what it says holds in every such category.
pub record HasMeaning {Object Arrow : Type 0} (s : Structure Object Arrow) (words : List (String Global)) (run : Run) (status : ℕ) : Type 0 where
  pub ending : Ending
  pub put : IsPut run.put run.finished run.sink_rose ending status
  pub ends : EndsBy (λ call contents end. Answers call contents end × Says s call contents end) words run.told run.rose ending

-- The main theorem holds at every status but 6, where nothing is put.
abbrev pub MeansAsSaid : {Object Arrow : Type 0} → Structure Object Arrow → List (String Global) → Run → ℕ → Type 0
MeansAsSaid s words run status = status ≢ 6 → HasMeaning s words run status
