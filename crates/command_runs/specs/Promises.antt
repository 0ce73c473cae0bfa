-- The main theorem in short: each line that was put means what it says. Each promise has a page of its own.
-- The category is the one that is given to `run`, whose bound `Preadditive` gives its laws; `run` is one body for all of them.
-- Each page says that the file has no fault, as a fault has status 3. Over devices that tell nothing, as the machine's, `bytes` are some bytes:
-- what is put is the same as over devices in memory, as `run` can't see which of them it has.
pub mod Lines
pub mod Faultless
pub mod Proved
pub mod Accepted
pub mod Refuted
pub mod Confirmed
pub mod NotDerivable
pub mod Sharp
pub mod Undecided
use Rattle.std.specs.Prelude.{◌≢◌, ℕ, List, String}
use Rattle.std.specs.declared.alloc.Global.{Global}
use Rattle.definitions.specs.Category.{Structure}
use Rattle.command_shape.specs.declared.call.Call.{Call}
use Rattle.traced_completion.specs.declared.budget.Budget.{Budget}
use Rattle.command_runs.specs.Call.{IsCalled}
use Rattle.command_runs.specs.CallFiles.{files_of, statement_of, evidence_of}
use Rattle.command_runs.specs.Files.{WereLoaded}
use Rattle.command_runs.specs.Seen.{Run}
use Rattle.command_runs.specs.Promises.Proved.{ProvedIsMeant}
use Rattle.command_runs.specs.Promises.Accepted.{AcceptedIsMeant}
use Rattle.command_runs.specs.Promises.Refuted.{RefutedIsMeant}
use Rattle.command_runs.specs.Promises.Confirmed.{ConfirmedIsMeant}
use Rattle.command_runs.specs.Promises.NotDerivable.{NotDerivableIsMeant}
use Rattle.command_runs.specs.Promises.Sharp.{SharpIsMeant}
use Rattle.command_runs.specs.Promises.Undecided.{budget_of, UndecidedIsMeant}

-- Over the bytes of a statement and of a text of evidence, with such a budget, each line that was put means what it says.
pub record LinesAreMeant {Object Arrow : Type 0} (s : Structure Object Arrow) (budget : Budget) (statement evidence put : List ℕ) : Type 0 where
  pub proved : ProvedIsMeant s statement put
  pub accepted : AcceptedIsMeant s statement put
  pub refuted : RefutedIsMeant statement put
  pub confirmed : ConfirmedIsMeant statement evidence put
  pub not_derivable : NotDerivableIsMeant statement put
  pub sharp : SharpIsMeant statement put
  pub undecided : UndecidedIsMeant budget statement put

-- The files of the call were loaded, with these contents, and these bytes were put, each line of which means what it says.
pub record IsMeant {Object Arrow : Type 0} (s : Structure Object Arrow) (words : List (String Global)) (run : Run) : Type 0 where
  pub call : Call
  pub is_called : IsCalled words call
  pub contents : List (List ℕ)
  pub loaded : WereLoaded run.told (files_of call) contents
  pub bytes : List ℕ
  pub put : run.put bytes
  pub lines : LinesAreMeant s (budget_of call) (statement_of call contents) (evidence_of contents) bytes

-- This holds at each status but 2 (other words), 3 (a faulty statement), 4 (a file that couldn't be loaded), 5 (a sink that failed) and 6 (nothing is put).
abbrev pub PutsWhatIsMeant : {Object Arrow : Type 0} → Structure Object Arrow → List (String Global) → Run → ℕ → Type 0
PutsWhatIsMeant s words run status = status ≢ 2 → status ≢ 3 → status ≢ 4 → status ≢ 5 → status ≢ 6 → IsMeant s words run
