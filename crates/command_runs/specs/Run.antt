-- What the contract of the top call says of words, devices and status.
use Rattle.std.specs.Prelude.{ℕ, ◌≡◌, ◌≢◌, ◌⊎◌, List, take, String}
use Rattle.std.specs.declared.alloc.Global.{Global}
use Rattle.flow_io.specs.Told.{MayExceed}
use Rattle.command_shape.specs.declared.call.Call.{Call}
use Rattle.command_shape.specs.declared.files.FileWord.{FileWord}
use Rattle.command_runs.specs.CallFiles.{files_of}
use Rattle.command_runs.specs.Call.{IsCalled, IsTaken}
use Rattle.command_shape.specs.Ending.{Ending, load_failed, too_long}
use Rattle.command_runs.specs.Files.{WereLoaded, AreHeld, IsReached, IsMissing, IsFirstTooLong}
use Rattle.command_runs.specs.Answers.{Answers}
use Rattle.command_runs.specs.Ends.{MayEnd}
use Rattle.command_runs.specs.Seen.{Run}

-- Every status but 5 and 6: the whole report of a possible ending was put, and the sink is finished.
abbrev pub IsReported : List (String Global) → Run → ℕ → Type 0
IsReported words run status = status ≢ 5 → status ≢ 6 → (ending : Ending) × MayEnd words run.told run.rose ending
    × (ending.status ≡ status) × run.put ending.report × run.finished

-- 5: the sink failed,
abbrev pub IsSinkFailure : Run → ℕ → Type 0
IsSinkFailure run status = status ≡ 5 → run.sink_rose

-- and what was put is the first part of such a report.
abbrev pub IsCutShort : List (String Global) → Run → ℕ → Type 0
IsCutShort words run status = status ≡ 5 → (ending : Ending) × MayEnd words run.told run.rose ending × ((count : ℕ) × run.put (take count ending.report))

-- 2: on other words, and only there.
abbrev pub IsUsage : List (String Global) → ℕ → Type 0
IsUsage words status = status ≡ 2 → IsTaken words → ⊥

abbrev pub TellsOtherWords : List (String Global) → ℕ → Type 0
TellsOtherWords words status = (IsTaken words → ⊥) → (status ≡ 2) ⊎ (status ≡ 5) ⊎ (status ≡ 6)

-- the report says that a load failed, of a file whose count rose, after files that were loaded
pub record SaysLoadFailed (run : Run) (files : List FileWord) : Type 0 where
  pub file : FileWord
  pub reached : IsReached run.told files file
  pub cause : run.rose file.name
  pub printed : run.put (load_failed file.name).report

-- the report says that a file is too long, after files that were loaded
pub record SaysTooLong (run : Run) (files : List FileWord) : Type 0 where
  pub file : FileWord
  pub reached : IsReached run.told files file
  pub long : MayExceed (run.told file.name) file.limit
  pub printed : run.put (too_long file.name file.limit).report

-- 4: only at a file of the call, with its cause;
abbrev pub IsNotLoaded : List (String Global) → Run → ℕ → Type 0
IsNotLoaded words run status = status ≡ 4 → (call : Call) × IsCalled words call × (SaysLoadFailed run (files_of call) ⊎ SaysTooLong run (files_of call))

-- always where the shelf tells that a file is missing,
abbrev pub TellsMissing : List (String Global) → Run → ℕ → Type 0
TellsMissing words run status = (call : Call) → IsCalled words call → IsMissing run.told (files_of call) → status ≢ 6
    → ((status ≡ 4) × SaysLoadFailed run (files_of call)) ⊎ (status ≡ 5)

-- or too long.
abbrev pub TellsTooLong : List (String Global) → Run → ℕ → Type 0
TellsTooLong words run status = (call : Call) (file : FileWord) → IsCalled words call → IsFirstTooLong run.told run.rose (files_of call) file → status ≢ 6
    → ((status ≡ 4) × run.put (too_long file.name file.limit).report) ⊎ (status ≡ 5)

-- the files of a call were loaded, and this is the status of the answer to their contents, whose report was put
pub record SaysAnswer (words : List (String Global)) (run : Run) (status : ℕ) : Type 0 where
  pub call : Call
  pub is_called : IsCalled words call
  pub contents : List (List ℕ)
  pub loaded : WereLoaded run.told (files_of call) contents
  pub ending : Ending
  pub answer : Answers call contents ending
  pub same_status : status ≡ ending.status
  pub printed : run.put ending.report

-- Every other status: all files of the call were loaded whole, and it is that of the answer to their contents, whose report was put.
abbrev pub IsAnswered : List (String Global) → Run → ℕ → Type 0
IsAnswered words run status = status ≢ 2 → status ≢ 4 → status ≢ 5 → status ≢ 6 → SaysAnswer words run status

-- Where the files are held within their limits and no count rose, the status is that of the answer to their contents, whose report is put whole.
abbrev pub IsComplete : List (String Global) → Run → ℕ → Type 0
IsComplete words run status = (call : Call) (contents : List (List ℕ)) (ending : Ending) → IsCalled words call
    → AreHeld run.told run.rose (files_of call) contents
    → (run.sink_rose → ⊥) → status ≢ 6 → Answers call contents ending → (status ≡ ending.status) × run.put ending.report × run.finished
