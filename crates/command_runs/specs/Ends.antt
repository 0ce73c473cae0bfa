-- The endings that words, files and counts allow.
use Rattle.std.specs.Prelude.{ℕ, ◌≡◌, List, String}
use Rattle.std.specs.declared.alloc.Global.{Global}
use Rattle.flow_io.specs.Told.{Told}
use Rattle.command_shape.specs.declared.call.Call.{Call}
use Rattle.command_shape.specs.Usage.{usage_text}
use Rattle.command_runs.specs.CallFiles.{files_of}
use Rattle.command_runs.specs.Call.{IsCalled, IsTaken}
use Rattle.command_shape.specs.Ending.{Ending, usage}
use Rattle.command_runs.specs.Files.{AfterFiles}
use Rattle.command_runs.specs.Answers.{Answers}

-- Words that are no call end in the usage line. A call ends at one of its files, or answers their contents.
pub data EndsBy (answers : Call → List (List ℕ) → Ending → Type 0) (words : List (String Global)) (told : List ℕ → Told) (rose : List ℕ
    → Type 0) (ending : Ending) : Type 0 where
  other_words : (IsTaken words → ⊥) → ending ≡ usage usage_text → EndsBy answers words told rose ending
  called : (call : Call) → IsCalled words call → AfterFiles told rose (files_of call) (answers call) ending → EndsBy answers words told rose ending

abbrev pub MayEnd : List (String Global) → (List ℕ → Told) → (List ℕ → Type 0) → Ending → Type 0
MayEnd words told rose ending = EndsBy Answers words told rose ending
