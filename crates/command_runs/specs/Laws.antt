-- The laws of all answers, for users.
use Rattle.std.specs.Prelude.{ℕ, ◌≡◌, List, length}
use Rattle.command_shape.specs.declared.call.Call.{Call}
use Rattle.command_shape.specs.Ending.{Ending}
use Rattle.command_runs.specs.CallFiles.{files_of}
use Rattle.command_runs.specs.Answers.{Answers}

-- a call has at most one ending over the contents of its files
abbrev pub AnswersOnce : Type 0
AnswersOnce = (call : Call) (contents : List (List ℕ)) (one other : Ending) → Answers call contents one → Answers call contents other → one ≡ other

-- and it has one, where there are as many contents as files
abbrev pub EachCallHasAnEnding : Type 0
EachCallHasAnEnding = (call : Call) (contents : List (List ℕ)) → length contents ≡ length (files_of call) → (ending : Ending) × Answers call contents ending
