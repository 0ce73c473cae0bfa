-- `confirmed`: in the matrices of the given model all assumptions of the file hold, and the claim doesn't.
use Rattle.std.specs.Prelude.{◌≡◌, ◌<◌, ℕ, suc, List, ◌++◌, codes, decimal, slice_get, Some}
use Rattle.quiver.specs.Declarations.{Declaration}
use Rattle.matrix_models.specs.declared.model.Model.{Model}
use Rattle.model_text.specs.Models.{IsModels}
use Rattle.command_runs.specs.Promises.Lines.{HasLineBefore, block_line, number_limit}
use Rattle.command_runs.specs.Promises.Refuted.{IsRefuted}

-- the model is the block of the evidence with this number, counted from 1
pub record IsBlock (evidence : List ℕ) (block : ℕ) (ds : List Declaration) (m : Model) : Type 0 where
  pub models : List Model
  pub read : IsModels ds evidence models
  pub place : ℕ
  pub counted : block ≡ suc place
  pub at : slice_get models place ≡ Some m

-- claim N
pub record SaysConfirmed (bytes evidence : List ℕ) (block : ℕ) (text : List ℕ) : Type 0 where
  pub number : ℕ
  pub says : text ≡ codes "claim " ++ decimal number
  pub refuted : IsRefuted bytes number (IsBlock evidence block)

-- The promise.
pub record ConfirmedIsMeant (bytes evidence put : List ℕ) : Type 0 where
  pub confirmed : (block : ℕ) (text after : List ℕ) → block < number_limit → HasLineBefore put (block_line block (codes "confirmed " ++ text)) after
      → SaysConfirmed bytes evidence block text
