-- Models that are written are read back, whatever texts are before and after them.
use Rattle.std.specs.Prelude.{◌<◌, ◌^◌, List, IsTrue}
use Rattle.std.specs.List.{list_all}
use Rattle.quiver.specs.Declarations.{Declaration, IsDeclared}
use Rattle.matrix_models.specs.declared.model.Model.{Model}
use Rattle.block_text.specs.Back.{is_named}
use Rattle.block_text.specs.Laws.{IsReadBetween}
use Rattle.model_text.specs.Models.{HasModels, IsModel}
use Rattle.model_text.specs.Written.{model_text}

-- a model of the declarations, with a claim within its limit
pub record IsWritableModel (ds : List Declaration) (m : Model) : Type 0 where
  pub claim : m.claim < 2 ^ 32
  pub model : IsModel ds m

-- A model that is written between whole lines and other lines is read as it is, after the models of the lines before it
-- and before those of the lines after it.
abbrev pub ModelsAreReadBack : Type 0
ModelsAreReadBack = (ds : List Declaration) → IsDeclared ds → IsTrue (list_all is_named ds) → IsReadBetween (HasModels ds) (model_text ds) (IsWritableModel ds)
