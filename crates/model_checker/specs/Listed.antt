-- The lists of the representation of a model.
use Rattle.std.specs.Prelude.{◌≡◌, ℕ, List, map}
use Rattle.std.specs.List.{range_with_len}
use Rattle.definitions.specs.Quiver.{Quiver, letters}
use Rattle.matrix_models.specs.Matrix.{Matrix}
use Rattle.matrix_models.specs.declared.model.Model.{Model}
use Rattle.model_checker.specs.Representations.{arrow_of}

-- the sides of the objects, and the matrix of each letter
pub record AreOfModel (q : Quiver) (m : Model) (objects : List ℕ) (arrows : List Matrix) : Type 0 where
  pub objects_are : objects ≡ m.sides
  pub arrows_are : arrows ≡ map (arrow_of q m) (range_with_len 0 (letters q))
