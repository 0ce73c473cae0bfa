-- What it means that a claim of a file is refuted, by the equations of the file.
use Rattle.std.specs.Prelude.{ℕ, List}
use Rattle.definitions.specs.Representation.{StarRepresents}
use Rattle.matrix_models.specs.Matrix.{Matrix}
use Rattle.matrix_models.specs.Matrices.{matrices, transpose}
use Rattle.matrix_models.specs.declared.model.Model.{Model}
use Rattle.model_checker.specs.Representations.{representation_of}
use Rattle.statement_syntax.specs.declared.tree.Statement.{Statement}
use Rattle.abbreviations.specs.declared.written.Equation.{Equation}
use Rattle.statement_meaning.specs.Values.{Reading, Holds}
use Rattle.statement_meaning.specs.Claims.{quiver_in, read_in, AssumptionsHold, IsClaim}

-- the file is read in the matrices of a model, with transposes as adjoints
abbrev pub read_by_model : List Statement → Model → Reading ℕ Matrix
read_by_model statements m = read_in (matrices m.modulus) (transpose m.modulus) statements (representation_of (quiver_in statements) m)

-- The claim is refuted by the model: its matrices are a star representation of what the file declares, in which all assumptions hold, and no
-- claim with this number does.
pub record RefutesClaim (statements : List Statement) (number : ℕ) (m : Model) : Type 0 where
  pub represents : StarRepresents (matrices m.modulus) (transpose m.modulus) (quiver_in statements) (representation_of (quiver_in statements) m)
  pub assumptions : AssumptionsHold (read_by_model statements m) statements
  pub claim : (e : Equation) → IsClaim statements number e → Holds (read_by_model statements m) e.left e.right → ⊥
