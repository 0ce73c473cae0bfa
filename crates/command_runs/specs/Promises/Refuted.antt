-- `refuted`: in the matrices of the model that is printed next all assumptions of the file hold, and the claim doesn't.
use Rattle.std.specs.Prelude.{◌≡◌, ◌<◌, ℕ, List, ◌++◌, codes}
use Rattle.quiver.specs.Declarations.{Declaration}
use Rattle.matrix_models.specs.declared.model.Model.{Model}
use Rattle.model_text.specs.Written.{model_text}
use Rattle.statement_syntax.specs.declared.tree.Statement.{Statement}
use Rattle.statement_names.specs.Numbered.{declarations_of}
use Rattle.abbreviations.specs.declared.written.Equation.{Equation}
use Rattle.statement_meaning.specs.Claims.{IsClaim}
use Rattle.statement_meaning.specs.Counterexamples.{RefutesClaim}
use Rattle.command_runs.specs.Promises.Faultless.{IsFaultlessFile}
use Rattle.command_runs.specs.Promises.Lines.{HasLineBefore, claim_line, number_limit}

-- The bytes are a file without a fault with a claim of this number, and a model that is shown, by the names that the file declares, refutes it.
pub record IsRefuted (bytes : List ℕ) (number : ℕ) (IsShown : List Declaration → Model → Type 0) : Type 0 where
  pub statements : List Statement
  pub file : IsFaultlessFile bytes statements
  pub claim : Equation
  pub is_claim : IsClaim statements number claim
  pub model : Model
  pub shown : IsShown (declarations_of statements) model
  pub refutes : RefutesClaim statements number model

-- the text after the line begins with that of the model
abbrev pub IsNext : List ℕ → List Declaration → Model → Type 0
IsNext after ds m = (rest : List ℕ) × (after ≡ model_text ds m ++ rest)

-- The promise.
pub record RefutedIsMeant (bytes put : List ℕ) : Type 0 where
  pub refuted : (number : ℕ) (after : List ℕ) → number < number_limit → HasLineBefore put (claim_line number (codes "refuted")) after → IsRefuted bytes number (IsNext after)
