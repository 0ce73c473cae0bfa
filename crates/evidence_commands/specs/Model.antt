-- What `model` reads, judges and prints, and what that means.
use Rattle.std.specs.Prelude.{ℕ, ◌<◌, ⊤, List, ◌++◌, codes, decimal, Option, Some, None}
use Rattle.quiver.specs.Declarations.{Declaration, letter_count, letter_name}
use Rattle.adjoint_rules.specs.declared.problem.Problem.{Problem}
use Rattle.matrix_models.specs.declared.model.Model.{Model}
use Rattle.model_checker.specs.declared.refusal.ModelRefusal.{ModelRefusal}
use Rattle.model_checker.specs.declared.refusal.ModelRefusal.TheVariants as model
use Rattle.model_checker.specs.Models.{Refutes}
use Rattle.model_checker.specs.Refusals.{RefusesModel}
use Rattle.model_checker.specs.RefutedMeans.{RefutedMeans}
use Rattle.model_text.specs.Models.{IsModels, IsFirstFault}
use Rattle.evidence_commands.specs.Kind.{Kind}

-- the text of a confirmed model
abbrev pub claim_confirmed : ℕ → List ℕ
claim_confirmed claim = codes "confirmed claim " ++ decimal claim

-- a cause with the declared map that it is about
abbrev pub map_cause : List Declaration → List ℕ → ℕ → List ℕ
map_cause ds code map = code ++ (codes " map " ++ letter_name ds map)

-- why a model is refused; no line says that memory is short
abbrev pub model_cause : List Declaration → ModelRefusal → Option (List ℕ)
model_cause ds model.NoSuchClaim = Some (codes "M1")
model_cause ds (model.MissingMap letter) = Some (map_cause ds (codes "M2") letter.0)
model_cause ds (model.BadShape letter) = Some (map_cause ds (codes "M3") letter.0)
model_cause ds (model.NotZero number) = Some (codes "M4 assumption " ++ decimal number)
model_cause ds model.ClaimZero = Some (codes "M5")
model_cause ds (model.NotSymmetric letter) = Some (map_cause ds (codes "M6") letter.0)
model_cause ds (model.Memory failed) = None

-- the declared map that the text of a model's refusal names is a letter of the quiver
abbrev pub HasModelLetter : List Declaration → ModelRefusal → Type 0
HasModelLetter ds model.NoSuchClaim = ⊤
HasModelLetter ds (model.MissingMap letter) = letter.0 < letter_count ds
HasModelLetter ds (model.BadShape letter) = letter.0 < letter_count ds
HasModelLetter ds (model.NotSymmetric letter) = letter.0 < letter_count ds
HasModelLetter ds (model.NotZero number) = ⊤
HasModelLetter ds model.ClaimZero = ⊤
HasModelLetter ds (model.Memory failed) = ⊤

-- What a confirmed model means: it refutes the claim that it names.
abbrev pub ConfirmedMeans : Problem → Model → Type 0
ConfirmedMeans problem m = RefutedMeans problem m.claim m

-- models, each confirmed, which refutes the claim that it names, or refused for the first test that fails
abbrev pub models : Kind Model ModelRefusal
models = record {
  AreBlocks = IsModels;
  IsFirstFault = IsFirstFault;
  Passes = Refutes;
  IsRefused = RefusesModel;
  shows = λ problem m. claim_confirmed m.claim;
  cause = model_cause;
  Shown = ConfirmedMeans;
  Means = λ Object Arrow s problem m. ConfirmedMeans problem m;
}
