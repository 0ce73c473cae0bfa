-- What the answers on a claim say of the equations of the file.
use Rattle.std.specs.Prelude.{ℕ, ℤ, List}
use Rattle.definitions.specs.Category.{Structure}
use Rattle.matrix_models.specs.declared.model.Model.{Model}
use Rattle.statement_syntax.specs.declared.tree.Statement.{Statement}
use Rattle.adjoint_rules.specs.declared.problem.Problem.{Problem}
use Rattle.adjoint_rules.specs.Claims.{claim_at}
use Rattle.signature_typing.specs.Typing.{IsProblemOf}
use Rattle.cofactor_checker.specs.ProvedMeans.{MeansZero}
use Rattle.model_checker.specs.RefutedMeans.{RefutedMeans}
use Rattle.statement_meaning.specs.Claims.{ProvesClaim}
use Rattle.statement_meaning.specs.Counterexamples.{RefutesClaim}
use Rattle.statement_meaning.specs.Laws.{StatementsAreRead, StarredStatementsAreRead}

-- What `proved`, `accepted` and `explained` mean of a claim of a problem, they say of the file.
abbrev pub ProvedClaimsHold : {Object Arrow : Type 0} → Structure Object Arrow → Type 0
ProvedClaimsHold s = (statements : List Statement) (problem : Problem) (number : ℕ) (d : ℤ)
    → IsProblemOf statements problem → MeansZero s problem d (claim_at problem number) → ProvesClaim s statements number d

-- What `refuted` and `confirmed` mean of a claim of a problem, they say of the file.
abbrev pub RefutedClaimsFail : Type 0
RefutedClaimsFail = (statements : List Statement) (problem : Problem) (number : ℕ) (m : Model)
    → IsProblemOf statements problem → RefutedMeans problem number m → RefutesClaim statements number m

-- What is said of the assumptions and the claims of a problem is said of the equations of its file.
pub record SaysEquations {Object Arrow : Type 0} (s : Structure Object Arrow) : Type 0 where
  -- they are zero exactly where the equations hold
  pub plain : StatementsAreRead s
  pub by_star : StarredStatementsAreRead s
  -- so a claim that is proved holds, and one that is refuted doesn't
  pub proved : ProvedClaimsHold s
  pub refuted : RefutedClaimsFail
