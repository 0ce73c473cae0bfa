-- `undecided`: the line names what stopped the search, and that did stop it; with a least word no positive multiple of the claim is a combination below it.
use Rattle.std.specs.Prelude.{◌≡◌, ◌<◌, ℕ, List, ◌++◌, codes}
use Rattle.cofactor_trace.specs.declared.halt.Halt.{Halt}
use Rattle.adjoint_rules.specs.declared.problem.Problem.{Problem}
use Rattle.traced_completion.specs.declared.budget.Budget.{Budget}
use Rattle.command_shape.specs.Limits.{default_pairs, default_steps}
use Rattle.command_shape.specs.declared.call.Call.{Call}
use Rattle.command_shape.specs.declared.call.Call.TheVariants.{Prove}
use Rattle.outcome_laws.specs.Halts.{HaltMeans}
use Rattle.report_text.specs.Heads.{cause_text, place_text, least_text}
use Rattle.stated_problem.specs.Stated.{IsStated}
use Rattle.command_runs.specs.Promises.Lines.{HasLine, claim_line, number_limit}

-- the pairs and the steps that a call may use: those that it names, or the defaults
abbrev pub budget_of : Call → Budget
budget_of (Prove p) = record { pairs = p.pairs; steps = p.steps }
budget_of other = record { pairs = default_pairs; steps = default_steps }

-- The bytes are a file without a fault, with this problem, and this says why its claim with this number is undecided: the cause, the place, and the
-- least word.
pub record IsUndecided (budget : Budget) (bytes : List ℕ) (number : ℕ) (text : List ℕ) : Type 0 where
  pub problem : Problem
  pub stated : IsStated bytes problem
  pub halt : Halt
  pub says : text ≡ cause_text halt.cause ++ place_text halt.place ++ least_text problem.parts.quiver halt.least
  pub means : HaltMeans problem budget number halt

-- The promise.
pub record UndecidedIsMeant (budget : Budget) (bytes put : List ℕ) : Type 0 where
  pub undecided : (number : ℕ) (text : List ℕ) → number < number_limit → HasLine put (claim_line number (codes "undecided " ++ text)) → IsUndecided budget bytes number text
