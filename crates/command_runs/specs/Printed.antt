-- The bases that are printed of closed claims: they are closed, or their check stops.
use Rattle.std.specs.Prelude.{◌⊎◌, ⊤}
use Rattle.traced_rows.specs.declared.evidence.Format.{Format}
use Rattle.adjoint_rules.specs.declared.problem.Problem.{Problem}
use Rattle.adjoint_rules.specs.Claims.{claim_numbers}
use Rattle.traced_completion.specs.declared.budget.Budget.{Budget}
use Rattle.traced_completion.specs.PlainRun.{setting_of}
use Rattle.claim_decider.specs.declared.outcome.Outcome.TheVariants as outcome
use Rattle.claim_decider.specs.Decided.{AreLastRules}
use Rattle.outcome_laws.specs.Meanings.{IsOutcomeAt}
use Rattle.adjoint_rules.specs.declared.basis.Basis.{Basis}
use Rattle.closed_checker.specs.declared.refusal.ClosedRefusal.{ClosedRefusal}
use Rattle.closed_checker.specs.declared.refusal.ClosedRefusal.TheVariants as refusal
use Rattle.closed_checker.specs.Closed.{IsClosedBasis, Refuses, IsMemory}

-- The basis of a claim that is closed in the run with this budget: its number, the last rules, and its rest
pub record IsPrinted (problem : Problem) (budget : Budget) (form : Format) (b : Basis) : Type 0 where
  pub outcome : IsOutcomeAt problem budget form b.claim (outcome.Closed b.rest)
  pub rules : AreLastRules (setting_of problem budget) form problem (claim_numbers problem) b.rules

-- an S-polynomial or a reduction has a fault
abbrev pub IsStop : ClosedRefusal → Type 0
IsStop (refusal.Stopped p c) = ⊤
IsStop other = ⊥

-- The basis is closed, or it is refused because its check stops; it is refused for nothing else but want of memory.
pub record IsConfirmedWithinLimits (problem : Problem) (b : Basis) : Type 0 where
  pub judged : IsClosedBasis problem b ⊎ ((r : ClosedRefusal) × Refuses problem b r × IsStop r)
  pub no_other : (r : ClosedRefusal) → Refuses problem b r → IsStop r ⊎ IsMemory r

-- This holds for each basis that is printed.
abbrev pub PrintedBasesAreConfirmed : Type 0
PrintedBasesAreConfirmed =
    (problem : Problem) (budget : Budget) (form : Format) (b : Basis) → IsPrinted problem budget form b → IsConfirmedWithinLimits problem b
