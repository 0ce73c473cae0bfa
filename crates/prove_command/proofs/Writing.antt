-- Verdicts that can be written: their letters are letters of the quiver.
use Rattle.prove_command.proofs.Prelude.{ℕ, List, sym, subst, All, Problem, claim_at, setting_of, Halt, Outcome, IsOutcomeOf, AreOutcomesOf, least_refutes, IsOutcomeOver, outcomes_have_letters, Verdict, IsVerdictOver, Asked, IsVerdictOn, AreVerdictsOn, zip_right}
use Rattle.claim_decider.specs.declared.outcome.Outcome.TheVariants as outcome
use Rattle.prove_command.proofs.Outcomes.{OnHalted, broken, left, OnOutcome, by_outcome, verdicts_follow}

module _ (problem : Problem) (asked : Asked) where
  abbrev Over : Verdict → Type 0
  Over = IsVerdictOver problem.parts.quiver

  halted_over : (claim : ℕ) (halt : Halt) (v : Verdict) → IsOutcomeOver problem.parts.quiver (outcome.Halted halt) → OnHalted problem asked claim halt v → Over v
  halted_over claim halt v over (broken m on least is) =
      let model = least_refutes problem claim asked.seed m least in
      subst Over (sym is) (record { sides = model.sides; maps = model.maps })
  halted_over claim halt v over (left none is) = subst Over (sym is) over

  outcome_over : (claim : ℕ) (o : Outcome) (v : Verdict) → IsOutcomeOver problem.parts.quiver o → OnOutcome problem asked claim o v → Over v
  outcome_over claim (outcome.Derived e) v over is = subst Over (sym is) over
  outcome_over claim (outcome.Closed rest) v over is = subst Over (sym is) over
  outcome_over claim (outcome.Halted halt) v over on = halted_over claim halt v over on

  verdict_over : (claim : ℕ) (o : Outcome) (v : Verdict) → IsOutcomeOf (setting_of problem asked.budget) asked.form claim (claim_at problem claim) o → IsVerdictOn problem asked claim o v → Over v
  verdict_over claim o v of is = outcome_over claim o v (outcomes_have_letters problem asked.budget asked.form claim o of) (by_outcome problem asked claim o v is)

  pub verdicts_over : (claims : List ℕ) (os : List Outcome) (vs : List Verdict) → AreOutcomesOf (setting_of problem asked.budget) asked.form problem claims os
      → AreVerdictsOn problem asked claims os vs → All (IsVerdictOver problem.parts.quiver) vs
  verdicts_over claims os vs outcomes verdicts =
      zip_right (λ claim v. Over v) Over (λ claim v over. over) claims vs
      (verdicts_follow problem asked (λ n o. IsOutcomeOf (setting_of problem asked.budget) asked.form n (claim_at problem n) o) (λ claim v. Over v) verdict_over claims os vs outcomes verdicts)
