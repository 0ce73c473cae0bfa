-- The report of the outcomes of a problem is read as the evidence of the claims that are derived.
use Rattle.report_readback.proofs.Prelude.{◌≡◌, ◌≤◌, inl, inr, ℕ, List, [], ◌∷◌, arith, refl, sym, ap, ◌∙◌, subst, length, All, All-nil, All-cons, All-head, All-tail, length-range_with_len, AllZip-long, Declaration, Format, Halt, IsNumberUpTo, Problem, claim_at, claim_numbers, Budget, setting_of, Outcome, IsOutcomeOf, AreOutcomesOf, evidence_fits, outcomes_have_letters, last_rules_have_letters, Verdict, report_of, IsLeastOver, IsReadAs, proved_in, IsWritableVerdict, IsVerdictOfHalt, IsVerdictOf, AreVerdictsOf, derived_in, OutcomeReportsReadBack}
use Rattle.claim_decider.specs.declared.outcome.Outcome.TheVariants as outcome
use Rattle.report_readback.proofs.ClaimNumbers.{numbers_there}
use Rattle.report_readback.proofs.Reports.{reports_read_back}
use Rattle.report_readback.proofs.Writable.{evidence_writable}

-- the evidence of the verdicts is that of the outcomes
module _ (ds : List Declaration) where
  none_of_halted : (h : Halt) (v : Verdict) (verdicts : List Verdict) → IsVerdictOfHalt ds h v → proved_in (v ∷ verdicts) ≡ proved_in verdicts
  none_of_halted h v verdicts (inl undecided) = ap (λ u. proved_in (u ∷ verdicts)) undecided
  none_of_halted h v verdicts (inr refuted) = ap (λ u. proved_in (u ∷ verdicts)) refuted.2

  pub proved_is_derived : (outcomes : List Outcome) (verdicts : List Verdict) → AreVerdictsOf ds outcomes verdicts → proved_in verdicts ≡ derived_in outcomes
  proved_is_derived [] [] are = refl
  proved_is_derived [] (v ∷ verdicts) are = absurd are
  proved_is_derived (o ∷ outcomes) [] are = absurd are
  proved_is_derived (outcome.Derived e ∷ outcomes) (v ∷ verdicts) are = ap (λ u. proved_in (u ∷ verdicts)) are.0 ∙ ap (λ es. e ∷ es) (proved_is_derived outcomes verdicts are.1)
  proved_is_derived (outcome.Closed rest ∷ outcomes) (v ∷ verdicts) are = ap (λ u. proved_in (u ∷ verdicts)) are.0 ∙ proved_is_derived outcomes verdicts are.1
  proved_is_derived (outcome.Halted h ∷ outcomes) (v ∷ verdicts) are = none_of_halted h v verdicts are.0 ∙ proved_is_derived outcomes verdicts are.1

  halted_writable : (h : Halt) (v : Verdict) → IsLeastOver ds h.least → IsVerdictOfHalt ds h v → IsWritableVerdict ds v
  halted_writable h v over (inl undecided) = subst (IsWritableVerdict ds) (sym undecided) over
  halted_writable h v over (inr refuted) = subst (IsWritableVerdict ds) (sym refuted.2) refuted.1

module _ (problem : Problem) (budget : Budget) (form : Format) where
  writable : (number : ℕ) (o : Outcome) (v : Verdict) → IsNumberUpTo (length problem.parts.claims) number → IsOutcomeOf (setting_of problem budget) form number (claim_at problem number) o
      → IsVerdictOf problem.parts.quiver o v → IsWritableVerdict problem.parts.quiver v
  writable number (outcome.Derived e) v there is said =
      subst (IsWritableVerdict problem.parts.quiver) (sym said)
      (evidence_writable problem number e (omega (arith, there.most, problem.posed.few_claims))
      (evidence_fits problem budget form number e is) (outcomes_have_letters problem budget form number (outcome.Derived e) is))
  writable number (outcome.Closed rest) v there is said = subst (IsWritableVerdict problem.parts.quiver) (sym said) (outcomes_have_letters problem budget form number (outcome.Closed rest) is)
  writable number (outcome.Halted h) v there is said = halted_writable problem.parts.quiver h v (outcomes_have_letters problem budget form number (outcome.Halted h) is) said

  all_writable : (numbers : List ℕ) (outcomes : List Outcome) (verdicts : List Verdict) → All (IsNumberUpTo (length problem.parts.claims)) numbers
      → AreOutcomesOf (setting_of problem budget) form problem numbers outcomes → AreVerdictsOf problem.parts.quiver outcomes verdicts → All (IsWritableVerdict problem.parts.quiver) verdicts
  all_writable numbers [] [] there are said = All-nil (IsWritableVerdict problem.parts.quiver)
  all_writable numbers [] (v ∷ verdicts) there are said = absurd said
  all_writable numbers (o ∷ outcomes) [] there are said = absurd said
  all_writable [] (o ∷ outcomes) (v ∷ verdicts) there are said = absurd are
  all_writable (n ∷ numbers) (o ∷ outcomes) (v ∷ verdicts) there are said =
      All-cons (IsWritableVerdict problem.parts.quiver) v verdicts (writable n o v (All-head (IsNumberUpTo (length problem.parts.claims)) n numbers there) are.0 said.0)
      (all_writable numbers outcomes verdicts (All-tail (IsNumberUpTo (length problem.parts.claims)) n numbers there) are.1 said.1)

  pub verdicts_writable : (outcomes : List Outcome) (verdicts : List Verdict) → AreOutcomesOf (setting_of problem budget) form problem (claim_numbers problem) outcomes
      → AreVerdictsOf problem.parts.quiver outcomes verdicts → All (IsWritableVerdict problem.parts.quiver) verdicts
  verdicts_writable outcomes verdicts are said = all_writable (claim_numbers problem) outcomes verdicts (numbers_there problem) are said

  -- there are as many as claims
  pub few_verdicts : (outcomes : List Outcome) (verdicts : List Verdict) → AreOutcomesOf (setting_of problem budget) form problem (claim_numbers problem) outcomes
      → AreVerdictsOf problem.parts.quiver outcomes verdicts → length verdicts ≤ 100
  few_verdicts outcomes verdicts are said =
      let long = AllZip-long (λ n o. IsOutcomeOf (setting_of problem budget) form n (claim_at problem n) o) (claim_numbers problem) outcomes are in
      let as_many = AllZip-long (IsVerdictOf problem.parts.quiver) outcomes verdicts said in
      omega (arith, long, as_many, length-range_with_len 1 (length problem.parts.claims), problem.posed.few_claims)

pub outcome_reports_read_back : OutcomeReportsReadBack
outcome_reports_read_back problem budget form outcomes verdicts rules are said last known =
    let ds = problem.parts.quiver in
    subst (IsReadAs ds (report_of ds rules verdicts)) (proved_is_derived ds outcomes verdicts said)
    (reports_read_back ds rules verdicts problem.posed.declared known (last_rules_have_letters problem budget form (claim_numbers problem) rules last)
    (verdicts_writable problem budget form outcomes verdicts are said) (few_verdicts problem budget form outcomes verdicts are said))
