-- Evidence of a derived claim names that claim, so it adds up for the claim that it names.
use Rattle.outcome_laws.proofs.Prelude.{ℕ, List, sym, subst, Term, IsCombination, Certificate, LemmaCertificate, Format, rows_of, IsEvidenceOf, Problem, polynomials, claim_at, Budget, IsOutcomeAt}
use Rattle.traced_rows.specs.declared.evidence.Evidence.TheVariants as evidence
use Rattle.claim_decider.specs.declared.outcome.Outcome.TheVariants as outcome
use Rattle.outcome_laws.proofs.Meanings.{derived_claims_add_up}

module _ (problem : Problem) (budget : Budget) (form : Format) (number : ℕ) where
  pub certificate_adds_up : (c : Certificate) → IsOutcomeAt problem budget form number (outcome.Derived (evidence.Plain c)) → IsCombination (polynomials problem.generators) (rows_of c.rows) c.denominator (claim_at problem c.claim)
  certificate_adds_up c is =
      let adds_up = derived_claims_add_up problem budget form number (evidence.Plain c) is in
      subst (λ n. IsCombination (polynomials problem.generators) (rows_of c.rows) c.denominator (claim_at problem n)) (sym adds_up.claim) adds_up.combination

  -- with the polynomials of its lemmas
  pub record IsEvidence (c : LemmaCertificate) : Type 0 where
    pub lemmas : List (List Term)
    pub evidence : IsEvidenceOf (polynomials problem.generators) lemmas c (claim_at problem c.claim)
