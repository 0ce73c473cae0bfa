-- The evidence of a derived claim is accepted, or a limit is passed in adding it up.
use Rattle.report_readback.proofs.Prelude.{◌≡◌, ◌⊎◌, inl, inr, ℕ, List, [], ◌∷◌, sym, subst, length, All, All-nil, All-cons, All-head, All-tail, Evidence, Format, IsEvidenceOf, IsNumberUpTo, length-polynomials, Refusal, IsMemory, evidence_is_judged, Problem, polynomials, claim_at, claim_numbers, Budget, setting_of, Outcome, AreOutcomesOf, IsCertificateWithin, IsLemmaCertificateWithin, IsWithinLimits, evidence_fits, IsOutcomeAt, certificate_adds_up, derived_in, PassesLimit, AcceptsOf, RefusesOf, IsAnsweredWithinLimits, DerivedEvidenceIsAnswered, ReportedEvidenceIsAnswered}
use Rattle.traced_rows.specs.declared.evidence.Evidence.TheVariants as evidence
use Rattle.claim_decider.specs.declared.outcome.Outcome.TheVariants as outcome
use Rattle.report_readback.proofs.ClaimNumbers.{numbers_there}
use Rattle.report_readback.proofs.PlainAnswers.{Polys, plain_answer}
use Rattle.report_readback.proofs.LemmaAnswers.{lemmas_certificate_answer}
use Rattle.report_readback.proofs.LemmaPolys.{lemmas_of}

module _ (problem : Problem) (budget : Budget) (form : Format) (number : ℕ) (there : IsNumberUpTo (length problem.parts.claims) number) where
  abbrev claims : Polys
  claims = polynomials problem.parts.claims

  abbrev generators : Polys
  generators = polynomials problem.generators

  counted : length generators ≡ length problem.generators
  counted = length-polynomials problem.generators

  -- the claim that the evidence names is one of the claims
  named_there : (n : ℕ) → n ≡ number → IsNumberUpTo (length claims) n
  named_there n is = rw (length-polynomials problem.parts.claims, is) there

  no_other : (e : Evidence) → IsOutcomeAt problem budget form number (outcome.Derived e) → IsWithinLimits problem number e
      → (r : Refusal) → RefusesOf problem e r → PassesLimit r ⊎ IsMemory r
  no_other (evidence.Plain c) is within r refused =
      plain_answer claims generators c (named_there c.claim within.claim)
      (subst (λ count. IsCertificateWithin count c.claim c) (sym counted) (subst (λ n. IsCertificateWithin (length problem.generators) n c) (sym within.claim) within))
      (certificate_adds_up problem budget form number c is) r refused
  no_other (evidence.Lemmas c) is within r refused =
      let found = lemmas_of problem budget form number c is in
      lemmas_certificate_answer claims generators c found.lemmas (named_there c.claim within.claim)
      (subst (λ count. IsLemmaCertificateWithin count c.claim c) (sym counted) (subst (λ n. IsLemmaCertificateWithin (length problem.generators) n c) (sym within.claim) within)) found.canonical
      (subst (λ n. IsEvidenceOf generators found.lemmas c (claim_at problem n)) (sym within.claim) found.evidence) r refused

  answered : (e : Evidence) → IsOutcomeAt problem budget form number (outcome.Derived e) → IsAnsweredWithinLimits problem e
  answered e is = record { judged = judge (evidence_is_judged claims generators e); no_other = only }
    where
      only : (r : Refusal) → RefusesOf problem e r → PassesLimit r ⊎ IsMemory r
      only = no_other e is (evidence_fits problem budget form number e is)

      limit : (r : Refusal) → PassesLimit r ⊎ IsMemory r → (IsMemory r → ⊥) → PassesLimit r
      limit r (inl passes) not = passes
      limit r (inr memory) not = absurd (not memory)

      judge : AcceptsOf problem e ⊎ ((r : Refusal) × RefusesOf problem e r × (IsMemory r → ⊥))
          → AcceptsOf problem e ⊎ ((r : Refusal) × RefusesOf problem e r × PassesLimit r)
      judge (inl accepts) = inl accepts
      judge (inr refused) = inr (refused.0, refused.1, limit refused.0 (only refused.0 refused.1) refused.2)

pub derived_evidence_is_answered : DerivedEvidenceIsAnswered
derived_evidence_is_answered problem budget form number e there is = answered problem budget form number there e is

module _ (problem : Problem) (budget : Budget) (form : Format) where
  all_answered : (numbers : List ℕ) (outcomes : List Outcome) → All (IsNumberUpTo (length problem.parts.claims)) numbers → AreOutcomesOf (setting_of problem budget) form problem numbers outcomes
      → All (IsAnsweredWithinLimits problem) (derived_in outcomes)
  all_answered [] [] there are = All-nil (IsAnsweredWithinLimits problem)
  all_answered [] (o ∷ outcomes) there are = absurd are
  all_answered (n ∷ numbers) [] there are = absurd are
  all_answered (n ∷ numbers) (outcome.Derived e ∷ outcomes) there are =
      All-cons (IsAnsweredWithinLimits problem) e (derived_in outcomes) (answered problem budget form n (All-head (IsNumberUpTo (length problem.parts.claims)) n numbers there) e are.0)
      (all_answered numbers outcomes (All-tail (IsNumberUpTo (length problem.parts.claims)) n numbers there) are.1)
  all_answered (n ∷ numbers) (outcome.Closed rest ∷ outcomes) there are = all_answered numbers outcomes (All-tail (IsNumberUpTo (length problem.parts.claims)) n numbers there) are.1
  all_answered (n ∷ numbers) (outcome.Halted h ∷ outcomes) there are = all_answered numbers outcomes (All-tail (IsNumberUpTo (length problem.parts.claims)) n numbers there) are.1

pub reported_evidence_is_answered : ReportedEvidenceIsAnswered
reported_evidence_is_answered problem budget form outcomes are = all_answered problem budget form (claim_numbers problem) outcomes (numbers_there problem) are
