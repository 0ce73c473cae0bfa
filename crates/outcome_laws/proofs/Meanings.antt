-- Each outcome means what it says.
use Rattle.outcome_laws.proofs.Prelude.{◌≡◌, ℕ, pos, [], refl, sym, subst, arith, ints, All-replicate, dvd_refl, IsCombination, Lemma, LemmaCertificate, Format, Cause, IsEvidenceOf, IsShareOf, lemma_polys, polynomials_of, Problem, polynomials, claim_at, Budget, setting_of, Outcome, halted_at, record_of, evidence_of_zero, EvidenceAddsUp, OutcomeMeans, DerivedClaimsAddUp, ClosedClaimsAreOutside, LeastWordsBoundDerivations, HaltedCertificatesAreInside, OutcomesMeanWhatTheySay, open_run, Place}
use Rattle.traced_rows.specs.declared.evidence.Format.TheVariants as format
use Rattle.claim_decider.specs.declared.outcome.Outcome.TheVariants as outcome
use Rattle.outcome_laws.proofs.OpenRuns.{closed_outside, stop_means}
use Rattle.outcome_laws.proofs.RoundCauses.{stop_says}
use Rattle.outcome_laws.proofs.ClaimCauses.{claim_named, claim_stop_means, expansion_means, gathering_means}
use Rattle.outcome_laws.proofs.Derivations.{follows, expansion_adds_up, gathering_adds_up, gathering_names}
use Rattle.outcome_laws.proofs.OutcomeWays.{GivesUp, at_claim, at_expansion, at_gathering, Way, no_terms, expanded, gathered, left_over, given_up, with_run, way}

-- the certificate with lemmas of a claim without terms
abbrev zero_goal : Lemma
zero_goal = record { scale = pos 1; rows = [] }

abbrev zero_certificate : ℕ → LemmaCertificate
zero_certificate number = record { claim = number; denominator = pos 1; lemmas = []; goal = zero_goal }

module _ (problem : Problem) (budget : Budget) (number : ℕ) where
  abbrev Means : Outcome → Type 0
  Means = OutcomeMeans problem budget number

  -- the claim zero
  zero_means : (form : Format) → claim_at problem number ≡ [] → EvidenceAddsUp problem number (evidence_of_zero form number)
  zero_means format.Plain none = record {
    claim = refl;
    combination = subst (IsCombination (polynomials problem.generators) [] (pos 1)) (sym none) (record { positive = omega (arith, ints); sum = record { at = λ w. refl } });
  }
  zero_means format.Lemmas none = record {
    claim = refl;
    lemmas = [];
    evidence = subst (IsEvidenceOf (polynomials problem.generators) [] (zero_certificate number)) (sym none) (record {
      positive = omega (arith, ints);
      shares = All-replicate (IsShareOf (pos 1)) 1 zero_goal (omega (arith, ints), dvd_refl 1);
      lemmas_add_up = tt;
      goal_adds_up = record { at = λ w. refl };
    });
  }

  -- the work on it
  work_means : (at : Place) (c : Cause) → GivesUp (setting_of problem budget) number (claim_at problem number) at c → Means (halted_at at c)
  work_means _ _ (at_claim round rounds s e c some run ends is) = record {
    cause_means = claim_stop_means problem budget number rounds s run round (claim_named problem number some) e c is ends;
    not_below = λ word least. absurd (cc);
    inside = λ n at. absurd (cc);
  }
  work_means _ _ (at_expansion round by e c ends is) = record {
    cause_means = expansion_means problem budget number by.rounds by.state by.run round (claim_named problem number by.some) by.reduced by.reduction by.none e c is ends;
    not_below = λ word least. absurd (cc);
    inside = λ n at. follows problem budget number by.rounds by.state by.run by.reduced by.reduction by.none;
  }
  work_means _ _ (at_gathering round by e c ends is) = record {
    cause_means = gathering_means problem budget number by.rounds by.state by.run round (claim_named problem number by.some) by.reduced by.reduction by.none e c is ends;
    not_below = λ word least. absurd (cc);
    inside = λ n at. follows problem budget number by.rounds by.state by.run by.reduced by.reduction by.none;
  }

  way_means : (form : Format) (o : Outcome) → Way (setting_of problem budget) form number (claim_at problem number) o → Means o
  way_means form o (no_terms none is) = subst Means (sym is) (zero_means form none)
  way_means form o (expanded by c ends is) =
      subst Means (sym is) (record { claim = refl; combination = expansion_adds_up problem budget number by.rounds by.state by.run by.reduced by.reduction by.none c ends })
  way_means form o (gathered by c ends is) = subst Means (sym is) (record {
    claim = gathering_names problem budget number by.rounds by.state by.run by.reduced by.reduction by.none c ends;
    lemmas = lemma_polys (polynomials_of by.state.rules) by.state.made (record_of by.reduced);
    evidence = gathering_adds_up problem budget number by.rounds by.state by.run by.reduced by.reduction by.none c ends;
  })
  way_means form o (left_over rounds s is_open round rest left is) =
      subst Means (sym is) (λ inside. closed_outside problem budget number rounds s rest.terms is_open round left inside)
  way_means form o (given_up at c stops is) = subst Means (sym is) (work_means at c stops)
  way_means form o (with_run rounds s halt is_open round is) =
      let means = stop_means problem budget number rounds s halt is_open round in
      subst Means (sym is) (record {
        cause_means = stop_says problem budget number rounds s halt (open_run (setting_of problem budget) (claim_at problem number) rounds s is_open) round;
        not_below = λ word least comes. means.not_below word least comes;
        inside = λ n at. absurd (means.in_run.no_certificate n at);
      })

-- the laws
pub outcomes_mean_what_they_say : OutcomesMeanWhatTheySay
outcomes_mean_what_they_say problem budget form number o is =
    way_means problem budget number form o (way (setting_of problem budget) form number (claim_at problem number) o is.rounds is.state is.gets)

pub derived_claims_add_up : DerivedClaimsAddUp
derived_claims_add_up problem budget form number e is = outcomes_mean_what_they_say problem budget form number (outcome.Derived e) is

pub closed_claims_are_outside : ClosedClaimsAreOutside
closed_claims_are_outside problem budget form number rest is = outcomes_mean_what_they_say problem budget form number (outcome.Closed rest) is

pub least_words_bound_derivations : LeastWordsBoundDerivations
least_words_bound_derivations problem budget form number h word is = (outcomes_mean_what_they_say problem budget form number (outcome.Halted h) is).not_below word

pub halted_certificates_are_inside : HaltedCertificatesAreInside
halted_certificates_are_inside problem budget form number h round is = (outcomes_mean_what_they_say problem budget form number (outcome.Halted h) is).inside round
