-- What the cause of a halt in the work on a claim or on its certificate says.
use Rattle.outcome_laws.proofs.Prelude.{◌≡◌, ◌<◌, ◌≤◌, ◌⊎◌, inl, inr, ℕ, [], length, None, Ok, Err, refl, sym, ap, subst, arith, length-map, generator_decided, asked_cmp, asked_rank, letter_count, ExpandFault, GatherFault, Cause, expansion_of, gathered_of, State, ReduceFault, normal_form_of, Problem, polynomials, claim_at, Budget, RunState, IsRunState, IsCauseOf, setting_of, IsCauseOfExpansion, IsCauseOfGathering, record_of, IsClaim, of_claim, ClaimRecord, in_making, in_certificate, CauseMeans}
use Rattle.cofactor_trace.specs.declared.halt.Place.TheVariants as place
use Rattle.outcome_laws.proofs.CertificateFaults.{ExpansionStops, expansion_overflows, row_too_long, too_many_rows, expansion_stops, GatheringStops, scale_overflows, too_many_lemma_rows, gathering_stops}
use Rattle.outcome_laws.proofs.Derivations.{zero_traces}
use Rattle.outcome_laws.proofs.OpenRuns.{claim_reduced}
use Rattle.outcome_laws.proofs.ProblemStates.{order_laws, state_kept}
use Rattle.outcome_laws.proofs.ProblemPolynomials.{claim_is}
use Rattle.outcome_laws.proofs.ReductionCauses.{reduction_means}
use Rattle.outcome_laws.proofs.ReductionFaults.{normal_form_stops, normal_form_leaves}
use Rattle.outcome_laws.proofs.RoundCauses.{state_rules}
use Rattle.outcome_laws.proofs.StepMade.{reduced_of}

-- a number whose claim has terms is one of a claim
pub claim_named : (problem : Problem) (number : ℕ) → 0 < length (claim_at problem number) → IsClaim problem number
claim_named problem number some = go (generator_decided (polynomials problem.parts.claims) number)
  where
    go : ((1 ≤ number) × (number ≤ length (polynomials problem.parts.claims))) ⊎ (claim_at problem number ≡ []) → IsClaim problem number
    go (inl is) = (is.0, omega (arith, is.1, length-map problem.parts.claims (λ p. p.terms)))
    go (inr none) = absurd (omega (arith, some, ap length none))

module _ (problem : Problem) (budget : Budget) (number rounds : ℕ) (s : RunState) (run : IsRunState (setting_of problem budget) rounds s) (round : ℕ) (is_claim : IsClaim problem number) where
  -- the reduction of the claim stops
  pub claim_stop_means : (e : ReduceFault) (c : Cause) → IsCauseOf e c → normal_form_of (asked_cmp problem.parts.order) s.rules (claim_at problem number) budget.steps ≡ Err e
      → CauseMeans problem budget number (place.Claim round) None c
  claim_stop_means e c why ends =
      reduction_means problem budget number (place.Claim round) None
      (record { rules = s.rules; are_rules = state_rules problem budget rounds s run; polynomial = claim_at problem number; is = of_claim round refl is_claim refl }) e c
      (normal_form_stops (letter_count problem.parts.quiver) (asked_cmp problem.parts.order) (asked_rank (letter_count problem.parts.quiver) problem.parts.order) s.rules (claim_at problem number) budget.steps e
      (order_laws problem budget) (claim_is problem number).shaped ends) why

  -- nothing is left of the claim
  module _ (left : State) (ends : normal_form_of (asked_cmp problem.parts.order) s.rules (claim_at problem number) budget.steps ≡ Ok left) (none : left.rest ≡ []) where
    abbrev recorded_claim : ClaimRecord problem budget number
    recorded_claim = record {
      is_claim = is_claim;
      rules = s.rules;
      are_rules = state_rules problem budget rounds s run;
      recorded = (state_kept problem budget rounds s run).kept.recorded;
      reduced = reduced_of left;
      leaves = normal_form_leaves (letter_count problem.parts.quiver) (asked_cmp problem.parts.order) (asked_rank (letter_count problem.parts.quiver) problem.parts.order) s.rules (claim_at problem number) budget.steps left
          (order_laws problem budget) (claim_is problem number).shaped ends;
      nothing = none;
      claim = record_of left;
      scale_is = refl;
      rows_are = refl;
      traces = zero_traces (letter_count problem.parts.quiver) (asked_cmp problem.parts.order) (polynomials problem.generators) s.rules (claim_at problem number) left (claim_reduced problem budget number rounds s run left ends) none;
    }

    abbrev Means : Cause → Type 0
    Means = CauseMeans problem budget number (place.Certificate round) None

    pub expansion_means : (e : ExpandFault) (c : Cause) → IsCauseOfExpansion e c → expansion_of s.made (record_of left) ≡ Err e → Means c
    expansion_means e c why is = go (expansion_stops s.made (record_of left) e is)
      where
        go : ExpansionStops s.made (record_of left) e → Means c
        go (expansion_overflows o same fails of) =
            subst Means (sym (subst (λ f. IsCauseOfExpansion f c) same why)) (record { out_of_range = fails; arithmetic = in_making round refl recorded_claim of })
        go (row_too_long same long) = subst Means (sym (subst (λ f. IsCauseOfExpansion f c) same why)) (in_certificate round refl refl recorded_claim long)
        go (too_many_rows letters same many) =
            subst Means (sym (subst (λ f. IsCauseOfExpansion f c) same why)) (record { round = round; place_is = refl; record_of = recorded_claim; many = many })

    pub gathering_means : (e : GatherFault) (c : Cause) → IsCauseOfGathering e c → gathered_of number s.made (record_of left) ≡ Err e → Means c
    gathering_means e c why is = go (gathering_stops number s.made (record_of left) e is)
      where
        go : GatheringStops s.made (record_of left) e → Means c
        go (scale_overflows o same fails of) =
            subst Means (sym (subst (λ f. IsCauseOfGathering f c) same why)) (record { out_of_range = fails; arithmetic = in_making round refl recorded_claim of })
        go (too_many_lemma_rows letters same many) =
            subst Means (sym (subst (λ f. IsCauseOfGathering f c) same why)) (record { round = round; place_is = refl; record_of = recorded_claim; many = many })
