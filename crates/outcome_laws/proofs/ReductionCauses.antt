-- What the faults of a reduction and of an S-polynomial say at their places.
use Rattle.outcome_laws.proofs.Prelude.{◌≡◌, ℕ, suc, List, Option, refl, sym, ap, subst, ◌∙◌, asked_cmp, PolyFault, size_fault, Cause, Place, Rule, ReduceFault, halt_of, Ambiguity, IsAmbiguity, Problem, Budget, IsCauseOf, unreduced, AreRulesOf, Reduction, CauseMeans, in_reduction, in_sum, after_step, in_multiple, in_s_polynomial}
use Rattle.cofactor_trace.specs.declared.halt.Cause.TheVariants as cause
use Rattle.cofactor_trace.specs.declared.halt.Place.TheVariants as place
use Rattle.rule_reduce.specs.declared.fault.ReduceFault.TheVariants as fault
use Rattle.outcome_laws.proofs.ReductionFaults.{Stops, steps_spent, overflow, size}
use Rattle.outcome_laws.proofs.SPolynomialFaults.{SPolynomialStops, sum_overflows, multiple_passes, sum_passes}

module _ (problem : Problem) (budget : Budget) (number : ℕ) (at : Place) (least : Option (List ℕ)) where
  abbrev Means : Cause → Type 0
  Means = CauseMeans problem budget number at least

  -- the cause of a fault that is known
  pub by_cause : (e d : ReduceFault) (c known : Cause) → e ≡ d → (IsCauseOf d c → c ≡ known) → IsCauseOf e c → Means known → Means c
  by_cause e d c known is tells why means = subst Means (sym (tells (subst (λ f. IsCauseOf f c) is why))) means

  pub reduction_means : (r : Reduction problem budget number at) (e : ReduceFault) (c : Cause)
      → Stops (asked_cmp problem.parts.order) r.rules budget.steps budget.steps (unreduced r.polynomial) e → IsCauseOf e c → Means c
  reduction_means r e c (steps_spent is more) why =
      by_cause e (fault.Steps budget.steps) c (cause.Steps budget.steps) is (λ k. k) why (record { budget_is = refl; reduction = r; one_more = more })
  reduction_means r e c (overflow o is fails of) why =
      by_cause e (fault.Overflow o) c (cause.Overflow o) is (λ k. k) why (record { out_of_range = fails; arithmetic = in_reduction r of })
  reduction_means r e c (size letters is gets) why =
      by_cause e (halt_of (size_fault letters)) c (cause.Size letters) is (λ k. k) why (after_step r gets)

  pub s_polynomial_means : (round : ℕ) → at ≡ place.Round (suc round) → (rules : List Rule) → AreRulesOf problem budget rules → (a : Ambiguity) → IsAmbiguity rules a → (e : ReduceFault) (d : PolyFault) (c : Cause)
      → e ≡ halt_of d → SPolynomialStops rules a d → IsCauseOf e c → Means c
  s_polynomial_means round place_is rules are a is e d c same (sum_overflows o which fails of) why =
      by_cause e (fault.Overflow o) c (cause.Overflow o) (same ∙ ap halt_of which) (λ k. k) why
      (record { out_of_range = fails; arithmetic = in_sum round rules place_is are (record { ambiguity = a; is = is; of_sum = of }) })
  s_polynomial_means round place_is rules are a is e d c same (multiple_passes letters row which listed large) why =
      by_cause e (halt_of (size_fault letters)) c (cause.Size letters) (same ∙ ap halt_of which) (λ k. k) why (in_multiple round rules a row place_is are is listed large)
  s_polynomial_means round place_is rules are a is e d c same (sum_passes letters p which shaped sum large) why =
      by_cause e (halt_of (size_fault letters)) c (cause.Size letters) (same ∙ ap halt_of which) (λ k. k) why
      (in_s_polynomial round rules p place_is are (record { ambiguity = a; is = is; shaped = shaped; is_sum = sum }) large)
