-- What the cause of a round that stops says.
use Rattle.outcome_laws.proofs.Prelude.{◌≡◌, ◌⊎◌, inl, inr, ◌≤◌, ℕ, zero, suc, List, ◌∷◌, length, Option, Some, None, Err, refl, sym, ap, ◌∙◌, subst, arith, Contains, length-map, Contains-append_cases, Overflow, product_of, Term, generator_at, Compare, asked_cmp, letter_count, Row, Cause, Halt, Place, Rule, State, ReduceFault, row_operations, Ambiguity, s_polynomials_balance, Problem, polynomials, Kept, NothingPendingBelow, rules_are_inside, s_polynomials_are_shaped, Recorded, Budget, Waiting, First, first_rows, rows_operations, AreAllPending, Setting, RunState, stopped, IsCauseOf, recorded, IsRound, IsRunState, setting_of, states_bounded, asked_rank, done_after, AreMade, AreRulesOf, of_generator, of_ambiguity, of_first_rest, IsOfRows, of_first, of_second, in_rows, CauseMeans}
use Rattle.cofactor_trace.specs.declared.halt.Cause.TheVariants as cause
use Rattle.cofactor_trace.specs.declared.halt.Place.TheVariants as place
use Rattle.rule_reduce.specs.declared.fault.ReduceFault.TheVariants as fault
use Rattle.outcome_laws.proofs.DistinctTreated.{distinct_treated}
use Rattle.outcome_laws.proofs.Listed.{failing, value_of}
use Rattle.outcome_laws.proofs.ReductionCauses.{reduction_means, s_polynomial_means, by_cause}
use Rattle.outcome_laws.proofs.ReductionFaults.{normal_form_stops, normal_form_leaves}
use Rattle.outcome_laws.proofs.SPolynomialFaults.{s_polynomial_stops}
use Rattle.outcome_laws.proofs.StepMade.{reduced_of}
use Rattle.outcome_laws.proofs.MadeStates.{IsMade, first_shaped, first_reduction, made_kept, states_made}
use Rattle.outcome_laws.proofs.ProblemPolynomials.{generator_is}
use Rattle.outcome_laws.proofs.ProblemStates.{order_laws, zero_in_run, FailsLater, later_in_run, state_kept}
use Rattle.outcome_laws.proofs.RoundEnds.{Takes, ZeroTurns, LaterTurns, taken_by, taken_are, StopsLater, pairs_spent, gives_up, zero_ends, later_ends}
use Rattle.outcome_laws.proofs.RoundFaults.{FirstFails, not_made, not_reduced, first_fails, SecondStops, in_steps, in_products, second_stops}
use Rattle.outcome_laws.proofs.RunsKept.{BeginsWith, IsFirst, first_with}
use Rattle.outcome_laws.proofs.Walks.{in_first, in_second}
use Rattle.outcome_laws.proofs.WholeRuns.{first_is_least_pending}

-- a product of the rows of a rule that a second reduction makes
rows_operation : (f : First) (s : State) (o : Overflow) → Contains (rows_operations f s) o → IsOfRows f.rows (reduced_of f.reduced) (reduced_of s) o
rows_operation f s o at = by_part (Contains-append_cases (row_operations f.rows f.reduced.multiplier) (row_operations (first_rows f) s.multiplier) o at)
  where
    by_part : Contains (row_operations f.rows f.reduced.multiplier) o ⊎ Contains (row_operations (first_rows f) s.multiplier) o → IsOfRows f.rows (reduced_of f.reduced) (reduced_of s) o
    by_part (inl listed) = let v = value_of (λ (row : Row). product_of row.coef f.reduced.multiplier) f.rows o listed in of_first v.argument v.listed v.is
    by_part (inr listed) = let v = value_of (λ (row : Row). product_of row.coef s.multiplier) (first_rows f) o listed in of_second v.argument v.listed v.is

module _ (problem : Problem) (budget : Budget) where
  abbrev setting : Setting
  setting = setting_of problem budget

  abbrev letters : ℕ
  letters = letter_count problem.parts.quiver

  abbrev compare : Compare
  compare = asked_cmp problem.parts.order

  abbrev rank : List ℕ → List ℕ
  rank = asked_rank (letter_count problem.parts.quiver) problem.parts.order

  abbrev generators : List (List Term)
  generators = polynomials problem.generators

  abbrev rules_of : (r : Recorded) (done : List ℕ) (treated : List Ambiguity) → Kept letters compare generators r.rules r.made done treated
      → AreMade problem budget r.rules r.made → AreRulesOf problem budget r.rules
  rules_of r done treated now made = record {
    are_rules = now.are_rules;
    records = r.made;
    made = made;
    apart = now.apart;
    inside = λ n g numbered. rules_are_inside letters compare generators r.rules r.made done treated n g now numbered;
  }

  abbrev pub state_rules : (n : ℕ) (s : RunState) → IsRunState setting n s → AreRulesOf problem budget s.rules
  state_rules n s is = rules_of (recorded s) (done_after setting n) s.treated (state_kept problem budget n s is).kept (states_made problem budget n s is)

  module _ (number : ℕ) (least : Option (List ℕ)) where
    abbrev Means : Place → Cause → Type 0
    Means at c = CauseMeans problem budget number at least c

    -- round 0
    zero_means : (s : RunState) → IsRunState setting 0 s → (e : ReduceFault) (c : Cause) → IsCauseOf e c → ZeroTurns setting s (Err e) → Means (place.Round 0) c
    zero_means s is e c why turns =
        let fails = zero_in_run problem budget (IsMade problem budget) (made_kept problem budget) s is (Err e) turns in
        let in_range = fails.at.in_range in
        reduction_means problem budget number (place.Round 0) least
        (record {
          rules = fails.before.rules;
          are_rules = rules_of fails.before fails.at.done fails.at.treated fails.at.kept.0 fails.at.holds;
          polynomial = generator_at generators fails.number;
          is = of_generator fails.number in_range.0 (omega (arith, in_range.1, length-map problem.generators (λ p. p.terms))) refl refl;
        }) e c
        (normal_form_stops letters compare rank fails.before.rules (generator_at generators fails.number) budget.steps e (order_laws problem budget) (generator_is problem fails.number).shaped fails.fails) why

    -- a later round
    module _ (n : ℕ) (s : RunState) (is_state : IsRunState setting (suc n) s) where
      rules : AreRulesOf problem budget s.rules
      rules = state_rules (suc n) s is_state

      first_means : (e : ReduceFault) (c : Cause) → IsCauseOf e c → FirstFails compare budget.steps s.rules e → Means (place.Round (suc n)) c
      first_means e c why (not_made a d is ends same) =
          s_polynomial_means problem budget number (place.Round (suc n)) least n refl s.rules rules a is e d c same (s_polynomial_stops s.rules a is d ends) why
      first_means e c why (not_reduced a p is made ends) =
          let shaped = s_polynomials_are_shaped s.rules a p made in
          reduction_means problem budget number (place.Round (suc n)) least
          (record {
            rules = s.rules;
            are_rules = rules;
            polynomial = p;
            is = of_ambiguity n refl (record { ambiguity = a; is = is; shaped = shaped; is_sum = s_polynomials_balance s.rules a p made });
          }) e c
          (normal_form_stops letters compare rank s.rules p budget.steps e (order_laws problem budget) shaped ends) why

      -- the rest of a first reduction isn't reduced, or a product of the rows overflows
      second_means : (e : ReduceFault) (c : Cause) → IsCauseOf e c → (a : Ambiguity) (first : State) → IsFirst setting s.rules a first → (so_far : List Rule)
          → AreRulesOf problem budget so_far → BeginsWith s.rules so_far
          → SecondStops compare budget.steps (first_with s.rules a first) so_far e → Means (place.Round (suc n)) c
      second_means e c why a first is so_far are begins (in_steps ends) =
          reduction_means problem budget number (place.Round (suc n)) least
          (record { rules = so_far; are_rules = are; polynomial = first.rest; is = of_first_rest n (reduced_of first) refl (first_reduction problem budget s.rules a first is so_far begins) refl }) e c
          (normal_form_stops letters compare rank so_far first.rest budget.steps e (order_laws problem budget) (first_shaped problem budget s.rules a first is) ends) why
      second_means e c why a first is so_far are begins (in_products t o went same first_one) =
          let fail = failing (rows_operations (first_with s.rules a first) t) o first_one in
          by_cause problem budget number (place.Round (suc n)) least e (fault.Overflow o) c (cause.Overflow o) same (λ k. k) why
          (record {
            out_of_range = fail.fails;
            arithmetic = in_rows n so_far (reduced_of first) (reduced_of t) refl are (first_reduction problem budget s.rules a first is so_far begins)
                (normal_form_leaves letters compare rank so_far first.rest budget.steps t (order_laws problem budget) (first_shaped problem budget s.rules a first is) went)
                (rows_operation (first_with s.rules a first) t o fail.listed);
          })

      later_means : (takes : Takes setting s) (e : ReduceFault) (c : Cause) → IsCauseOf e c → LaterTurns setting s takes (Err e) → Means (place.Round (suc n)) c
      later_means takes e c why turns =
          go (later_in_run problem budget (IsMade problem budget) (made_kept problem budget) n s is_state takes (Err e) turns)
        where
          go : FailsLater problem budget (IsMade problem budget) (made_kept problem budget) s.rules (taken_by setting s takes) e → Means (place.Round (suc n)) c
          go (in_first ends) = first_means e c why (first_fails compare budget.steps s.rules (taken_by setting s takes) e (taken_are setting s takes) ends)
          go (in_second a first before at ends) =
              second_means e c why a first at.is_first before.rules (rules_of before at.done at.treated at.kept.0 at.holds) at.begins
              (second_stops compare budget.steps (first_with s.rules a first) before.rules e ends)

      -- the pairs are used up
      pairs_mean : (w : Waiting) (ws : List Waiting) → AreAllPending compare s.rules s.treated (w ∷ ws) → budget.pairs ≤ length s.treated → least ≡ Some w.word → Means place.Run (cause.Pairs (length s.treated))
      pairs_mean w ws all enough named =
          let waits = (all.members w).0 (0, omega arith, λ i. w) in
          let now = (state_kept problem budget (suc n) s is_state).kept in
          record {
            place_is = refl;
            budget_is = omega (arith, enough, (states_bounded setting (suc n) s is_state).few_treated);
            rules = s.rules;
            are_rules = rules;
            treated = s.treated;
            many = refl;
            distinct = distinct_treated letters rank setting (order_laws problem budget) (suc n) s is_state;
            resolved = now.resolved;
            left = w.which;
            is_left = waits.is;
            untreated = waits.untreated;
            word_is = named ∙ ap Some waits.overlap;
            none_below = subst (NothingPendingBelow letters compare s.rules s.treated) waits.overlap (first_is_least_pending letters compare rank s.rules s.treated w ws (order_laws problem budget) all);
          }

  -- what a stop of a round says
  abbrev pub StopMeans : ℕ → Halt → Type 0
  StopMeans number h = CauseMeans problem budget number h.place h.least h.cause

  pub stop_says : (number rounds : ℕ) (s : RunState) (h : Halt) → IsRunState setting rounds s → IsRound setting rounds s (stopped h) → StopMeans number h
  stop_says number zero s h is_state round =
      let stop = zero_ends setting s (stopped h) round in
      subst (StopMeans number) (sym stop.is) (zero_means number None s is_state stop.fault stop.reason stop.reason_of stop.turns)
  stop_says number (suc n) s h is_state round = go (later_ends setting s (suc n) (stopped h) round)
    where
      go : StopsLater setting s (suc n) h → StopMeans number h
      go (pairs_spent w ws all spent is) = subst (StopMeans number) (sym is) (pairs_mean number (Some w.word) n s is_state w ws all spent refl)
      go (gives_up takes stop) =
          subst (StopMeans number) (sym stop.is) (later_means number (Some takes.first.word) n s is_state takes stop.fault stop.reason stop.reason_of stop.turns)
