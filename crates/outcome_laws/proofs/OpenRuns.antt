-- What holds of a run while a claim is open, where it closes, and where it stops.
use Rattle.outcome_laws.proofs.Prelude.{◌≡◌, ◌<◌, ℕ, zero, suc, List, [], ◌∷◌, length, Some, None, Ok, sym, ap, ◌∙◌, subst, arith, Term, InRationalIdeal, IsShaped, Halt, Place, Compare, IsAdmissible, asked_cmp, letter_count, quiver_of, Rule, State, normal_form_of, ComesBelow, Problem, polynomials, claim_at, IsNonzero, IsReduced, normal_forms_are_reduced, NothingPendingBelow, nonzero_is_outside, nonzero_is_not_below, normal_forms_are_shaped, Budget, Waiting, AreAllPending, Setting, RunState, closed, stopped, IsRound, IsRunState, setting_of, IsLeft, IsOpen, asked_rank, open_run}
use Rattle.cofactor_trace.specs.declared.halt.Place.TheVariants as place
use Rattle.outcome_laws.proofs.Adding.{nonzero}
use Rattle.outcome_laws.proofs.RunsKept.{letters_below}
use Rattle.outcome_laws.proofs.ProblemPolynomials.{any_letter, generators_are, claim_is, claim_letters, all_have_turns}
use Rattle.outcome_laws.proofs.ProblemStates.{order_laws, state_kept}
use Rattle.outcome_laws.proofs.RoundEnds.{StopsLater, pairs_spent, gives_up, zero_ends, later_ends}
use Rattle.outcome_laws.proofs.WholeRuns.{closed_is_nothing_pending, first_is_least_pending}

-- a sorted list with a term isn't zero
pub some_nonzero : (p : List Term) → IsShaped p → 0 < length p → IsNonzero p
some_nonzero [] shaped some = absurd (omega (arith, some))
some_nonzero (t ∷ p) shaped some = nonzero t p shaped

-- a place in a run, and none in the work on a claim or on its certificate
pub record IsInRun (at : Place) : Type 0 where
  pub no_certificate : (round : ℕ) → at ≡ place.Certificate round → ⊥

round_in_run : (at : Place) (number : ℕ) → at ≡ place.Round number → IsInRun at
round_in_run at number is = record { no_certificate = λ round e. (cc (sym is ∙ e)) }

run_in_run : (at : Place) → at ≡ place.Run → IsInRun at
run_in_run at is = record { no_certificate = λ round e. (cc (sym is ∙ e)) }

-- nothing is pending below the least word that a stopped round names
pub record StopsBelow (letters : ℕ) (compare : Compare) (s : RunState) (h : Halt) : Type 0 where
  pub none_below : (word : List ℕ) → h.least ≡ Some word → NothingPendingBelow letters compare s.rules s.treated word
  pub in_run : IsInRun h.place

module _ (letters : ℕ) (rank : List ℕ → List ℕ) (setting : Setting) (laws : IsAdmissible letters setting.compare rank) (s : RunState) (h : Halt) where
  -- round 0 names none
  pub record NamesNone : Type 0 where
    pub none : h.least ≡ None
    pub in_run : IsInRun h.place

  pub zero_stops : IsRound setting 0 s (stopped h) → NamesNone
  zero_stops round =
      let stop = zero_ends setting s (stopped h) round in
      record { none = ap (λ (k : Halt). k.least) stop.is; in_run = round_in_run h.place 0 (ap (λ (k : Halt). k.place) stop.is) }

  pub later_stops : (n : ℕ) → IsRound setting (suc n) s (stopped h) → StopsBelow letters setting.compare s h
  later_stops n round = go (later_ends setting s (suc n) (stopped h) round)
    where
      below : (w : Waiting) (ws : List Waiting) → AreAllPending setting.compare s.rules s.treated (w ∷ ws) → h.least ≡ Some w.word → IsInRun h.place → StopsBelow letters setting.compare s h
      below w ws all least in_run = record {
        none_below = λ word is.
            subst (NothingPendingBelow letters setting.compare s.rules s.treated) (cc (sym least ∙ is))
            (first_is_least_pending letters setting.compare rank s.rules s.treated w ws laws all);
        in_run = in_run;
      }

      go : StopsLater setting s (suc n) h → StopsBelow letters setting.compare s h
      go (pairs_spent w ws all spent is) = below w ws all (ap (λ (k : Halt). k.least) is) (run_in_run h.place (ap (λ (k : Halt). k.place) is))
      go (gives_up takes stop) =
          below takes.first takes.others takes.all_pending (ap (λ (k : Halt). k.least) stop.is) (round_in_run h.place (suc n) (ap (λ (k : Halt). k.place) stop.is))

-- the run of a problem
module _ (problem : Problem) (budget : Budget) where
  abbrev setting : Setting
  setting = setting_of problem budget

  abbrev letters : ℕ
  letters = letter_count problem.parts.quiver

  abbrev compare : Compare
  compare = asked_cmp problem.parts.order

  abbrev rank : List ℕ → List ℕ
  rank = asked_rank (letter_count problem.parts.quiver) problem.parts.order

  abbrev generators : List (List Term)
  generators = polynomials problem.generators

  module _ (number : ℕ) where
    abbrev claim : List Term
    claim = claim_at problem number

    pub claim_reduced : (n : ℕ) (s : RunState) → IsRunState setting n s → (left : State) → normal_form_of compare s.rules claim budget.steps ≡ Ok left → IsReduced letters compare s.rules claim left
    claim_reduced n s is left ends =
        normal_forms_are_reduced letters compare rank s.rules claim budget.steps left (order_laws problem budget) (state_kept problem budget n s is).kept.are_rules (claim_is problem number).shaped (claim_is problem number).over ends

    -- what is left isn't zero
    left_nonzero : (rules : List Rule) (rest : List Term) (left : IsLeft setting rules claim rest) → IsNonzero left.reduced.rest
    left_nonzero rules rest left =
        some_nonzero left.reduced.rest (normal_forms_are_shaped compare rules claim budget.steps left.reduced (claim_is problem number).shaped left.reduction)
        (subst (λ (p : List Term). 0 < length p) (sym left.rest_is) left.nonzero)

    pub closed_outside : (n : ℕ) (s : RunState) (rest : List Term) → IsOpen setting claim n s → IsRound setting n s closed → IsLeft setting s.rules claim rest → InRationalIdeal generators claim → ⊥
    closed_outside zero s rest opened round left inside = absurd (zero_ends setting s closed round)
    closed_outside (suc n) s rest opened round left inside =
        let run = open_run setting claim (suc n) s opened in
        nonzero_is_outside letters compare rank generators s.rules s.made setting.in_turn s.treated claim left.reduced (order_laws problem budget) (state_kept problem budget (suc n) s run).kept (all_have_turns problem)
        (closed_is_nothing_pending setting n s round) (claim_letters problem number) (claim_reduced (suc n) s run left.reduced left.reduction) (left_nonzero s.rules rest left) inside

    -- an open claim does not follow below a word that nothing is pending below
    pub open_not_below : (n : ℕ) (s : RunState) → IsOpen setting claim (suc n) s → (word : List ℕ) → NothingPendingBelow letters compare s.rules s.treated word → ComesBelow letters compare generators word claim → ⊥
    open_not_below n s opened word none_below comes =
        let run = open_run setting claim (suc n) s opened in
        nonzero_is_not_below letters compare rank generators s.rules s.made setting.in_turn s.treated word claim opened.left.reduced (order_laws problem budget)
        (letters_below (quiver_of problem.parts.quiver) any_letter letters generators (generators_are problem))
        (state_kept problem budget (suc n) s run).kept (all_have_turns problem) none_below (claim_reduced (suc n) s run opened.left.reduced opened.left.reduction)
        (left_nonzero s.rules opened.rest opened.left) comes

    -- what a stopped run says of the claim
    pub record StopMeans (h : Halt) : Type 0 where
      pub not_below : (word : List ℕ) → h.least ≡ Some word → ComesBelow letters compare generators word claim → ⊥
      pub in_run : IsInRun h.place

    pub stop_means : (n : ℕ) (s : RunState) (h : Halt) → IsOpen setting claim n s → IsRound setting n s (stopped h) → StopMeans h
    stop_means zero s h opened round =
        let stop = zero_stops letters rank setting (order_laws problem budget) s h round in
        record { not_below = λ word least comes. (cc (sym stop.none ∙ least)); in_run = stop.in_run }
    stop_means (suc n) s h opened round =
        let stop = later_stops letters rank setting (order_laws problem budget) s h n round in
        record { not_below = λ word least comes. open_not_below n s opened word (stop.none_below word least) comes; in_run = stop.in_run }
