-- Each round has an outcome, from whatever state.
use Rattle.outcome_laws.proofs.Prelude.{ℕ, zero, suc, ◌++◌, Bool, true, false, leb, List, [], ◌∷◌, length, map, take, Option, Some, None, Result, Ok, Err, refl, AllByRecursion, generator_at, IsAdmissible, IsCanonical, Cause, ReduceFault, IsMemory, Ambiguity, Waiting, each_in_turn, Recorded, generator_work, first_of, ambiguities_of, Setting, RunState, went, closed, stopped, IsCauseOf, Ends, recorded, IsTreated, TreatsFirst, TreatsPending, taken_count, IsRoundZero, IsLaterRound, HasRound, Gives}
use Rattle.cofactor_trace.specs.declared.halt.Cause.TheVariants as cause
use Rattle.cofactor_trace.specs.declared.halt.Place.TheVariants as place
use Rattle.rule_reduce.specs.declared.fault.ReduceFault.TheVariants as fault
use Rattle.traced_completion.specs.PlainRun.{Outcome}
use Rattle.outcome_laws.proofs.Works.{IsFitWork, fit_generator, fit_firsts, has_turn, has_passes}
use Rattle.outcome_laws.proofs.Pending.{has_store}

-- a fault that isn't want of memory has a cause
pub has_cause : (e : ReduceFault) → (IsMemory e → ⊥) → (c : Cause) × IsCauseOf e c
has_cause (fault.Steps limit) exact = (cause.Steps limit, refl)
has_cause (fault.Overflow o) exact = (cause.Overflow o, refl)
has_cause (fault.Size s) exact = (cause.Size s.letters, refl)
has_cause (fault.Memory e) exact = absurd (exact tt)

-- an outcome with a property
record HasOutcome (Is : Outcome → Type 0) : Type 0 where
  outcome : Outcome
  is : Is outcome

has_end : (number : ℕ) (least : Option (List ℕ)) (treated : List Ambiguity) (r : Result Recorded ReduceFault) → Gives (λ x. Unit {0}) r → HasOutcome (Ends number least treated r)
has_end number least treated (Ok r) exact = record { outcome = went (record { rules = r.rules; made = r.made; treated = treated }); is = refl }
has_end number least treated (Err e) exact =
    let reason = has_cause e exact in
    record {
      outcome = stopped (record { cause = reason.0; place = place.Round number; least = least });
      is = record { reason = reason.0; reason_of = reason.1; stops = refl };
    }

module _ (setting : Setting) (generators : (n : ℕ) → IsCanonical (generator_at setting.generators n)) where
  generators_fit : (numbers : List ℕ) → AllByRecursion IsFitWork (map (generator_work setting.compare setting.budget.steps setting.generators) numbers)
  generators_fit [] = tt
  generators_fit (n ∷ numbers) = (fit_generator setting.compare setting.budget.steps setting.generators n (generators n), generators_fit numbers)

  has_round_zero : (s : RunState) → HasOutcome (IsRoundZero setting s)
  has_round_zero s =
      let turn = has_turn setting.compare (map (generator_work setting.compare setting.budget.steps setting.generators) setting.in_turn) (recorded s) (generators_fit setting.in_turn) in
      let end = has_end 0 None s.treated turn.result turn.exact in
      record { outcome = end.outcome; is = record { result = turn.result; generators = turn.ends; ends = end.is } }

  module _ (number : ℕ) (s : RunState) where
    has_treated : (least : List ℕ) (taken : List Ambiguity) → HasOutcome (IsTreated setting number s least taken)
    has_treated least taken =
        let passes = has_passes setting.compare setting.budget.steps (each_in_turn (first_of setting.compare setting.budget.steps s.rules) taken) (recorded s) (fit_firsts setting.compare setting.budget.steps s.rules taken) in
        let end = has_end number (Some least) (s.treated ++ taken) passes.result passes.exact in
        record { outcome = end.outcome; is = record { result = passes.result; passes = passes.ends; ends = end.is } }

    treats_first : (least : List ℕ) (pending : List Waiting) (all_pairs : Bool) → HasOutcome (TreatsFirst setting number s least pending all_pairs)
    treats_first least pending true = record { outcome = stopped (record { cause = cause.Pairs (length s.treated); place = place.Run; least = Some least }); is = refl }
    treats_first least pending false = has_treated least (ambiguities_of (take (taken_count setting.budget s pending) pending))

    treats_pending : (pending : List Waiting) → HasOutcome (TreatsPending setting number s pending)
    treats_pending [] = record { outcome = closed; is = refl }
    treats_pending (w ∷ ws) = treats_first w.word (w ∷ ws) (leb setting.budget.pairs (length s.treated))

  module _ (letters : ℕ) (rank : List ℕ → List ℕ) (laws : IsAdmissible letters setting.compare rank) where
    has_later_round : (number : ℕ) (s : RunState) → HasOutcome (IsLaterRound setting number s)
    has_later_round number s =
        let has = has_store setting.compare laws.total laws.same s.rules s.treated in
        let treats = treats_pending number s has.store in
        record { outcome = treats.outcome; is = record { pending = has.store; all_pending = has.all; treats = treats.is } }

    -- In an admissible order, with generators that are canonical, each round has an outcome.
    pub has_round : (number : ℕ) (s : RunState) → HasRound setting number s
    has_round zero s = let round = has_round_zero s in record { outcome = round.outcome; is = round.is }
    has_round (suc n) s = let round = has_later_round (suc n) s in record { outcome = round.outcome; is = round.is }
