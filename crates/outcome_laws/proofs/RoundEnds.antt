-- How a round ends: with rules, closed, or stopped.
use Rattle.outcome_laws.proofs.Prelude.{◌≡◌, ◌<◌, ◌≤◌, ℕ, Bool, true, false, List, [], ◌∷◌, ◌++◌, map, length, take, nat_le, Option, Some, None, Result, Ok, Err, refl, sym, subst, All, leb-true, leb-false, All-map, All-take, ReduceFault, Ambiguity, IsAmbiguity, Waiting, Cause, Halt, Place, Recorded, each_in_turn, generator_work, first_of, InTurn, InTwoPasses, AreAllPending, ambiguities_of, Setting, RunState, went, closed, stopped, recorded, IsCauseOf, Ends, taken_count, IsRoundZero, IsLaterRound, TreatsFirst, TreatsPending, pending-all}
use Rattle.cofactor_trace.specs.declared.halt.Cause.TheVariants as cause
use Rattle.cofactor_trace.specs.declared.halt.Place.TheVariants as place
use Rattle.traced_completion.specs.PlainRun.{Outcome}

-- works with a fault, which gives up a round
pub record GivesUp (Turns : Result Recorded ReduceFault → Type 0) (at : Place) (least : Option (List ℕ)) (h : Halt) : Type 0 where
  pub fault : ReduceFault
  pub turns : Turns (Err fault)
  pub reason : Cause
  pub reason_of : IsCauseOf fault reason
  pub is : h ≡ record { cause = reason; place = at; least = least }

-- by the result of its works
abbrev pub EndsBy : (Result Recorded ReduceFault → Type 0) → (Halt → Type 0) → List Ambiguity → Outcome → Type 0
EndsBy Turns Stops treated (went t) = Turns (Ok (recorded t)) × (t.treated ≡ treated)
EndsBy Turns Stops treated closed = ⊥
EndsBy Turns Stops treated (stopped h) = Stops h

ends_by : (Turns : Result Recorded ReduceFault → Type 0) (number : ℕ) (least : Option (List ℕ)) (treated : List Ambiguity) (result : Result Recorded ReduceFault) (outcome : Outcome)
    → Turns result → Ends number least treated result outcome → EndsBy Turns (GivesUp Turns (place.Round number) least) treated outcome
ends_by Turns number least treated (Ok r) outcome turns ends = subst (EndsBy Turns (GivesUp Turns (place.Round number) least) treated) (sym ends) (turns, refl)
ends_by Turns number least treated (Err e) outcome turns ends =
    subst (EndsBy Turns (GivesUp Turns (place.Round number) least) treated) (sym ends.stops) (record { fault = e; turns = turns; reason = ends.reason; reason_of = ends.reason_of; is = refl })

-- there are pairs left, and of these pending ambiguities the first ones are taken
pub record Takes (setting : Setting) (s : RunState) : Type 0 where
  pub first : Waiting
  pub others : List Waiting
  pub all_pending : AreAllPending setting.compare s.rules s.treated (first ∷ others)
  pub pairs_left : length s.treated < setting.budget.pairs

module _ (setting : Setting) (s : RunState) where
  -- round 0
  abbrev pub ZeroTurns : Result Recorded ReduceFault → Type 0
  ZeroTurns = InTurn setting.compare (map (generator_work setting.compare setting.budget.steps setting.generators) setting.in_turn) (recorded s)

  abbrev pub ZeroEnds : Outcome → Type 0
  ZeroEnds = EndsBy ZeroTurns (GivesUp ZeroTurns (place.Round 0) None) s.treated

  pub zero_ends : (outcome : Outcome) → IsRoundZero setting s outcome → ZeroEnds outcome
  zero_ends outcome round = ends_by ZeroTurns 0 None s.treated round.result outcome round.generators round.ends

  -- a later round
  abbrev pub taken_by : Takes setting s → List Ambiguity
  taken_by t = ambiguities_of (take (taken_count setting.budget s (t.first ∷ t.others)) (t.first ∷ t.others))

  pub taken_are : (t : Takes setting s) → All (IsAmbiguity s.rules) (taken_by t)
  taken_are t =
      let pending = t.first ∷ t.others in
      let count = taken_count setting.budget s pending in
      All-map (IsAmbiguity s.rules) (λ (w : Waiting). w.which) (take count pending)
      (All-take (λ (w : Waiting). IsAmbiguity s.rules w.which) count pending
      (pending-all (λ (w : Waiting). IsAmbiguity s.rules w.which) setting.compare s.rules s.treated pending t.all_pending (λ w one. one.is)))

  abbrev pub LaterTurns : Takes setting s → Result Recorded ReduceFault → Type 0
  LaterTurns t = InTwoPasses setting.compare setting.budget.steps (each_in_turn (first_of setting.compare setting.budget.steps s.rules) (taken_by t)) (recorded s)

  -- the rules after it, with what it treated
  pub record Treats (after : RunState) : Type 0 where
    pub takes : Takes setting s
    pub turns : LaterTurns takes (Ok (recorded after))
    pub treated : after.treated ≡ s.treated ++ taken_by takes

  pub data StopsLater (number : ℕ) (h : Halt) : Type 0 where
    -- as many pairs were treated as the budget has
    pairs_spent : (w : Waiting) (ws : List Waiting) → AreAllPending setting.compare s.rules s.treated (w ∷ ws) → setting.budget.pairs ≤ length s.treated
        → h ≡ record { cause = cause.Pairs (length s.treated); place = place.Run; least = Some w.word } → StopsLater number h
    gives_up : (takes : Takes setting s) → GivesUp (LaterTurns takes) (place.Round number) (Some takes.first.word) h → StopsLater number h

  abbrev pub LaterEnds : ℕ → Outcome → Type 0
  LaterEnds number (went after) = Treats after
  LaterEnds number closed = AreAllPending setting.compare s.rules s.treated []
  LaterEnds number (stopped h) = StopsLater number h

  pub later_ends : (number : ℕ) (outcome : Outcome) → IsLaterRound setting number s outcome → LaterEnds number outcome
  later_ends number outcome round = go round.pending round.all_pending round.treats
    where
      taken : (takes : Takes setting s) (o : Outcome)
          → EndsBy (LaterTurns takes) (GivesUp (LaterTurns takes) (place.Round number) (Some takes.first.word)) (s.treated ++ taken_by takes) o → LaterEnds number o
      taken takes (went after) ends = record { takes = takes; turns = ends.0; treated = ends.1 }
      taken takes closed ends = absurd ends
      taken takes (stopped h) ends = gives_up takes ends

      by_pairs : (w : Waiting) (ws : List Waiting) → AreAllPending setting.compare s.rules s.treated (w ∷ ws) → (b : Bool) → nat_le setting.budget.pairs (length s.treated) ≡ b
          → TreatsFirst setting number s w.word (w ∷ ws) b outcome → LaterEnds number outcome
      by_pairs w ws all true spent ends = subst (LaterEnds number) (sym ends) (pairs_spent w ws all (leb-true setting.budget.pairs (length s.treated) spent) refl)
      by_pairs w ws all false left ends =
          let takes : Takes setting s = record { first = w; others = ws; all_pending = all; pairs_left = leb-false setting.budget.pairs (length s.treated) left } in
          taken takes outcome (ends_by (LaterTurns takes) number (Some w.word) (s.treated ++ taken_by takes) ends.result outcome ends.passes ends.ends)

      go : (ws : List Waiting) → AreAllPending setting.compare s.rules s.treated ws → TreatsPending setting number s ws outcome → LaterEnds number outcome
      go [] all ends = subst (LaterEnds number) (sym ends) all
      go (w ∷ ws) all ends = by_pairs w ws all (nat_le setting.budget.pairs (length s.treated)) refl ends
