-- Each claim has an outcome, since its run is finite.
use Rattle.outcome_laws.proofs.Prelude.{◌≡◌, ◌⊎◌, inl, inr, ◌≤◌, ◌+◌, ℕ, zero, suc, true, List, [], ◌∷◌, length, Result, Ok, Err, refl, sym, ap, subst, arith, Term, generator_at, IsAdmissible, IsCanonical, Poly, Made, Cofactors, Format, LemmaCertificate, ExpandFault, GatherFault, Cause, Place, expansion_of, gathered_of, Rule, State, ReduceFault, normal_form_of, Setting, RunState, RoundOutcome, start, went, closed, stopped, IsCauseOf, IsRound, IsRunState, states_bounded, Outcome, IsCauseOfExpansion, IsCauseOfGathering, halted_at, IsHalted, record_of, certificate_of, Expands, Gathers, IsProved, evidence_of_zero, IsLeft, IsDoneWith, IsDoneBy, IsDone, IsOpen, IsClosedWith, GetsOutcome, at_once, after_round, by_closing, by_stop, HasRound, Gives, normal_form_gives, open_run}
use Rattle.traced_rows.specs.declared.evidence.Format.TheVariants as format
use Rattle.traced_rows.specs.declared.evidence.Evidence.TheVariants as evidence
use Rattle.cofactor_trace.specs.declared.halt.Cause.TheVariants as cause
use Rattle.cofactor_trace.specs.declared.halt.Place.TheVariants as place
use Rattle.claim_decider.specs.declared.outcome.Outcome.TheVariants as outcome
use Rattle.outcome_laws.proofs.CertificateFaults.{ExpansionStops, expansion_overflows, row_too_long, too_many_rows, expansion_stops, GatheringStops, scale_overflows, too_many_lemma_rows, gathering_stops}
use Rattle.outcome_laws.proofs.Rounds.{has_cause, has_round}
use Rattle.outcome_laws.proofs.RoundEnds.{zero_ends}

-- evidence
expansion_cause : (made : List Made) (target : Made) (e : ExpandFault) → ExpansionStops made target e → (c : Cause) × IsCauseOfExpansion e c
expansion_cause made target e (expansion_overflows o is fails of) = (cause.Overflow o, subst (λ f. IsCauseOfExpansion f (cause.Overflow o)) (sym is) refl)
expansion_cause made target e (row_too_long is long) = (cause.Size true, subst (λ f. IsCauseOfExpansion f (cause.Size true)) (sym is) refl)
expansion_cause made target e (too_many_rows letters is many) = (cause.Rows letters, subst (λ f. IsCauseOfExpansion f (cause.Rows letters)) (sym is) refl)

gathering_cause : (made : List Made) (target : Made) (e : GatherFault) → GatheringStops made target e → (c : Cause) × IsCauseOfGathering e c
gathering_cause made target e (scale_overflows o is fails of) = (cause.Overflow o, subst (λ f. IsCauseOfGathering f (cause.Overflow o)) (sym is) refl)
gathering_cause made target e (too_many_lemma_rows letters is many) = (cause.Rows letters, subst (λ f. IsCauseOfGathering f (cause.Rows letters)) (sym is) refl)

halts_with : (IsCause : Cause → Type 0) (at : Place) → (c : Cause) × IsCause c → (o : Outcome) × IsHalted IsCause at o
halts_with IsCause at reason = (halted_at at reason.0, record { reason = reason.0; reason_of = reason.1; halts = refl })

proved : (form : Format) (number : ℕ) (at : Place) (made : List Made) (claim : Made) → (o : Outcome) × IsProved form number at made claim o
proved format.Plain number at made claim = go (expansion_of made claim) refl
  where
    go : (r : Result Cofactors ExpandFault) → expansion_of made claim ≡ r → (o : Outcome) × Expands number at r o
    go (Ok c) ends = (outcome.Derived (certificate_of number c), refl)
    go (Err e) ends = halts_with (IsCauseOfExpansion e) at (expansion_cause made claim e (expansion_stops made claim e ends))
proved format.Lemmas number at made claim = go (gathered_of number made claim) refl
  where
    go : (r : Result LemmaCertificate GatherFault) → gathered_of number made claim ≡ r → (o : Outcome) × Gathers at r o
    go (Ok c) ends = (outcome.Derived (evidence.Lemmas c), refl)
    go (Err e) ends = halts_with (IsCauseOfGathering e) at (gathering_cause made claim e (gathering_stops number made claim e ends))

module _ (setting : Setting) (claim : List Term) where
  -- the state with which a claim gets its outcome is one of the run
  pub run_of : (form : Format) (number rounds : ℕ) (s : RunState) (o : Outcome) → GetsOutcome setting form number claim rounds s o → IsRunState setting rounds s
  run_of form number rounds s o (at_once no_terms none_yet at_start is) = subst (λ n. IsRunState setting n s) (sym none_yet) at_start
  run_of form number rounds s o (after_round n before more is_open round done) =
      subst (λ k. IsRunState setting k s) (sym more) (record { before = before; is_before = open_run setting claim n before is_open; round = round })
  run_of form number rounds s o (by_closing is_open round closes) = open_run setting claim rounds s is_open
  run_of form number rounds s o (by_stop halt is_open round is) = open_run setting claim rounds s is_open

  -- a run that closes leaves a rest of a claim that is open
  left_at_closing : (n : ℕ) (s : RunState) → IsOpen setting claim n s → IsRound setting n s closed → (rest : List Term) × IsLeft setting s.rules claim rest
  left_at_closing zero s is_open round = absurd (zero_ends setting s closed round)
  left_at_closing (suc n) s is_open round = (is_open.rest, is_open.left)

  module _ (canonical : IsCanonical claim) where
    reduces : (rules : List Rule) → Gives (λ s. IsCanonical s.rest) (normal_form_of setting.compare rules claim setting.budget.steps)
    reduces rules = normal_form_gives setting.compare rules claim setting.budget.steps canonical

    closes_with : (rules : List Rule) (rest : List Term) → IsLeft setting rules claim rest → (o : Outcome) × IsClosedWith setting rules claim o
    closes_with rules rest left = (outcome.Closed poly, record { rest = poly; left = left; closes = refl })
      where
        reduced : IsCanonical left.reduced.rest
        reduced = subst (Gives (λ (s : State). IsCanonical s.rest)) left.reduction (reduces rules)

        poly : Poly
        poly = record { terms = rest; canonical = subst IsCanonical left.rest_is reduced }

    module _ (form : Format) (number : ℕ) where
      -- after a whole round the claim has its outcome, or something is left of it
      judged : (n : ℕ) (s : RunState) → ((o : Outcome) × IsDone setting form number n s claim o) ⊎ ((rest : List Term) × IsLeft setting s.rules claim rest)
      judged n s = go (normal_form_of setting.compare s.rules claim setting.budget.steps) refl (reduces s.rules)
        where
          Judged : Type 0
          Judged = ((o : Outcome) × IsDone setting form number n s claim o) ⊎ ((rest : List Term) × IsLeft setting s.rules claim rest)

          done : (r : Result State ReduceFault) → normal_form_of setting.compare s.rules claim setting.budget.steps ≡ r → (o : Outcome) × IsDoneBy form number n s.made r o → Judged
          done r is by = inl (by.0, subst (λ q. IsDoneBy form number n s.made q by.0) (sym is) by.1)

          go : (r : Result State ReduceFault) → normal_form_of setting.compare s.rules claim setting.budget.steps ≡ r → Gives (λ t. IsCanonical t.rest) r → Judged
          go (Err e) is gives = done (Err e) is (halts_with (IsCauseOf e) (place.Claim n) (has_cause e gives))
          go (Ok reduced) is gives = by reduced.rest refl
            where
              by : (p : List Term) → reduced.rest ≡ p → Judged
              by [] none =
                  let shown = proved form number (place.Certificate n) s.made (record_of reduced) in
                  done (Ok reduced) is (shown.0, subst (λ p. IsDoneWith form number n s.made reduced p shown.0) (sym none) shown.1)
              by (t ∷ p) some = inr (t ∷ p, record { reduced = reduced; reduction = is; rest_is = some; nonzero = omega arith })

      -- the outcome, with the rounds that were made whole and the state
      pub record Got : Type 0 where
        pub rounds : ℕ
        pub state : RunState
        pub outcome : Outcome
        pub gets : GetsOutcome setting form number claim rounds state outcome

      module _ (generators : (n : ℕ) → IsCanonical (generator_at setting.generators n)) (letters : ℕ) (rank : List ℕ → List ℕ) (laws : IsAdmissible letters setting.compare rank) where
        -- An open claim gets its outcome, since there are no more rounds than the first number allows.
        got_from : (fuel n : ℕ) (s : RunState) → IsOpen setting claim n s → suc (suc setting.budget.pairs) ≤ n + fuel → Got
        got_from zero n s is_open enough =
            let bounded = states_bounded setting n s (open_run setting claim n s is_open) in
            absurd (omega (arith, enough, bounded.few_rounds, bounded.few_treated))
        got_from (suc fuel) n s is_open enough = go (has_round setting generators letters rank laws n s) (λ t still_open. got_from fuel (suc n) t still_open (omega (arith, enough)))
          where
            go : HasRound setting n s → ((t : RunState) → IsOpen setting claim (suc n) t → Got) → Got
            go round later = by round.outcome round.is
              where
                by : (o : RoundOutcome) → IsRound setting n s o → Got
                by (went t) is = judge (judged n t)
                  where
                    judge : ((o : Outcome) × IsDone setting form number n t claim o) ⊎ ((rest : List Term) × IsLeft setting t.rules claim rest) → Got
                    judge (inl done) = record { rounds = suc n; state = t; outcome = done.0; gets = after_round n s refl is_open is done.1 }
                    judge (inr left) = later t (record { before = s; is_before = is_open; round = is; rest = left.0; left = left.1 })
                by closed is =
                    let left = left_at_closing n s is_open is in
                    let closes = closes_with s.rules left.0 left.1 in
                    record { rounds = n; state = s; outcome = closes.0; gets = by_closing is_open is closes.1 }
                by (stopped halt) is = record { rounds = n; state = s; outcome = outcome.Halted halt; gets = by_stop halt is_open is refl }

        pub got : Got
        got = go claim refl
          where
            go : (p : List Term) → claim ≡ p → Got
            go [] none = record { rounds = 0; state = start; outcome = outcome.Derived (evidence_of_zero form number); gets = at_once none refl refl refl }
            go (t ∷ p) some = got_from (suc (suc setting.budget.pairs)) 0 start (omega (arith, ap length some), refl) (omega arith)
