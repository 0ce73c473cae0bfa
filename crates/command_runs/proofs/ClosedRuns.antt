-- The rules with which a claim closes are the last rules.
use Rattle.command_runs.proofs.Prelude.{◌≡◌, ◌⊎◌, inl, inr, ◌<◌, ◌≤◌, ℕ, zero, suc, List, [], ◌∷◌, Contains, Result, Ok, Err, sym, ap, ◌∙◌, subst, arith, All-contains, cases_lt, Term, IsAdmissible, Poly, Made, Cofactors, Evidence, Format, LemmaCertificate, ExpandFault, GatherFault, Cause, Place, Halt, expansion_of, gathered_of, State, ReduceFault, normal_form_of, Problem, claim_at, Setting, RunState, went, closed, IsCauseOf, IsRound, IsRunState, states_unique, rounds_unique, IsOpen, IsLeft, IsHalted, IsCauseOfExpansion, IsCauseOfGathering, Expands, Gathers, IsDoneWith, IsDoneBy, record_of, GetsOutcome, at_once, after_round, by_closing, by_stop, GetsOutcomeBy, AreLastRules, polynomials_in, gets_once, open_run}
use Rattle.traced_rows.specs.declared.evidence.Format.TheVariants as format
use Rattle.cofactor_trace.specs.declared.halt.Place.TheVariants as place
use Rattle.claim_decider.specs.declared.outcome.Outcome.TheVariants as outcome
use Rattle.claim_decider.specs.Outcomes.{IsProved}

-- a claim that closes
not_derived : (rest : Poly) (e : Evidence) → outcome.Closed rest ≡ outcome.Derived e → ⊥
not_derived rest e is = cc

not_halted : (rest : Poly) (h : Halt) → outcome.Closed rest ≡ outcome.Halted h → ⊥
not_halted rest h is = cc

same_rest : (p q : Poly) → outcome.Closed p ≡ outcome.Closed q → p ≡ q
same_rest p q is = cc

module _ (rest : Poly) (number round : ℕ) (made : List Made) where
  not_by_halt : (IsCause : Cause → Type 0) (at : Place) → IsHalted IsCause at (outcome.Closed rest) → ⊥
  not_by_halt IsCause at halted = not_halted rest _ halted.halts

  not_expanded : (r : Result Cofactors ExpandFault) → Expands number (place.Certificate round) r (outcome.Closed rest) → ⊥
  not_expanded (Ok c) is = not_derived rest _ is
  not_expanded (Err e) halted = not_by_halt (IsCauseOfExpansion e) (place.Certificate round) halted

  not_gathered : (r : Result LemmaCertificate GatherFault) → Gathers (place.Certificate round) r (outcome.Closed rest) → ⊥
  not_gathered (Ok c) is = not_derived rest _ is
  not_gathered (Err e) halted = not_by_halt (IsCauseOfGathering e) (place.Certificate round) halted

  not_proved : (form : Format) (claim : Made) → IsProved form number (place.Certificate round) made claim (outcome.Closed rest) → ⊥
  not_proved format.Plain claim is = not_expanded (expansion_of made claim) is
  not_proved format.Lemmas claim is = not_gathered (gathered_of number made claim) is

  not_done_with : (form : Format) (reduced : State) (left : List Term) → IsDoneWith form number round made reduced left (outcome.Closed rest) → ⊥
  not_done_with form reduced [] is = not_proved form (record_of reduced) is
  not_done_with form reduced (t ∷ left) is = is

  not_done : (form : Format) (r : Result State ReduceFault) → IsDoneBy form number round made r (outcome.Closed rest) → ⊥
  not_done form (Ok reduced) is = not_done_with form reduced reduced.rest is
  not_done form (Err e) halted = not_by_halt (IsCauseOf e) (place.Claim round) halted

-- The run closes after this many rounds, and this is the claim's rest by the rules.
pub record Closes (setting : Setting) (claim rest : List Term) (rounds : ℕ) (s : RunState) : Type 0 where
  pub opened : IsOpen setting claim rounds s
  pub round : IsRound setting rounds s closed
  pub left : IsLeft setting s.rules claim rest

pub closes : (setting : Setting) (form : Format) (number : ℕ) (claim : List Term) (rounds : ℕ) (s : RunState) (rest : Poly)
    → GetsOutcome setting form number claim rounds s (outcome.Closed rest) → Closes setting claim rest.terms rounds s
closes setting form number claim rounds s rest (at_once none none_yet at_start is) = absurd (not_derived rest _ is)
closes setting form number claim rounds s rest (after_round n before more opened round done) =
    absurd (not_done rest number n s.made form (normal_form_of setting.compare s.rules claim setting.budget.steps) done)
closes setting form number claim rounds s rest (by_closing opened round what) =
    record {
      opened = opened;
      round = round;
      left = subst (λ (p : Poly). IsLeft setting s.rules claim p.terms) (sym (same_rest rest what.rest what.closes)) what.left;
    }
closes setting form number claim rounds s rest (by_stop halt opened round is) = absurd (not_halted rest halt is)

-- the last rules
closed_is_not_went : (s : RunState) → closed ≡ went s → ⊥
closed_is_not_went s is = cc

-- the round with this number of a run that isn't closed
record Goes (setting : Setting) (n : ℕ) : Type 0 where
  before : RunState
  after : RunState
  run : IsRunState setting n before
  round : IsRound setting n before (went after)

goes : (setting : Setting) (n m : ℕ) (s : RunState) → n < m → IsRunState setting m s → Goes setting n
goes setting n zero s less is = absurd (omega (arith, less))
goes setting n (suc m) s less is = go (cases_lt n m) (λ (below : n < m). goes setting n m is.before below is.is_before)
  where
    go : (n < m) ⊎ (m ≤ n) → (n < m → Goes setting n) → Goes setting n
    go (inl below) earlier = earlier below
    go (inr most) earlier =
        let same : m ≡ n = omega (arith, less, most) in
        record {
          before = is.before;
          after = s;
          run = subst (λ k. IsRunState setting k is.before) same is.is_before;
          round = subst (λ k. IsRound setting k is.before (went s)) same is.round;
        }

module _ (letters : ℕ) (rank : List ℕ → List ℕ) (setting : Setting) (laws : IsAdmissible letters setting.compare rank) where
  -- a closed run has no later rounds
  not_later : (n m : ℕ) (s t : RunState) → IsRunState setting n s → IsRound setting n s closed → IsRunState setting m t → n < m → ⊥
  not_later n m s t run round later less =
      let next = goes setting n m t less later in
      let same = states_unique letters rank setting n next.before s laws next.run run in
      closed_is_not_went next.after
      (rounds_unique letters rank setting n s closed (went next.after) laws round (subst (λ b. IsRound setting n b (went next.after)) same next.round))

  pub closing_rules_are_last : (form : Format) (problem : Problem) (numbers : List ℕ) (polys : List Poly) (number rounds : ℕ) (s : RunState) (rest : Poly)
      → AreLastRules setting form problem numbers polys → Contains numbers number → GetsOutcome setting form number (claim_at problem number) rounds s
      (outcome.Closed rest) → polys ≡ polynomials_in s.rules
  closing_rules_are_last form problem numbers polys number rounds s rest last among gets = go (cases_lt rounds last.rounds)
    where
      run : IsRunState setting rounds s
      run = open_run setting (claim_at problem number) rounds s (closes setting form number (claim_at problem number) rounds s rest gets).opened

      by : GetsOutcomeBy setting form problem last.rounds number
      by = All-contains (GetsOutcomeBy setting form problem last.rounds) numbers number last.last.enough among

      least : rounds ≤ last.rounds
      least =
          let same = gets_once setting (claim_at problem number) letters rank laws form number rounds by.rounds s by.gets.state
          (outcome.Closed rest) by.gets.outcome gets by.gets.gets in omega (arith, same.rounds, by.early)

      go : (rounds < last.rounds) ⊎ (last.rounds ≤ rounds) → polys ≡ polynomials_in s.rules
      go (inl less) =
          absurd (not_later rounds last.rounds s last.state run (closes setting form number (claim_at problem number) rounds s rest gets).round last.run less)
      go (inr most) =
          let same : last.rounds ≡ rounds = omega (arith, least, most) in
          let state = states_unique letters rank setting rounds last.state s laws (subst (λ k. IsRunState setting k last.state) same last.run) run in
          last.are ∙ ap (λ (t : RunState). polynomials_in t.rules) state
