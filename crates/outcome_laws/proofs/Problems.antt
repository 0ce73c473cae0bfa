-- Rounds, claims and problems have outcomes.
use Rattle.outcome_laws.proofs.Prelude.{◌≡◌, ◌⊎◌, inl, inr, ◌<◌, ◌≤◌, ℕ, List, [], ◌∷◌, refl, arith, All, cases_lt, All-nil, All-cons, All-weaker, asked_rank, asked_cmp-admissible, Format, Problem, claim_at, claim_numbers, Budget, Setting, RunState, start, setting_of, IsRunState, contains-first, contains-rest, states_bounded, Outcome, AreOutcomesOf, GetsOutcomeBy, OneGetsOutcomeAt, polynomials_in, EachStateHasARound, EachClaimHasAnOutcome, EachProblemHasOutcomes}
use Rattle.outcome_laws.proofs.Rounds.{has_round}
use Rattle.outcome_laws.proofs.Claims.{Got, got, run_of}
use Rattle.outcome_laws.proofs.ProblemPolynomials.{canonical_at}

pub each_state_has_a_round : EachStateHasARound
each_state_has_a_round problem budget number s =
    let order = problem.parts.order in
    has_round (setting_of problem budget) (canonical_at problem.generators) 0 (asked_rank 0 order) (asked_cmp-admissible 0 order) number s

-- claims
module _ (problem : Problem) (budget : Budget) (form : Format) where
  abbrev setting : Setting
  setting = setting_of problem budget

  got_of : (number : ℕ) → Got setting (claim_at problem number) (canonical_at problem.parts.claims number) form number
  got_of number =
      let order = problem.parts.order in
      got setting (claim_at problem number) (canonical_at problem.parts.claims number) form number (canonical_at problem.generators) 0
      (asked_rank 0 order) (asked_cmp-admissible 0 order)

  outcomes_of : (numbers : List ℕ) → (outcomes : List Outcome) × AreOutcomesOf setting form problem numbers outcomes
  outcomes_of [] = ([], tt)
  outcomes_of (n ∷ numbers) =
      let one = got_of n in
      let rest = outcomes_of numbers in
      (one.outcome ∷ rest.0, (record { rounds = one.rounds; state = one.state; gets = one.gets }, rest.1))

  -- the last round that is needed, with its state
  record Last (numbers : List ℕ) : Type 0 where
    rounds : ℕ
    state : RunState
    run : IsRunState setting rounds state
    enough : All (GetsOutcomeBy setting form problem rounds) numbers
    needed : (rounds ≡ 0) ⊎ OneGetsOutcomeAt setting form problem numbers rounds

  last_of : (numbers : List ℕ) → Last numbers
  last_of [] = record { rounds = 0; state = start; run = refl; enough = All-nil (GetsOutcomeBy setting form problem 0); needed = inl refl }
  last_of (n ∷ numbers) = go (got_of n) (last_of numbers)
    where
      go : Got setting (claim_at problem n) (canonical_at problem.parts.claims n) form n → Last numbers → Last (n ∷ numbers)
      go one rest = by (cases_lt rest.rounds one.rounds)
        where
          by : (rest.rounds < one.rounds) ⊎ (one.rounds ≤ rest.rounds) → Last (n ∷ numbers)
          by (inl later) = record {
            rounds = one.rounds;
            state = one.state;
            run = run_of setting (claim_at problem n) form n one.rounds one.state one.outcome one.gets;
            enough = All-cons (GetsOutcomeBy setting form problem one.rounds) n numbers
                (record { rounds = one.rounds; gets = record { state = one.state; outcome = one.outcome; gets = one.gets }; early = omega arith })
                (All-weaker (GetsOutcomeBy setting form problem rest.rounds) (GetsOutcomeBy setting form problem one.rounds)
                (λ m by_then. record { rounds = by_then.rounds; gets = by_then.gets; early = omega (arith, by_then.early, later) }) numbers rest.enough);
            needed = inr (record { number = n; among = contains-first n numbers; gets = record { state = one.state; outcome = one.outcome; gets = one.gets } });
          }
          by (inr earlier) = record {
            rounds = rest.rounds;
            state = rest.state;
            run = rest.run;
            enough = All-cons (GetsOutcomeBy setting form problem rest.rounds) n numbers
                (record { rounds = one.rounds; gets = record { state = one.state; outcome = one.outcome; gets = one.gets }; early = earlier }) rest.enough;
            needed = among rest.needed;
          }
            where
              among : (rest.rounds ≡ 0) ⊎ OneGetsOutcomeAt setting form problem numbers rest.rounds → (rest.rounds ≡ 0) ⊎ OneGetsOutcomeAt setting form problem (n ∷ numbers) rest.rounds
              among (inl none) = inl none
              among (inr last) = inr (record { number = last.number; among = contains-rest n numbers last.number last.among; gets = last.gets })

pub each_claim_has_an_outcome : EachClaimHasAnOutcome
each_claim_has_an_outcome problem budget form number =
    let one = got_of problem budget form number in
    let bounded =
    states_bounded (setting_of problem budget) one.rounds one.state (run_of (setting_of problem budget) (claim_at problem number) form number one.rounds one.state one.outcome one.gets) in
    record { outcome = one.outcome; is = record { rounds = one.rounds; state = one.state; gets = one.gets }; few_rounds = omega (arith, bounded.few_rounds, bounded.few_treated) }

pub each_problem_has_outcomes : EachProblemHasOutcomes
each_problem_has_outcomes problem budget form =
    let outcomes = outcomes_of problem budget form (claim_numbers problem) in
    let last = last_of problem budget form (claim_numbers problem) in
    record {
      outcomes = outcomes.0;
      rules = polynomials_in last.state.rules;
      are_outcomes = outcomes.1;
      are_rules = record { rounds = last.rounds; state = last.state; last = record { enough = last.enough; needed = last.needed }; run = last.run; are = refl };
    }
