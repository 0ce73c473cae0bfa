-- The basis that is printed of a closed claim is closed, or its check stops.
use Rattle.command_runs.proofs.Prelude.{◌≡◌, ◌⊎◌, inl, inr, ◌<◌, ◌≤◌, ℕ, zero, suc, ◌+◌, List, [], length, None, Result, Ok, Err, Contains, refl, sym, ap, ◌∙◌, subst, arith, All, range_with_len, length-map, length-range_with_len, get_or-range_with_len, Term, coefficient_of, generator_at, InRationalIdeal, IsOver, Compare, IsAdmissible, asked_rank, IsShaped, Poly, PolyFault, letter_count, Format, Halt, Rule, State, ReduceFault, IsRule, polynomials_of, halt_of, normal_form_of, words_with_coefficients, Recorded, Ambiguity, IsAmbiguity, s_polynomial_of, s_sum, Resolved, s_polynomials_balance, over_terms, IsZero, HasLettersBelow, Free, in_ideal, ideal_span, generator_decided, rests_of_ideal_are_zero, span_same, Numbered, resolved_where_closed, s_polynomials_are_shaped, Problem, polynomials, claim_at, claim_numbers, Budget, Setting, RunState, went, closed, stopped, Ends, IsRound, IsRunState, setting_of, polynomials_in, done_after, open_run, open_claim, state_kept, generators_are_reached, closed_is_nothing_pending, Basis, ClosedRefusal, step_limit, order_of, rules_from, rules_of, rest_in, rest_by, rest_of, MayBeRule, IsNumberUpTo, NamesClaim, IsClosedBasis, no_rest, zero_is_empty, reduction_of, each_basis_is_judged, has_all, canonical_at, generator_over, order_laws, IsPrinted, IsStop, PrintedBasesAreConfirmed, runs_are_primitive}
use Rattle.closed_checker.specs.declared.part.Part.TheVariants as part
use Rattle.closed_checker.specs.declared.refusal.ClosedRefusal.TheVariants as refusal
use Rattle.closed_checker.specs.Closed.{Refuses, IsMemory}
use Rattle.command_runs.proofs.EndedReductions.{ended_once}
use Rattle.command_runs.proofs.ClosedRuns.{Closes, closes, closing_rules_are_last}
use Rattle.command_runs.proofs.RunRules.{rules_of_run, all_may}

-- a number with a polynomial that has terms is one of theirs
named : (ps : List Poly) (number : ℕ) → 0 < length (generator_at (polynomials ps) number) → IsNumberUpTo (length ps) number
named ps number some = go (generator_decided (polynomials ps) number)
  where
    go : ((1 ≤ number) × (number ≤ length (polynomials ps))) ⊎ (generator_at (polynomials ps) number ≡ []) → IsNumberUpTo (length ps) number
    go (inl is) = record { least = is.0; most = omega (arith, is.1, length-map ps (λ (p : Poly). p.terms)) }
    go (inr none) = absurd (omega (arith, some, ap length none))

number_among : (count number : ℕ) → IsNumberUpTo count number → Contains (range_with_len 1 count) number
number_among count zero is = absurd (omega (arith, is.least))
number_among count (suc k) is =
    let inside : k < count = omega (arith, is.most) in
    let here : 1 + k ≡ suc k = omega arith in
    (k, omega (arith, length-range_with_len 1 count, inside), get_or-range_with_len 1 count k (suc k) inside ∙ here)

-- round 0 doesn't close a run
closed_is_not_went : (s : RunState) → closed ≡ went s → ⊥
closed_is_not_went s is = cc

closed_is_not_stopped : (h : Halt) → closed ≡ stopped h → ⊥
closed_is_not_stopped h is = cc

not_ended : (r : Result Recorded ReduceFault) (treated : List Ambiguity) → Ends 0 None treated r closed → ⊥
not_ended (Ok r) treated ends = closed_is_not_went _ ends
not_ended (Err e) treated ends = closed_is_not_stopped _ ends.stops

-- rests
same_rest : (p q : List Term) → ◌≡◌ {A = Result (List Term) ReduceFault} (Ok p) (Ok q) → p ≡ q
same_rest p q is = cc

module _ (problem : Problem) (budget : Budget) where
  abbrev setting : Setting
  setting = setting_of problem budget

  abbrev compare : Compare
  compare = order_of problem

  abbrev letters : ℕ
  letters = letter_count problem.parts.quiver

  abbrev rank : List ℕ → List ℕ
  rank = asked_rank letters problem.parts.order

  laws : IsAdmissible letters compare rank
  laws = order_laws problem letters

  module _ (rounds : ℕ) (s : RunState) (run : IsRunState setting rounds s) where
    pub are_rules : All (IsRule letters compare) s.rules
    are_rules = (state_kept problem budget rounds s run).kept.are_rules

    module _ (round : IsRound setting rounds s closed) where
      pub resolved : Resolved letters compare s.rules
      resolved = go rounds run round
        where
          go : (n : ℕ) → IsRunState setting n s → IsRound setting n s closed → Resolved letters compare s.rules
          go zero is at = absurd (not_ended at.result s.treated at.ends)
          go (suc n) is at =
              resolved_where_closed letters compare (polynomials problem.generators) s.rules s.made (done_after setting (suc n)) s.treated
              (state_kept problem budget (suc n) s is).kept
              (closed_is_nothing_pending setting n s at)

      pub generator_inside : (number : ℕ) → IsNumberUpTo (length problem.generators) number
          → InRationalIdeal (polynomials_of s.rules) (generator_at (polynomials problem.generators) number)
      generator_inside number is = go rounds run round
        where
          go : (n : ℕ) → IsRunState setting n s → IsRound setting n s closed
              → InRationalIdeal (polynomials_of s.rules) (generator_at (polynomials problem.generators) number)
          go zero at closes_it = absurd (not_ended closes_it.result s.treated closes_it.ends)
          go (suc n) at closes_it =
              let reached = generators_are_reached problem budget n s number at is.least is.most in
              record { denominator = reached.denominator; rows = reached.rows; combination = reached.combination }

      -- what is left of an element of the rational ideal of the rules has no terms
      nothing_left : (p : List Term) (rest : Poly) → IsShaped p → All (λ t. IsOver letters t.1) p → InRationalIdeal (polynomials_of s.rules) p
          → rest_in (normal_form_of compare s.rules p step_limit) ≡ Ok rest.terms → rest.terms ≡ []
      nothing_left p rest shaped over inside is =
          let found = reduction_of letters compare rank laws s.rules are_rules p rest.terms shaped over is in
          let below : HasLettersBelow letters p =
          record { at = words_with_coefficients (IsOver letters) p over } in
          let vanishes = rests_of_ideal_are_zero letters compare rank s.rules p found.state laws are_rules resolved inside below found.reduced in
          zero_is_empty rest.terms rest.canonical.shaped (subst IsZero found.rest_is vanishes)

      s_polynomial_inside : (a : Ambiguity) (p : List Term) → IsAmbiguity s.rules a → s_polynomial_of s.rules a ≡ Ok p
          → InRationalIdeal (polynomials_of s.rules) p
      s_polynomial_inside a p is ends =
          let below = (resolved.each a is).below in
          let same = s_polynomials_balance s.rules a p ends in
          in_ideal (polynomials_of s.rules) p
          (span_same (Numbered (polynomials_of s.rules) Free) (coefficient_of (s_sum s.rules a)) (coefficient_of p)
          (ideal_span (polynomials_of s.rules) (s_sum s.rules a)
          (record { denominator = below.denominator; rows = below.rows; combination = below.combination.combination })) (λ w. same.at w))

      nothing_left_at : (a : Ambiguity) (rest : Poly) → IsAmbiguity s.rules a → rest_by compare s.rules (s_polynomial_of s.rules a) ≡ Ok rest.terms
          → rest.terms ≡ []
      nothing_left_at a rest is left = go (s_polynomial_of s.rules a) refl left
        where
          go : (r : Result (List Term) PolyFault) → s_polynomial_of s.rules a ≡ r → rest_by compare s.rules r ≡ Ok rest.terms → rest.terms ≡ []
          go (Err e) ends k = absurd (no_rest (halt_of e) rest.terms k)
          go (Ok p) ends k =
              let shaped = s_polynomials_are_shaped s.rules a p ends in
              nothing_left p rest shaped (over_terms letters compare rank s.rules a p laws are_rules is ends shaped) (s_polynomial_inside a p is ends) k

  module _ (form : Format) (b : Basis) (printed : IsPrinted problem budget form b) where
    abbrev s : RunState
    s = printed.outcome.state

    abbrev rounds : ℕ
    rounds = printed.outcome.rounds

    pub by_closing : Closes setting (claim_at problem b.claim) b.rest.terms rounds s
    by_closing = closes setting form b.claim (claim_at problem b.claim) rounds s b.rest printed.outcome.gets

    pub run : IsRunState setting rounds s
    run = open_run setting (claim_at problem b.claim) rounds s by_closing.opened

    pub names : NamesClaim problem b
    names = named problem.parts.claims b.claim (open_claim setting (claim_at problem b.claim) rounds s by_closing.opened)

    pub polys_are : b.rules ≡ polynomials_in s.rules
    polys_are =
        closing_rules_are_last letters rank setting laws form problem (claim_numbers problem) b.rules b.claim rounds s b.rest printed.rules
        (number_among (length problem.parts.claims) b.claim names) printed.outcome.gets

    pub rules_are : rules_of problem b ≡ s.rules
    rules_are = ap (rules_from compare) polys_are ∙ rules_of_run letters compare s.rules (are_rules rounds s run)

    rules_may : All (MayBeRule compare) b.rules
    rules_may =
        subst (All (MayBeRule compare)) (sym polys_are)
        (all_may letters compare s.rules (are_rules rounds s run) (runs_are_primitive problem budget rounds s run))

    -- what isn't left
    generator_left : (number : ℕ) (rest : Poly) → IsNumberUpTo (length problem.generators) number → rest_of problem b (part.Generator number) ≡ Ok rest.terms
        → rest.terms ≡ []
    generator_left number rest is left =
        nothing_left rounds s run by_closing.round (generator_at (polynomials problem.generators) number) rest (canonical_at problem.generators number).shaped
        (generator_over problem number)
        (generator_inside rounds s run by_closing.round number is)
        (subst (λ (rules : List Rule). rest_in (normal_form_of compare rules (generator_at (polynomials problem.generators) number) step_limit) ≡ Ok rest.terms)
        rules_are left)

    ambiguity_left : (a : Ambiguity) (rest : Poly) → IsAmbiguity (rules_of problem b) a → rest_of problem b (part.Ambiguity a) ≡ Ok rest.terms → rest.terms ≡ []
    ambiguity_left a rest is left =
        nothing_left_at rounds s run by_closing.round a rest (subst (λ (rules : List Rule). IsAmbiguity rules a) rules_are is)
        (subst (λ (rules : List Rule). rest_by compare rules (s_polynomial_of rules a) ≡ Ok rest.terms) rules_are left)

    claim_left : (rest : List Term) → rest_of problem b part.Claim ≡ Ok rest → rest ≡ b.rest.terms
    claim_left rest left =
        go (normal_form_of compare s.rules (claim_at problem b.claim) step_limit) refl
        (subst (λ (rules : List Rule). rest_in (normal_form_of compare rules (claim_at problem b.claim) step_limit) ≡ Ok rest) rules_are left)
      where
        go : (r : Result State ReduceFault) → normal_form_of compare s.rules (claim_at problem b.claim) step_limit ≡ r → rest_in r ≡ Ok rest
            → rest ≡ b.rest.terms
        go (Err e) ends k = absurd (no_rest e rest k)
        go (Ok t) ends k =
            let same = ended_once compare s.rules (claim_at problem b.claim) step_limit budget.steps t by_closing.left.reduced ends by_closing.left.reduction in
            sym (same_rest t.rest rest k) ∙ ap (λ (u : State). u.rest) same ∙ by_closing.left.rest_is

    -- what isn't refused
    no_other : (r : ClosedRefusal) → Refuses problem b r → IsStop r ⊎ IsMemory r
    no_other refusal.NoSuchClaim none = absurd (none names)
    no_other (refusal.NotRule n) lacks = absurd (has_all problem b n lacks rules_may)
    no_other (refusal.GeneratorLeft n rest) is = absurd (is.nonzero (generator_left n rest is.reached.part is.left))
    no_other (refusal.AmbiguityLeft a rest) is = absurd (is.nonzero (ambiguity_left a rest is.reached.part is.left))
    no_other (refusal.OtherRest rest) is = absurd (is.other (claim_left rest.terms is.left))
    no_other refusal.ZeroRest is = absurd (omega (arith, by_closing.left.nonzero, ap length is.said))
    no_other (refusal.Stopped p c) is = inl tt
    no_other (refusal.Memory failed) is = inr tt

    judged : IsClosedBasis problem b ⊎ ((r : ClosedRefusal) × Refuses problem b r × IsStop r)
    judged = go (each_basis_is_judged problem b)
      where
        only_stop : (r : ClosedRefusal) → (IsMemory r → ⊥) → IsStop r ⊎ IsMemory r → IsStop r
        only_stop r exact (inl stop) = stop
        only_stop r exact (inr short) = absurd (exact short)

        go : IsClosedBasis problem b ⊎ ((r : ClosedRefusal) × Refuses problem b r × (IsMemory r → ⊥))
            → IsClosedBasis problem b ⊎ ((r : ClosedRefusal) × Refuses problem b r × IsStop r)
        go (inl is) = inl is
        go (inr (r, refuses, exact)) = inr (r, refuses, only_stop r exact (no_other r refuses))

pub printed_bases_are_confirmed : PrintedBasesAreConfirmed
printed_bases_are_confirmed problem budget form b printed =
    record { judged = judged problem budget form b printed; no_other = no_other problem budget form b printed }
