-- The bases of the closed claims of a problem can be written, and each is closed, or its check stops.
use Rattle.command_runs.proofs.Prelude.{◌≡◌, ◌<◌, ◌≤◌, inl, inr, ℕ, zero, suc, ◌+◌, List, [], ◌∷◌, length, refl, sym, ap, ◌∙◌, subst, arith, All, range_with_len, All-nil, All-cons, All-map, All-weaker, Term, Compare, Poly, distinct-descending, words_listed, recursion_from_IsDescending, Declaration, letter_count, quiver_of, Format, Halt, Rule, IsRule, typed_has_no_empty_word, Problem, claim_at, claim_numbers, Budget, Setting, setting_of, AreWords, words_from, words_nonempty, normal_words, Outcome, AreOutcomesOf, AreLastRules, IsOutcomeAt, open_run, outcomes_have_letters, last_rules_have_letters, any_letter, claim_is, state_kept, Verdict, Basis, HasLetters, IsWritableBasis, rule_limit, IsVerdictOfHalt, AreVerdictsOf, IsNumberUpTo, order_of, IsConfirmedWithinLimits, basis_by, bases_from, closed_from, ReportedBasesAreConfirmed}
use Rattle.claim_decider.specs.declared.outcome.Outcome.TheVariants as outcome
use Rattle.command_runs.proofs.ClosedRuns.{Closes, closes}
use Rattle.command_runs.proofs.Printed.{printed_bases_are_confirmed}

-- the bases of the verdicts are those of the outcomes
module _ (ds : List Declaration) (rules : List Poly) where
  none_of_halted : (h : Halt) (v : Verdict) (claim : ℕ) (verdicts : List Verdict) → IsVerdictOfHalt ds h v
      → bases_from rules claim (v ∷ verdicts) ≡ bases_from rules (suc claim) verdicts
  none_of_halted h v claim verdicts (inl undecided) = ap (λ u. bases_from rules claim (u ∷ verdicts)) undecided
  none_of_halted h v claim verdicts (inr refuted) = ap (λ u. bases_from rules claim (u ∷ verdicts)) refuted.2

  pub same_bases : (claim : ℕ) (outcomes : List Outcome) (verdicts : List Verdict) → AreVerdictsOf ds outcomes verdicts
      → bases_from rules claim verdicts ≡ closed_from rules claim outcomes
  same_bases claim [] [] are = refl
  same_bases claim [] (v ∷ verdicts) are = absurd are
  same_bases claim (o ∷ outcomes) [] are = absurd are
  same_bases claim (outcome.Derived e ∷ outcomes) (v ∷ verdicts) are =
      ap (λ u. bases_from rules claim (u ∷ verdicts)) are.0 ∙ same_bases (suc claim) outcomes verdicts are.1
  same_bases claim (outcome.Closed rest ∷ outcomes) (v ∷ verdicts) are =
      ap (λ u. bases_from rules claim (u ∷ verdicts)) are.0 ∙ ap (λ (bases : List Basis). basis_by rules claim rest ∷ bases)
      (same_bases (suc claim) outcomes verdicts are.1)
  same_bases claim (outcome.Halted h ∷ outcomes) (v ∷ verdicts) are = none_of_halted h v claim verdicts are.0 ∙ same_bases (suc claim) outcomes verdicts are.1

module _ (problem : Problem) (budget : Budget) (form : Format) where
  abbrev setting : Setting
  setting = setting_of problem budget

  abbrev compare : Compare
  compare = order_of problem

  abbrev letters : ℕ
  letters = letter_count problem.parts.quiver

  abbrev count : ℕ
  count = length problem.parts.claims

  -- what holds of the basis of each closed claim, by its outcome
  module _ (rules : List Poly) (P : Basis → Type 0)
      (each : (number : ℕ) (rest : Poly) → IsNumberUpTo count number → IsOutcomeAt problem budget form number (outcome.Closed rest)
      → P (basis_by rules number rest)) where
    each_from : (claim more : ℕ) → 1 ≤ claim → claim + more ≤ suc count → (outcomes : List Outcome)
        → AreOutcomesOf setting form problem (range_with_len claim more) outcomes
        → All P (closed_from rules claim outcomes)
    each_from claim zero first last [] are = All-nil P
    each_from claim zero first last (o ∷ outcomes) are = absurd are
    each_from claim (suc more) first last [] are = absurd are
    each_from claim (suc more) first last (o ∷ outcomes) are =
        let step : claim + 1 ≡ suc claim = omega arith in
        go o are.0
        (each_from (suc claim) more (omega (arith, first)) (omega (arith, last)) outcomes
        (subst (λ n. AreOutcomesOf setting form problem (range_with_len n more) outcomes) step are.1))
      where
        go : (o : Outcome) → IsOutcomeAt problem budget form claim o → All P (closed_from rules (suc claim) outcomes)
            → All P (closed_from rules claim (o ∷ outcomes))
        go (outcome.Derived e) is rest = rest
        go (outcome.Closed left) is rest =
            All-cons P (basis_by rules claim left) (closed_from rules (suc claim) outcomes) (each claim left (record { least = first; most = omega (arith, last) }) is) rest
        go (outcome.Halted h) is rest = rest

    pub each_closed : (outcomes : List Outcome) → AreOutcomesOf setting form problem (claim_numbers problem) outcomes → All P (closed_from rules 1 outcomes)
    each_closed outcomes are = each_from 1 count (omega arith) (omega arith) outcomes are

  -- words with letters
  claim_words : (number : ℕ) → AreWords letters (claim_at problem number)
  claim_words number =
      let is = claim_is problem number in
      let claim = claim_at problem number in
      words_from letters claim
      (words_listed (λ w. 0 < length w) claim (distinct-descending claim (recursion_from_IsDescending claim is.shaped.descending))
      is.shaped.nonzero
      (typed_has_no_empty_word (quiver_of problem.parts.quiver) any_letter claim is.typed).at)
      is.over

  rest_has_letters : (number : ℕ) (rest : Poly) → IsOutcomeAt problem budget form number (outcome.Closed rest) → HasLetters rest
  rest_has_letters number rest is =
      let closing : Closes setting (claim_at problem number) rest.terms is.rounds is.state = closes setting form number
      (claim_at problem number) is.rounds is.state rest is.gets in
      let run = open_run setting (claim_at problem number) is.rounds is.state closing.opened in
      let are = (state_kept problem budget is.rounds is.state run).kept.are_rules in
      let words = normal_words letters compare is.state.rules are (claim_at problem number) budget.steps closing.left.reduced
      (claim_words number) closing.left.reduction in
      subst (All (λ (t : Term). 0 < length t.1)) closing.left.rest_is (words_nonempty letters closing.left.reduced.rest words)

  module _ (rules : List Poly) (last : AreLastRules setting form problem (claim_numbers problem) rules) where
    rules_have_letters : All HasLetters rules
    rules_have_letters =
        subst (All HasLetters) (sym last.are)
        (All-map HasLetters (λ (g : Rule). g.poly) last.state.rules
        (All-weaker (IsRule letters compare) (λ g. HasLetters g.poly) (λ g is. is.nonempty) last.state.rules (state_kept problem budget last.rounds last.state last.run).kept.are_rules))

    pub closed_are_writable : length rules ≤ rule_limit → (outcomes : List Outcome) → AreOutcomesOf setting form problem (claim_numbers problem) outcomes
        → All (IsWritableBasis problem.parts.quiver) (closed_from rules 1 outcomes)
    closed_are_writable few =
        each_closed rules (IsWritableBasis problem.parts.quiver) (λ number rest there is. record {
          claim = omega (arith, there.most, problem.posed.few_claims);
          few = few;
          over = record {
            rules = last_rules_have_letters problem budget form (claim_numbers problem) rules last;
            rest = outcomes_have_letters problem budget form number (outcome.Closed rest) is;
          };
          rules = rules_have_letters;
          rest = rest_has_letters number rest is;
        })

    pub closed_are_confirmed : (outcomes : List Outcome) → AreOutcomesOf setting form problem (claim_numbers problem) outcomes
        → All (IsConfirmedWithinLimits problem) (closed_from rules 1 outcomes)
    closed_are_confirmed =
        each_closed rules (IsConfirmedWithinLimits problem)
        (λ number rest there is. printed_bases_are_confirmed problem budget form (basis_by rules number rest) (record { outcome = is; rules = last }))

pub reported_bases_are_confirmed : ReportedBasesAreConfirmed
reported_bases_are_confirmed problem budget form outcomes rules are last = closed_are_confirmed problem budget form rules last outcomes are
