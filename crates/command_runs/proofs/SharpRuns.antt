-- The rules of a run are typed and in play, so the bases that are printed of closed claims are sharp.
use Rattle.command_runs.proofs.Prelude.{◌≡◌, ℕ, true, List, [], ◌∷◌, length, ◌∙◌, refl, sym, ap, subst, arith, All, length-map, Term, InRationalIdeal, IsOver, asked_rank, letter_count, Format, Poly, Rule, polynomials_of, words_with_coefficients, Resolved, IsZero, HasLettersBelow, all_from_numbers, normal_forms_are_reduced, rests_of_ideal_are_zero, Problem, polynomials, claim_at, Budget, RunState, setting_of, polynomials_in, state_kept, Basis, order_of, rules_of, claim_of, zero_is_empty, canonical_at, claim_over, order_laws, SharpMeans, star_sharp_means, AreSharp, is_sharp, problem_is_sharp, sharp_rules_are_told, claim_closed, IsPrinted, PrintedBasesAreSharp, PrintedBasesMeanSharp, PrintedBasesMeanStarSharp}
use Rattle.command_runs.proofs.ClosedRuns.{Closes}
use Rattle.command_runs.proofs.Printed.{run, polys_are, rules_are, names, by_closing, are_rules, resolved, generator_inside}

terms_of_rules : (rules : List Rule) → polynomials (polynomials_in rules) ≡ polynomials_of rules
terms_of_rules [] = refl
terms_of_rules (g ∷ rules) = ap (λ (ps : List (List Term)). g.poly.terms ∷ ps) (terms_of_rules rules)

module _ (problem : Problem) (budget : Budget) (form : Format) (b : Basis) (printed : IsPrinted problem budget form b) where
  abbrev state : RunState
  state = printed.outcome.state

  abbrev rounds : ℕ
  rounds = printed.outcome.rounds

  -- the rules are typed and in play
  rules_are_sharp : AreSharp problem.parts state.rules
  rules_are_sharp = (state_kept problem budget rounds state (run problem budget form b printed)).typed

  pub printed_is_sharp : is_sharp problem.parts (polynomials b.rules) ≡ true
  printed_is_sharp =
      let same : polynomials b.rules ≡ polynomials_of state.rules =
      ap (λ (ps : List Poly). polynomials ps) (polys_are problem budget form b printed) ∙ terms_of_rules state.rules in
      subst (λ (ps : List (List Term)). is_sharp problem.parts ps ≡ true) (sym same) ((sharp_rules_are_told problem.parts state.rules).1 rules_are_sharp)

  -- the generators are in the ideal of the rules, and the claim isn't
  abbrev letters : ℕ
  letters = letter_count problem.parts.quiver

  closing : Closes (setting_of problem budget) (claim_at problem b.claim) b.rest.terms rounds state
  closing = by_closing problem budget form b printed

  are_resolved : Resolved letters (order_of problem) state.rules
  are_resolved = resolved problem budget rounds state (run problem budget form b printed) closing.round

  generated : All (InRationalIdeal (polynomials_of state.rules)) (polynomials problem.generators)
  generated = all_from_numbers (InRationalIdeal (polynomials_of state.rules)) (polynomials problem.generators)
      (λ n first last. generator_inside problem budget rounds state (run problem budget form b printed) closing.round n
      (record { least = first; most = omega (arith, last, length-map problem.generators (λ (p : Poly). p.terms)) }))

  outside : InRationalIdeal (polynomials_of state.rules) (claim_at problem b.claim) → ⊥
  outside inside =
      let rank = asked_rank letters problem.parts.order in
      let laws = order_laws problem letters in
      let are = are_rules problem budget rounds state (run problem budget form b printed) in
      let claim = claim_at problem b.claim in
      let over = claim_over problem b.claim in
      let reduced = normal_forms_are_reduced letters (order_of problem) rank state.rules claim budget.steps closing.left.reduced laws are
      (canonical_at problem.parts.claims b.claim).shaped over closing.left.reduction in
      let below : HasLettersBelow letters claim =
      record { at = words_with_coefficients (IsOver letters) claim over } in
      let vanishes = rests_of_ideal_are_zero letters (order_of problem) rank state.rules claim closing.left.reduced laws are are_resolved inside below reduced in
      let none = zero_is_empty b.rest.terms b.rest.canonical.shaped (subst IsZero closing.left.rest_is vanishes) in
      omega (arith, closing.left.nonzero, ap (λ (p : List Term). length p) none)

  means : SharpMeans problem.parts (rules_of problem b) (claim_at problem b.claim)
  means =
      let claim = names problem budget form b printed in
      subst (λ (rules : List Rule). SharpMeans problem.parts rules (claim_at problem b.claim)) (sym (rules_are problem budget form b printed))
      (problem_is_sharp problem state.rules (are_rules problem budget rounds state (run problem budget form b printed)) are_resolved generated rules_are_sharp
      b.claim claim.least claim.most outside)

pub printed_bases_are_sharp : PrintedBasesAreSharp
printed_bases_are_sharp problem budget form b text printed accepts =
    accepts.says ∙ ap (λ sharp. claim_closed b.claim sharp) (printed_is_sharp problem budget form b printed)

pub printed_bases_mean_sharp : PrintedBasesMeanSharp
printed_bases_mean_sharp problem budget form b printed = means problem budget form b printed

pub printed_bases_mean_star_sharp : PrintedBasesMeanStarSharp
printed_bases_mean_star_sharp problem budget form b printed starred =
    star_sharp_means problem.parts (rules_of problem b) (claim_of problem b) problem.posed starred (means problem budget form b printed)
