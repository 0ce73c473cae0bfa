-- Causes that are accepted and refused, worked out by hand.
use Rattle.outcome_laws.proofs.Prelude.{◌≡◌, ℕ, ℤ, pos, negsuc, ◌*ℤ◌, zero, suc, true, false, List, [], ◌∷◌, Option, Some, refl, sym, ap, ◌∙◌, subst, arith, range_with_len, ints, Overflow, IsCoefficient, product_of, sum_of, exact_value, Term, coefficient_of, Compare, asked_cmp, Rule, rule_at, Place, Problem, claim_at, Budget, PassesLimit, Reduced, unreduced, IsOfStep, of_multiplier, of_rest, of_taken, of_rule, of_difference, IsTooLarge, PairsAreSpent, StepsAreSpent, ClaimRecord}
use Rattle.cofactor_trace.specs.declared.halt.Place.TheVariants as place
use Rattle.outcome_laws.specs.ReductionSteps.{Goes}

-- Of b a b = a b a with one pair: as many as the budget has, no fewer and no more, and between two rounds.
abbrev one_pair : Budget
one_pair = record { pairs = 1; steps = 100 }

no_pair : (problem : Problem) (at : Place) (least : Option (List ℕ)) → PairsAreSpent problem one_pair at least 0 → ⊥
no_pair problem at least means = absurd (omega (arith, means.budget_is))

two_pairs : (problem : Problem) (at : Place) (least : Option (List ℕ)) → PairsAreSpent problem one_pair at least 2 → ⊥
two_pairs problem at least means = absurd (omega (arith, means.budget_is))

in_a_round : (problem : Problem) (least : Option (List ℕ)) → PairsAreSpent problem one_pair (place.Round 1) least 1 → ⊥
in_a_round problem least means = cc (means.place_is)

-- The steps are those of the budget.
other_steps : (problem : Problem) (number : ℕ) (at : Place) → StepsAreSpent problem one_pair number at 99 → ⊥
other_steps problem number at means = absurd (omega (arith, means.budget_is))

-- Of 2 b = a and M b b = a, where b has the number 1 and a the number 0: M b b - a is multiplied by 2, and M b times 2 b - a is taken away.
abbrev large : ℤ
large = pos 170141183460469231731687303715884105727

abbrev start : Reduced
start = record { multiplier = pos 1; rest = (large, 1 ∷ 1 ∷ []) ∷ (negsuc 0, 0 ∷ []) ∷ []; taken = [] }

abbrev rule : List Term
rule = (pos 2, 1 ∷ []) ∷ (negsuc 0, 0 ∷ []) ∷ []

abbrev around : List Term
around = (pos 2, 1 ∷ 1 ∷ []) ∷ (negsuc 0, 1 ∷ 0 ∷ []) ∷ []

doubled : IsOfStep start (pos 2) large rule around (product_of large (pos 2))
doubled = of_rest (large, 1 ∷ 1 ∷ []) (0, omega arith, refl) refl

out_of_range : IsCoefficient (exact_value (product_of large (pos 2))) → ⊥
out_of_range fits = absurd (omega (arith, fits))

-- the sum of the same operands is out of range too, and none of the step
even : (c : ℤ) → large ≡ c *ℤ pos 2 → ⊥
even c same = absurd (omega (arith, ints, same))

no_sum : IsOfStep start (pos 2) large rule around (sum_of large (pos 2)) → ⊥
no_sum (of_multiplier same) = cc (ap (λ (o : Overflow). o.product) same)
no_sum (of_rest t listed same) = cc (ap (λ (o : Overflow). o.product) same)
no_sum (of_taken row listed same) = cc (ap (λ (o : Overflow). o.product) same)
no_sum (of_rule t listed same) = cc (ap (λ (o : Overflow). o.product) same)
no_sum (of_difference w same) = even (coefficient_of start.rest w) (ap (λ (o : Overflow). o.left) same)

-- By no rules nothing is taken away: neither rows that cancel one another nor 200,001 rows with the coefficient 0 are the record of a claim.
no_rule : (k : ℕ) (g : Rule) → rule_at [] k ≡ Some g → ⊥
no_rule zero g e = cc
no_rule (suc k) g e = cc

none_taken : (compare : Compare) (made : ℕ) (p : List Term) (now : Reduced) → Goes compare [] made (unreduced p) now → now.taken ≡ []
none_taken compare zero p now goes = ap (λ (r : Reduced). r.taken) (sym goes)
none_taken compare (suc n) p now goes = absurd (no_rule goes.step.next.choice.number goes.step.next.chosen.rule goes.step.next.chosen.numbered)

no_rows : (problem : Problem) (number : ℕ) (r : ClaimRecord problem one_pair number) → r.rules ≡ [] → r.claim.rows ≡ []
no_rows problem number r none =
    r.rows_are
    ∙ none_taken (asked_cmp problem.parts.order) r.leaves.made (claim_at problem number) r.reduced
    (subst (λ (rules : List Rule). Goes (asked_cmp problem.parts.order) rules r.leaves.made (unreduced (claim_at problem number)) r.reduced) none r.leaves.goes)

-- A word of 501 letters is too long; 200,001 rows are too many, and 200,000 rows or 1,000,000 letters are not.
too_long : IsTooLarge true ((pos 1, range_with_len 0 501) ∷ [])
too_long = (0, (pos 1, range_with_len 0 501), omega arith, refl, omega arith)

too_many_rows : PassesLimit false 200001 0
too_many_rows = omega arith

as_many_rows : PassesLimit false 200000 0 → ⊥
as_many_rows passes = absurd (omega (arith, passes))

as_many_letters : PassesLimit true 0 1000000 → ⊥
as_many_letters passes = absurd (omega (arith, passes))
