use Rattle.rule_reduce.proofs.Prelude.{rules, ◌≡◌, Ok, Err, MatchResult, All, IsCoefficient, negated, shifted, products, added, sums, checked, sized, Explains}
use Rattle.rule_reduce.proofs.Exits.{all-negated, exit_shifted, exit_merged, all_subtracted, shaped_less}
use Rattle.rule_reduce.proofs.stepping.subtract_multiple.Goals as goal
use Rattle.rule_reduce.proofs.stepping.subtract_multiple.Goals.{In_ok-taken, In_ok-taken-2, In_ok-add_terms}

-- the multiple of the rule
taken_is : (c : In_ok-taken) → checked (products c.args.times c.args.rule.now.terms) (shifted c.args.times c.args.left.now c.args.rule.now.terms c.args.right.now) ≡ Ok c.in_ok-taken.taken
taken_is c = search rules

-- its negative
negative_is : (c : In_ok-taken-2) → c.in_ok-taken-2.taken ≡ negated c.in_ok-taken.taken
negative_is c = search rules

-- and the sum
sum_is : (c : In_ok-add_terms) → checked (sums c.args.rest (negated c.in_ok-taken.taken)) (added c.args.rest (negated c.in_ok-taken.taken)) ≡ Ok c.in_ok-add_terms.field-0
sum_is c =
    let negative : c.in_ok-taken-2.taken ≡ negated c.in_ok-taken.taken = search rules in
    let sum : checked (sums c.args.rest c.in_ok-taken-2.taken) (added c.args.rest c.in_ok-taken-2.taken) ≡ Ok c.in_ok-add_terms.field-0 = search rules in
    rw negative at sum

pub returns-in_err-taken : goal.returns-in_err-taken
returns-in_err-taken c =
    let k = c.args.times in
    let l = c.args.left.now in
    let g = c.args.rule.now.terms in
    let r = c.args.right.now in
    let e = c.in_err-taken.field-0.0 in
    let why : Explains (checked (products k g) (shifted k l g r)) e = search rules in
    let back : c.from_residual.result ≡ Err e = search rules in
    rw back (exit_shifted k l g r c.args.rest e why)

pub add_terms-requires-clause-others_in : goal.add_terms-requires-clause-others_in
add_terms-requires-clause-others_in c =
    let taken = c.in_ok-taken.taken in
    let before : All (λ t. IsCoefficient t.0) taken = search rules in
    rw (negative_is c) (all-negated taken before)

pub returns-in_err-add_terms : goal.returns-in_err-add_terms
returns-in_err-add_terms c =
    let passed = goal.at.returns-in_err-add_terms c in
    let p = c.args.rest in
    let negative = c.in_ok-taken-2.taken in
    let e = c.in_err-add_terms.field-0.0 in
    let why : Explains (checked (sums p negative) (added p negative)) e = search rules in
    let back : c.from_residual-in_err-add_terms.result ≡ Err e = search rules in
    rw back (exit_merged c.args.times c.args.left.now c.args.rule.now.terms c.args.right.now p c.in_ok-taken.taken (taken_is passed.In_ok-taken) e
    (rw (negative_is passed.In_ok-taken-2) at why))

pub from_descending-requires : goal.from_descending-requires
from_descending-requires c =
    let first = taken_is (goal.at.from_descending-requires c).In_ok-taken in
    shaped_less c.args.times c.args.left.now c.args.rule.now.terms c.args.right.now c.args.rest c.in_ok-taken.taken first c.in_ok-add_terms.field-0
    c.requires.shaped c.args.rule.now.canonical.shaped (sum_is c)

pub returns : goal.returns
returns c =
    let passed = goal.at.returns c in
    let v = c.in_ok-add_terms.field-0 in
    let size : MatchResult c.from_descending.result (λ q. sized v ≡ Ok q.terms) (Explains (sized v)) = search rules in
    rw (all_subtracted c.args.times c.args.left.now c.args.rule.now.terms c.args.right.now c.args.rest c.in_ok-taken.taken (taken_is passed.In_ok-taken) v (sum_is passed.In_ok-add_terms)) size
