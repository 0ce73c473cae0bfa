use Rattle.cofactor_checker.proofs.Prelude.{rules, ◌≡◌, Err, refl, to_z, of_z, polynomials, IsSumOf, plain_sum, LemmaRowsPass, RefusesLemmaRows}
use mir.Syntax.{w128}
use Rattle.cofactor_checker.proofs.LemmaOutcomes.{goal_from_rows}
use Rattle.cofactor_checker.proofs.RowTests.{told_of_lemma}
use Rattle.cofactor_checker.proofs.Outcomes.{sums_agree, sums_differ}
use Rattle.cofactor_checker.proofs.goal.check_goal.Goals as goal
use Rattle.cofactor_checker.proofs.goal.check_goal.Goals.{In_ok-sum}

-- the rows pass, and the map is their sum
passed : (c : In_ok-sum) → LemmaRowsPass (polynomials c.args.generators.now) (polynomials c.args.lemmas.now) c.args.goal.now.rows
passed c = rw (← c.as_slice-rows.ensures) c.in_ok-sum.ensures.passed

sum : (c : In_ok-sum) → IsSumOf c.in_ok-sum.sum (plain_sum (polynomials c.args.generators.now) (polynomials c.args.lemmas.now) c.args.goal.now.rows)
sum c = rw (← c.as_slice-rows.ensures) c.in_ok-sum.ensures.sum

pub returns-in_err-sum-clause-refused : goal.returns-in_err-sum-clause-refused
returns-in_err-sum-clause-refused c =
    let gs = polynomials c.args.generators.now in
    let ls = polynomials c.args.lemmas.now in
    let e = c.in_err-sum.field-0.0 in
    let back : c.from_residual.result ≡ Err e = search rules in
    let of_rows : RefusesLemmaRows gs ls c.args.before c.args.goal.now.rows e = rw (← c.as_slice-rows.ensures) (told_of_lemma gs ls c.args.before c.as_slice-rows.result.now e c.in_err-sum.ensures.refused) in
    rw back (goal_from_rows gs ls c.args.before c.args.goal.now c.args.claim.now.terms e of_rows)

pub returns-in-None-clause-reaches : goal.returns-in-None-clause-reaches
returns-in-None-clause-reaches c =
    let passed_to = goal.at.returns-in-None-clause-reaches c in
    record { rows = passed passed_to.In_ok-sum; sum = sums_agree c.args.goal.now.scale (sum passed_to.In_ok-sum) refl (search rules) }

pub returns-clause-refused : goal.returns-clause-refused
returns-clause-refused c =
    let passed_to = goal.at.returns-clause-refused c in
    let d = c.in-Some.difference in
    let want_is : to_z w128 (of_z w128 d.want) ≡ d.want = search rules in
    let got_is : to_z w128 (of_z w128 d.got) ≡ d.got = search rules in
    rw (want_is, got_is) (record { rows = passed passed_to.In_ok-sum; difference = sums_differ c.args.goal.now.scale (sum passed_to.In_ok-sum) refl (search rules) })
