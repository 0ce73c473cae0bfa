use Rattle.cofactor_checker.proofs.Prelude.{rules, ◌≡◌, ◌*ℤ◌, ℕ, List, Some, Err, inl, refl, to_z, of_z, first_overflow, coefficient_of, row_sum, coefficient_in, products, rows_of, polynomials, AddsUp, Accepts, SumDiffers, Refuses, IsSumOf}
use mir.Syntax.{w128}
use Rattle.cofactor_checker.specs.declared.refusal.Refusal.TheVariants as refusal
use Rattle.cofactor_checker.proofs.Judged.{accepted_is_not_refused}
use Rattle.cofactor_checker.proofs.Outcomes.{posed, begins, refuses_from_row, sums_agree, sums_differ, combination_from_accepts}
use Rattle.cofactor_checker.proofs.RowSums.{Names, named}
use Rattle.cofactor_checker.proofs.RowTests.{from_start}
use Rattle.cofactor_checker.proofs.certificate.check_over.Goals as goal
use Rattle.cofactor_checker.proofs.certificate.check_over.Goals.{In-Some, In_ok-sum}

-- the certificate names the claim
claim : (c : In-Some) → Names c.args.claims.now c.args.certificate.now.claim c.in-Some.claim.now
claim c = named c.args.claims.now c.args.certificate.now.claim c.in-Some.claim.now (search rules) (search rules)

-- the rows pass, and the map is their sum
adds_up : (c : In_ok-sum) → Names c.args.claims.now c.args.certificate.now.claim c.in-Some.claim.now → AddsUp (polynomials c.args.claims.now) (polynomials c.args.generators.now) c.args.certificate.now
adds_up c names = record { begins = begins names (search rules) (search rules); rows = search rules }

sum : (c : In_ok-sum) → IsSumOf c.in_ok-sum.sum (row_sum (polynomials c.args.generators.now) (rows_of c.args.certificate.now.rows))
sum c = search rules

pub returns-in-Some-overflow_of_multiple : goal.returns-in-Some-overflow_of_multiple
returns-in-Some-overflow_of_multiple c =
    let names = claim (goal.at.returns-in-Some-overflow_of_multiple c).In-Some in
    let e = refusal.Overflow 0 c.in-Some-overflow_of_multiple.overflow in
    let first : first_overflow (products c.args.certificate.now.denominator c.in-Some.claim.now.terms) ≡ Some c.in-Some-overflow_of_multiple.overflow = search rules in
    let refused : Refuses (polynomials c.args.claims.now) (polynomials c.args.generators.now) c.args.certificate.now e = inl (record { before_rows = refl; posed = posed names (search rules); products = rw names.terms at first }) in
    record { accepted = tt; accepts = tt; combination = tt; refuses = refused; complete = λ accepted. accepted_is_not_refused accepted e refused }

pub returns-in_err-sum : goal.returns-in_err-sum
returns-in_err-sum c =
    let e = c.in_err-sum.field-0.0 in
    let back : c.from_residual.result ≡ Err e = search rules in
    let of_row = from_start (polynomials c.args.generators.now) c.args.certificate.now.rows e (rw (← c.as_slice-rows.ensures) c.in_err-sum.ensures.refused) in
    let refused = refuses_from_row (begins (claim (goal.at.returns-in_err-sum c).In-Some) (search rules) (search rules)) e of_row in
    rw back (record { accepted = tt; accepts = tt; combination = tt; refuses = refused; complete = λ accepted. accepted_is_not_refused accepted e refused })

pub returns-in-Ok-None : goal.returns-in-Ok-None
returns-in-Ok-None c =
    let passed = goal.at.returns-in-Ok-None c in
    let names = claim passed.In-Some in
    let same : (w : List ℕ) → coefficient_in c.in_ok-sum.sum w ≡ c.args.certificate.now.denominator *ℤ coefficient_of c.in-Some.claim.now.terms w = search rules in
    let accepted : Accepts (polynomials c.args.claims.now) (polynomials c.args.generators.now) c.args.certificate.now =
    record { adds_up = adds_up passed.In_ok-sum names; sum = sums_agree c.args.certificate.now.denominator (sum passed.In_ok-sum) names.terms same } in
    record { accepted = search rules; accepts = accepted; combination = combination_from_accepts accepted; refuses = tt; complete = λ again. tt }

pub returns-in-Ok-Some : goal.returns-in-Ok-Some
returns-in-Ok-Some c =
    let passed = goal.at.returns-in-Ok-Some c in
    let names = claim passed.In-Some in
    let d = c.in-Ok-Some.difference in
    let want_is : to_z w128 (of_z w128 d.want) ≡ d.want = search rules in
    let got_is : to_z w128 (of_z w128 d.got) ≡ d.got = search rules in
    let refused : SumDiffers (polynomials c.args.claims.now) (polynomials c.args.generators.now) c.args.certificate.now d.word d.want d.got =
    record { adds_up = adds_up passed.In_ok-sum names; difference = sums_differ c.args.certificate.now.denominator (sum passed.In_ok-sum) names.terms (search rules) } in
    rw (want_is, got_is) (record { accepted = tt; accepts = tt; combination = tt; refuses = refused; complete = λ accepted. accepted_is_not_refused accepted (refusal.Differs d.word d.want d.got) refused })
