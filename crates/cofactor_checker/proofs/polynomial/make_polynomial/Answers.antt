use Rattle.cofactor_checker.proofs.Prelude.{rules, ◌≡◌, ◌+◌, [], length, Ok, Err, map, int_div, sym, ap, subst, ◌∙◌, to_z, of_z, IsOrdered, word_cmp, poly_multiple, polynomials, reversed, collected, sized, Explains, sized-value, shaped-table, IsRunning, IsSumOf, plain_sum, HasLeastIndivisible, IsDivisible}
use mir.Syntax.{w128}
use Rattle.nc_polynomial.specs.declared.fault.PolyFault.TheVariants as fault
use Rattle.cofactor_checker.proofs.RowSums.{length-polynomials}
use Rattle.cofactor_checker.proofs.RowTests.{told_of_lemma}
use Rattle.cofactor_checker.proofs.LemmaTests.{rows_told}
use Rattle.cofactor_checker.proofs.Terms.{collected_is, quotient_back, no_overflow}
use Rattle.cofactor_checker.proofs.polynomial.make_polynomial.Goals as goal
use Rattle.cofactor_checker.proofs.polynomial.make_polynomial.Goals.{In_ok-terms, In-Ok}

-- the terms of the sum
terms : (c : In_ok-terms) → c.in_ok-terms.terms ≡ collected (plain_sum (polynomials c.args.generators.now) (polynomials c.args.lemmas.now) c.args.lemma.now.rows)
terms c =
    let m = c.in_ok-sum.sum in
    let p = plain_sum (polynomials c.args.generators.now) (polynomials c.args.lemmas.now) c.args.lemma.now.rows in
    let sum : IsSumOf m p = search rules in
    let ordered : IsOrdered word_cmp m = search rules in
    let out : c.in_ok-terms.terms ≡ reversed m.entries [] = search rules in
    out ∙ collected_is m p ordered sum

numbered : (c : In_ok-terms) → c.args.number ≡ length (polynomials c.args.lemmas.now) + 1
numbered c = c.requires.numbered ∙ ap (λ n. n + 1) (sym (length-polynomials c.args.lemmas.now))

-- they are within the limits
whole : (c : In-Ok) → c.in_ok-terms.terms ≡ c.in-Ok.multiple.terms
whole c = sized-value c.in_ok-terms.terms c.in-Ok.multiple.terms (search rules)

pub returns-in_err-sum-clause-refused : goal.returns-in_err-sum-clause-refused
returns-in_err-sum-clause-refused c =
    let gs = polynomials c.args.generators.now in
    let ls = polynomials c.args.lemmas.now in
    let e = c.in_err-sum.field-0.0 in
    let back : c.from_residual.result ≡ Err e = search rules in
    rw back (rows_told gs ls c.args.before c.args.lemma.now e (told_of_lemma gs ls c.args.before c.args.lemma.now.rows e (rw (← c.as_slice-rows.ensures) c.in_err-sum.ensures.refused)))

pub returns-in-Some-clause-refused : goal.returns-in-Some-clause-refused
returns-in-Some-clause-refused c =
    let passed = goal.at.returns-in-Some-clause-refused c in
    let l = c.args.lemma.now in
    let t = c.in-Some.term.now in
    let least : HasLeastIndivisible l.scale c.in_ok-terms.terms t.1 t.0 = search rules in
    let word : c.in_ok-copy.field-0 ≡ t.1 = search rules in
    let got : to_z w128 (of_z w128 t.0) ≡ t.0 = search rules in
    rw (word, got) (record { numbered = numbered passed.In_ok-terms; rows = search rules; least = subst (λ q. HasLeastIndivisible l.scale q t.1 t.0) (terms passed.In_ok-terms) least })

pub from_descending-requires : goal.from_descending-requires
from_descending-requires c =
    let m = c.in_ok-sum.sum in
    let ordered : IsOrdered word_cmp m = search rules in
    let running : IsRunning m = search rules in
    let out : c.in_ok-terms.terms ≡ reversed m.entries [] = search rules in
    rw out (shaped-table m ordered running.in_range)

pub divide-requires-clause-divides : goal.divide-requires-clause-divides
divide-requires-clause-divides c =
    let l = c.args.lemma.now in
    let is : to_z w128 (of_z w128 l.scale) ≡ l.scale = search rules in
    let each : IsDivisible l.scale c.in_ok-terms.terms = search rules in
    let all = subst (IsDivisible l.scale) (whole (goal.at.divide-requires-clause-divides c).In-Ok) each in
    rw is all.each

pub returns-in_ok-divide-in-Ok-clause-polynomial : goal.returns-in_ok-divide-in-Ok-clause-polynomial
returns-in_ok-divide-in-Ok-clause-polynomial c =
    let passed = goal.at.returns-in_ok-divide-in-Ok-clause-polynomial c in
    let l = c.args.lemma.now in
    let r = c.in_ok-divide-in-Ok.field-0 in
    let times : poly_multiple l.scale r.terms ≡ c.in-Ok.multiple.terms = search rules in
    sym (quotient_back l.scale r.terms c.requires.scale) ∙ ap (map (λ t. (int_div t.0 l.scale, t.1))) (times ∙ sym (whole passed.In-Ok) ∙ terms passed.In_ok-terms)

pub returns-in_ok-divide-in-Ok-clause-made : goal.returns-in_ok-divide-in-Ok-clause-made
returns-in_ok-divide-in-Ok-clause-made c =
    let passed = goal.at.returns-in_ok-divide-in-Ok-clause-made c in
    let is = terms passed.In_ok-terms in
    let each : IsDivisible c.args.lemma.now.scale c.in_ok-terms.terms = search rules in
    let limits : sized c.in_ok-terms.terms ≡ Ok c.in-Ok.multiple.terms = search rules in
    record { rows = search rules; divisible = subst (IsDivisible c.args.lemma.now.scale) is each; size = subst (λ q. sized q ≡ Ok q) is (limits ∙ ap Ok (sym (whole passed.In-Ok))) }

pub returns-in-Err-Size-clause-refused : goal.returns-in-Err-Size-clause-refused
returns-in-Err-Size-clause-refused c =
    let passed = goal.at.returns-in-Err-Size-clause-refused c in
    let is = terms passed.In_ok-terms in
    let each : IsDivisible c.args.lemma.now.scale c.in_ok-terms.terms = search rules in
    let limit = c.in-Err-Size.field-0-0 in
    let large : sized c.in_ok-terms.terms ≡ Err (fault.Size limit) = subst (Explains (sized c.in_ok-terms.terms)) c.in-Err-Size.field-0-is c.in-Err-Size.ensures in
    record { numbered = numbered passed.In_ok-terms; rows = search rules; divisible = subst (IsDivisible c.args.lemma.now.scale) is each; limit = limit; size = sym (ap sized is) ∙ large }

pub returns-in-Err-Overflow-clause-refused : goal.returns-in-Err-Overflow-clause-refused
returns-in-Err-Overflow-clause-refused c =
    let o = c.in-Err-Overflow.field-0-0 in
    let large : sized c.in_ok-terms.terms ≡ Err (fault.Overflow o) = subst (Explains (sized c.in_ok-terms.terms)) c.in-Err-Overflow.field-0-is c.in-Err-Overflow.ensures in
    absurd (no_overflow c.in_ok-terms.terms o large)
