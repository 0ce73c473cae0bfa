use Rattle.expressions.proofs.Prelude.{rules, ◌≡◌, ◌+◌, ◌*ℤ◌, ◌≤◌, length, to_z, of_z, Err, sym, subst, ◌∙◌, arith, w128, IsCoefficient, product_of, repeated_word}
use Rattle.nc_polynomial.specs.declared.fault.PolyFault.TheVariants as fault
use Rattle.expressions.proofs.TermPowers.{coefficient-alone, length-repeated-next, term-overflows, term-next, canonical-next}
use Rattle.expressions.proofs.powers.coefficient_of_power.Goals as goal

pub times-requires-clause-left_in : goal.times-requires-clause-left_in
times-requires-clause-left_in c = coefficient-alone (to_z w128 c.loop.coefficient-bits, repeated_word c.loop.counter c.args.term.now.1) c.loop.invariant.canonical

pub times-requires-clause-right_in : goal.times-requires-clause-right_in
times-requires-clause-right_in c =
    let fits = coefficient-alone c.args.term.now c.requires.canonical in
    let same : to_z w128 (of_z w128 c.args.term.now.0) ≡ c.args.term.now.0 = search rules in
    subst IsCoefficient (sym same) fits

pub returns-in_err-coefficient-clause-exact : goal.returns-in_err-coefficient-clause-exact
returns-in_err-coefficient-clause-exact c =
    let t = c.args.term.now in
    let k = to_z w128 c.loop.coefficient-bits in
    let e = fault.Overflow c.in_err-coefficient.field-0.0 in
    let here = c.loop.invariant in
    let given : c.from_residual.result ≡ Err e = search rules in
    let base : c.len.result ≡ length t.1 = search rules in
    let grown : c.saturating_add-letters.result ≡ length (repeated_word c.loop.counter t.1) + length t.1 = search rules in
    let short : length (repeated_word c.loop.counter t.1) + length t.1 ≤ 500 = omega (arith, grown, c.if-letters-gt-WORD_LIMIT.false) in
    let same : to_z w128 (of_z w128 t.0) ≡ t.0 = search rules in
    let over : ¬ IsCoefficient (k *ℤ t.0) = search rules in
    let is : c.in_err-coefficient.field-0.0 ≡ product_of k t.0 = search rules in
    rw given (term-overflows t c.requires.canonical c.args.factors c.loop.counter k here.rest here.canonical c.loop-test.true short c.in_err-coefficient.field-0.0 is over)

pub loop-preserved : goal.loop-preserved
loop-preserved c =
    let t = c.args.term.now in
    let k = to_z w128 c.loop.coefficient-bits in
    let here = c.loop.invariant in
    let letters : c.loop.letters ≡ length (repeated_word c.loop.counter t.1) = here.letters in
    let base : c.len.result ≡ length t.1 = search rules in
    let grown : c.saturating_add-letters.result ≡ length (repeated_word c.loop.counter t.1) + length t.1 = search rules in
    let short : length (repeated_word c.loop.counter t.1) + length t.1 ≤ 500 = omega (arith, grown, c.if-letters-gt-WORD_LIMIT.false) in
    let fits : IsCoefficient (k *ℤ t.0) = search rules in
    let is : to_z w128 (of_z w128 c.in_ok-coefficient.coefficient) ≡ k *ℤ t.0 = search rules in
    record {
      rest = rw is (term-next t c.requires.canonical c.args.factors c.loop.counter k here.rest here.canonical c.loop-test.true short fits);
      canonical = rw is (canonical-next t c.requires.canonical c.args.factors c.loop.counter k here.rest here.canonical c.loop-test.true short fits);
      letters = grown ∙ sym (length-repeated-next c.loop.counter t.1);
      begun = omega (arith, here.begun);
    }
