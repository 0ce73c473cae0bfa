use Rattle.expressions.proofs.Prelude.{◌≡◌, rules, Ok, Err, ◌∙◌, arith, the_lemmas, object_count, term_signature, factor_signature, names_of_the_term, names_of_the_factor}
use Rattle.expressions.proofs.Ends.{objects-marked_signature, objects-product_step, objects-sum_step}
use Rattle.expressions.proofs.SignatureLoops.{sum-end, sum-fault, sum-next, only-factor, product-end, product-fault, product-next}
use Rattle.expressions.proofs.signature.+signatures.Goals as goal

pub factor_signature-returns-clause-in_range : goal.factor_signature-returns-clause-in_range
factor_signature-returns-clause-in_range t c =
    rw c.marked_signature.ensures (objects-marked_signature (object_count c.args.quiver.now) c.args.factor.now.at c.as_slice.result.now c.in_ok-signature.signature (search rules))

-- a sum
pub sum_signature-term_signature-requires : goal.sum_signature-term_signature-requires
sum_signature-term_signature-requires t c =
    (search (rules, the_lemmas), names_of_the_term c.args.quiver.now c.args.sum.now c.as_slice-term-items.result.now c.loop-term.term-index c.term-item.result c.requires c.as_slice-term-items.ensures c.loop-term-test.true c.term-item.is)

pub sum_signature-returns-in_err-next-clause-exact : goal.sum_signature-returns-in_err-next-clause-exact
sum_signature-returns-in_err-next-clause-exact t c =
    let e = c.in_err-next.field-0.0 in
    let given : c.from_residual.result ≡ Err e = search rules in
    let fault : term_signature c.args.quiver.now c.term-item.result ≡ Err e = search rules in
    given ∙ sum-fault c.args.quiver.now c.args.sum.now c.as_slice-term-items.result.now c.as_slice-term-items.ensures c.loop-term.term-index c.loop-term.signature c.loop-term.invariant.rest c.term-item.result c.loop-term-test.true c.term-item.is e fault

pub sum_signature-loop-term-preserved : goal.sum_signature-loop-term-preserved
sum_signature-loop-term-preserved t c =
    let ok : term_signature c.args.quiver.now c.term-item.result ≡ Ok c.in_ok-next.next = search rules in
    rw c.sum_step-signature.ensures (record {
      rest = sum-next c.args.quiver.now c.args.sum.now c.as_slice-term-items.result.now c.as_slice-term-items.ensures c.loop-term.term-index c.loop-term.signature c.loop-term.invariant.rest c.term-item.result c.loop-term-test.true c.term-item.is c.in_ok-next.next ok;
      in_range = objects-sum_step (object_count c.args.quiver.now) c.loop-term.signature _ c.in_ok-next.next c.loop-term.invariant.in_range (search rules);
    })

pub sum_signature-returns-clause-exact : goal.sum_signature-returns-clause-exact
sum_signature-returns-clause-exact t c =
    sum-end c.args.quiver.now c.args.sum.now c.as_slice-term-items.result.now c.as_slice-term-items.ensures c.loop-term.term-index c.loop-term.signature c.loop-term.invariant.rest (omega (arith, c.loop-term-test.false))

-- a product
pub term_signature-factor_signature-requires : goal.term_signature-factor_signature-requires
term_signature-factor_signature-requires t c =
    (search (rules, the_lemmas), names_of_the_factor c.args.quiver.now c.args.term.now c.as_slice-factors.result.now 0 c.index-factors-0.result c.requires c.as_slice-factors.ensures (omega (arith, c.if-factors-eq1.true)) c.index-factors-0.is)

pub term_signature-returns-then-factors-eq1-clause-exact : goal.term_signature-returns-then-factors-eq1-clause-exact
term_signature-returns-then-factors-eq1-clause-exact t c =
    c.factor_signature.ensures.exact ∙ only-factor c.args.quiver.now c.args.term.now c.as_slice-factors.result.now c.as_slice-factors.ensures c.if-factors-eq1.true c.index-factors-0.result c.index-factors-0.is

pub term_signature-factor_signature-requires-in-loop-factor : goal.term_signature-factor_signature-requires-in-loop-factor
term_signature-factor_signature-requires-in-loop-factor t c =
    (search (rules, the_lemmas), names_of_the_factor c.args.quiver.now c.args.term.now c.as_slice-factors.result.now c.loop-factor.factor-index c.factor-item.result c.requires c.as_slice-factors.ensures c.loop-factor-test.true c.factor-item.is)

pub term_signature-returns-in_err-next-clause-exact : goal.term_signature-returns-in_err-next-clause-exact
term_signature-returns-in_err-next-clause-exact t c =
    let e = c.in_err-next.field-0.0 in
    let given : c.from_residual.result ≡ Err e = search rules in
    let fault : factor_signature c.args.quiver.now c.factor-item.result ≡ Err e = search rules in
    given ∙ product-fault c.args.quiver.now c.args.term.now c.as_slice-factors.result.now c.as_slice-factors.ensures c.loop-factor.invariant.several c.loop-factor.factor-index c.loop-factor.signature c.loop-factor.invariant.rest c.factor-item.result c.loop-factor-test.true c.factor-item.is e fault

pub term_signature-loop-factor-preserved : goal.term_signature-loop-factor-preserved
term_signature-loop-factor-preserved t c =
    let ok : factor_signature c.args.quiver.now c.factor-item.result ≡ Ok c.in_ok-next.next = search rules in
    rw c.product_step-signature.ensures (record {
      rest = product-next c.args.quiver.now c.args.term.now c.as_slice-factors.result.now c.as_slice-factors.ensures c.loop-factor.invariant.several c.loop-factor.factor-index c.loop-factor.signature c.loop-factor.invariant.rest c.factor-item.result c.loop-factor-test.true c.factor-item.is c.in_ok-next.next ok;
      in_range = objects-product_step (object_count c.args.quiver.now) c.loop-factor.signature _ c.in_ok-next.next c.loop-factor.invariant.in_range (search rules);
      several = c.loop-factor.invariant.several;
    })

pub term_signature-returns-clause-exact : goal.term_signature-returns-clause-exact
term_signature-returns-clause-exact t c =
    product-end c.args.quiver.now c.args.term.now c.as_slice-factors.result.now c.as_slice-factors.ensures c.loop-factor.invariant.several c.loop-factor.factor-index c.loop-factor.signature c.loop-factor.invariant.rest (omega (arith, c.loop-factor-test.false))
