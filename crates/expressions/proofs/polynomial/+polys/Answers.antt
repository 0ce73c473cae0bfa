use Rattle.expressions.proofs.Prelude.{◌≡◌, [], Ok, Err, rules, arith, the_lemmas, Explains, term_poly, factor_poly, primary_poly, product_poly, total, names_of_the_term, names_of_the_factor}
use Rattle.expressions.proofs.Range.{in_range-primary}
use Rattle.expressions.proofs.Totals.{so_far-next}
use Rattle.expressions.proofs.PolynomialLoops.{summands_of, polys_of, sum-end, sum-fault, sum-next, alone-fault, alone-end, product-end, product-end_fault, product-fault, product-next}
use Rattle.expressions.proofs.polynomial.+polys.Goals as goal

-- a factor
pub factor_poly-with_marks-requires : goal.factor_poly-with_marks-requires
factor_poly-with_marks-requires t c =
    let ok : primary_poly c.args.quiver.now c.args.factor.now.primary ≡ Ok c.in_ok-poly.poly.terms = search rules in
    record {
      declared = c.requires.declared;
      letters = in_range-primary c.args.quiver.now c.requires.declared c.args.factor.now.primary c.in_ok-poly.poly.terms c.requires.names ok;
    }

-- a sum
pub sum_poly-term_poly-requires : goal.sum_poly-term_poly-requires
sum_poly-term_poly-requires t c = (
  search (rules, the_lemmas),
  (c.requires.declared, names_of_the_term c.args.quiver.now c.args.sum.now c.as_slice-term-items.result.now c.loop-term.term-index c.term-item.result c.requires.names c.as_slice-term-items.ensures c.loop-term-test.true c.term-item.is),
)

pub sum_poly-returns-in_err-poly : goal.sum_poly-returns-in_err-poly
sum_poly-returns-in_err-poly t c =
    let e = c.in_err-poly.field-0.0 in
    let given : c.from_residual-in_err-poly.result ≡ Err e = search rules in
    let why : Explains (term_poly c.args.quiver.now c.term-item.result) e = search rules in
    rw given (sum-fault c.args.quiver.now c.args.sum.now c.as_slice-term-items.result.now c.as_slice-term-items.ensures c.loop-term.term-index c.loop-term.summands.items c.loop-term.invariant c.term-item.result c.loop-term-test.true c.term-item.is e why)

pub sum_poly-loop-term-preserved : goal.sum_poly-loop-term-preserved
sum_poly-loop-term-preserved t c =
    let ok : term_poly c.args.quiver.now c.term-item.result ≡ Ok c.in_ok-poly.poly.terms = search rules in
    sum-next c.args.quiver.now c.args.sum.now c.as_slice-term-items.result.now c.as_slice-term-items.ensures c.loop-term.term-index c.loop-term.summands.items c.loop-term.invariant c.term-item.result c.loop-term-test.true c.term-item.is c.in_ok-poly.poly ok c.push.new.self.items (search rules)

pub sum_poly-returns : goal.sum_poly-returns
sum_poly-returns t c =
    sum-end c.args.quiver.now c.args.sum.now c.as_slice-term-items.result.now c.as_slice-term-items.ensures c.loop-term.term-index c.loop-term.summands.items c.loop-term.invariant c.loop-term-test.false c.merged_total.result c.merged_total.ensures

-- a sum of many terms
pub running_total-term_poly-requires : goal.running_total-term_poly-requires
running_total-term_poly-requires t c = (
  search (rules, the_lemmas),
  (c.requires.declared, names_of_the_term c.args.quiver.now c.args.sum.now c.as_slice-term-items.result.now c.loop-term.term-index c.term-item.result c.requires.names c.as_slice-term-items.ensures c.loop-term-test.true c.term-item.is),
)

pub running_total-loop-term-init : goal.running_total-loop-term-init
running_total-loop-term-init t c = record { made = []; before = search rules; comes = search rules; canonical = search rules }

pub running_total-returns-in_err-poly : goal.running_total-returns-in_err-poly
running_total-returns-in_err-poly t c =
    let e = c.in_err-poly.field-0.0 in
    let given : c.from_residual.result ≡ Err e = search rules in
    let why : Explains (term_poly c.args.quiver.now c.term-item.result) e = search rules in
    let so_far = c.loop-term.invariant in
    rw given (sum-fault c.args.quiver.now c.args.sum.now c.as_slice-term-items.result.now c.as_slice-term-items.ensures c.loop-term.term-index so_far.made so_far.before c.term-item.result c.loop-term-test.true c.term-item.is e why)

pub running_total-loop-term-preserved : goal.running_total-loop-term-preserved
running_total-loop-term-preserved t c =
    let ok : term_poly c.args.quiver.now c.term-item.result ≡ Ok c.in_ok-poly.poly.terms = search rules in
    so_far-next c.args.quiver.now c.args.sum.now c.as_slice-term-items.result.now c.as_slice-term-items.ensures c.loop-term.term-index c.loop-term.so_far c.loop-term.invariant c.term-item.result c.loop-term-test.true c.term-item.is c.in_ok-poly.poly ok c.with_summand-so_far.result c.with_summand-so_far.ensures.added c.with_summand-so_far.ensures.stays c.with_summand-so_far.ensures.canonical

pub running_total-returns-in_err-so_far : goal.running_total-returns-in_err-so_far
running_total-returns-in_err-so_far t c =
    let e = c.in_err-so_far.field-0.0 in
    let given : c.from_residual-in_err-so_far.result ≡ Err e = search rules in
    let so_far = c.loop-term.invariant in
    let why : Explains (total (summands_of so_far.made)) e = search rules in
    rw given (sum-end c.args.quiver.now c.args.sum.now c.as_slice-term-items.result.now c.as_slice-term-items.ensures c.loop-term.term-index so_far.made so_far.before c.loop-term-test.false (Err e) why)

pub running_total-returns : goal.running_total-returns
running_total-returns t c =
    let so_far = c.loop-term.invariant in
    let made : total (summands_of so_far.made) ≡ Ok c.in_ok-into_poly.field-0.terms = search rules in
    sum-end c.args.quiver.now c.args.sum.now c.as_slice-term-items.result.now c.as_slice-term-items.ensures c.loop-term.term-index so_far.made so_far.before c.loop-term-test.false (Ok c.in_ok-into_poly.field-0) made

-- a factor alone
pub term_poly-factor_poly-requires : goal.term_poly-factor_poly-requires
term_poly-factor_poly-requires t c = (
  search (rules, the_lemmas),
  (c.requires.declared, names_of_the_factor c.args.quiver.now c.args.term.now c.as_slice-factors.result.now 0 c.factor-item.result c.requires.names c.as_slice-factors.ensures c.in-len1.len_at_least c.factor-item.is),
)

pub term_poly-returns-in_err-poly : goal.term_poly-returns-in_err-poly
term_poly-returns-in_err-poly t c =
    let e = c.in_err-poly.field-0.0 in
    let given : c.from_residual.result ≡ Err e = search rules in
    let why : Explains (factor_poly c.args.quiver.now c.factor-item.result) e = search rules in
    rw given (alone-fault c.args.quiver.now c.args.term.now c.as_slice-factors.result.now c.as_slice-factors.ensures (omega arith) c.factor-item.result c.factor-item.is e why)

pub term_poly-returns-in-len1 : goal.term_poly-returns-in-len1
term_poly-returns-in-len1 t c =
    let ok : factor_poly c.args.quiver.now c.factor-item.result ≡ Ok c.in_ok-poly.poly.terms = search rules in
    alone-end c.args.quiver.now c.args.term.now c.as_slice-factors.result.now c.as_slice-factors.ensures (omega arith) c.factor-item.result c.factor-item.is c.in_ok-poly.poly ok c.scaled_by.result c.scaled_by.ensures

-- a product
pub term_poly-factor_poly-requires-in-loop-factor : goal.term_poly-factor_poly-requires-in-loop-factor
term_poly-factor_poly-requires-in-loop-factor t c = (
  search (rules, the_lemmas),
  (c.requires.declared, names_of_the_factor c.args.quiver.now c.args.term.now c.as_slice-factors.result.now c.loop-factor.factor-index c.factor-item-in-loop-factor.result c.requires.names c.as_slice-factors.ensures c.loop-factor-test.true c.factor-item-in-loop-factor.is),
)

pub term_poly-returns-in_err-factor_poly : goal.term_poly-returns-in_err-factor_poly
term_poly-returns-in_err-factor_poly t c =
    let e = c.in_err-factor_poly.field-0.0 in
    let given : c.from_residual-in_err-factor_poly.result ≡ Err e = search rules in
    let why : Explains (factor_poly c.args.quiver.now c.factor-item-in-loop-factor.result) e = search rules in
    rw given (product-fault c.args.quiver.now c.args.term.now c.as_slice-factors.result.now c.as_slice-factors.ensures c.loop-factor.factor-index c.loop-factor.polys.items c.loop-factor.invariant c.factor-item-in-loop-factor.result c.loop-factor-test.true c.factor-item-in-loop-factor.is e why)

pub term_poly-loop-factor-preserved : goal.term_poly-loop-factor-preserved
term_poly-loop-factor-preserved t c =
    let ok : factor_poly c.args.quiver.now c.factor-item-in-loop-factor.result ≡ Ok c.in_ok-factor_poly.field-0.terms = search rules in
    product-next c.args.quiver.now c.args.term.now c.as_slice-factors.result.now c.as_slice-factors.ensures c.loop-factor.factor-index c.loop-factor.polys.items c.loop-factor.invariant c.factor-item-in-loop-factor.result c.loop-factor-test.true c.factor-item-in-loop-factor.is c.in_ok-factor_poly.field-0 ok c.push.new.self.items (search rules)

pub term_poly-returns-in_err-product : goal.term_poly-returns-in_err-product
term_poly-returns-in_err-product t c =
    let e = c.in_err-product.field-0.0 in
    let given : c.from_residual-in_err-product.result ≡ Err e = search rules in
    let why : Explains (product_poly (polys_of c.loop-factor.polys.items)) e = search rules in
    rw given (product-end_fault c.args.quiver.now c.args.term.now c.as_slice-factors.result.now c.as_slice-factors.ensures c.loop-factor.factor-index c.loop-factor.polys.items c.loop-factor.invariant c.loop-factor-test.false e why)

pub term_poly-returns : goal.term_poly-returns
term_poly-returns t c =
    let ok : product_poly (polys_of c.loop-factor.polys.items) ≡ Ok c.in_ok-product.product.terms = search rules in
    product-end c.args.quiver.now c.args.term.now c.as_slice-factors.result.now c.as_slice-factors.ensures c.loop-factor.factor-index c.loop-factor.polys.items c.loop-factor.invariant c.loop-factor-test.false c.in_ok-product.product.terms ok c.scaled_by-2.result c.scaled_by-2.ensures
