use Rattle.cofactor_checker.proofs.Prelude.{rules, ◌≡◌, ◌+◌, ◌*ℤ◌, Err, sym, subst, ◌∙◌, to_z, of_z, IsCoefficient, product_of, first_overflow, err_whole, adding_operations, IsStoppedBy, coefficient_at}
use mir.Syntax.{w128}
use Rattle.lists.specs.declared.stop.Stop.TheVariants as stop
use Rattle.cofactor_checker.proofs.Adding.{AddsUpTo, IsNextTerm, product_fails, sum_stopped, goes_on}
use Rattle.cofactor_checker.proofs.sum.add_row.Goals as goal
use Rattle.cofactor_checker.proofs.sum.add_row.Goals.{After-term-item, After-loop-term}

-- the term is next
next : (c : After-term-item) → IsNextTerm c.args.sum.now c.loop-term.sum c.args.coefficient c.args.left.now c.args.terms.now c.args.right.now c.loop-term.term-index c.term-item.result
next c =
    let is : to_z w128 (of_z w128 c.args.coefficient) ≡ c.args.coefficient = search rules in
    let added = subst (λ z. AddsUpTo c.args.sum.now c.loop-term.sum z c.args.left.now c.args.terms.now c.args.right.now c.loop-term.term-index) is c.loop-term.invariant.added in
    record { added = added; below = c.loop-term-test.true; is = c.term-item.is }

pub returns-in_err-product-clause-exact : goal.returns-in_err-product-clause-exact
returns-in_err-product-clause-exact c =
    let k = c.args.coefficient in
    let t = c.term-item.result in
    let fails : ¬ IsCoefficient (k *ℤ t.0) = search rules in
    let first = product_fails (next (goal.at.returns-in_err-product-clause-exact c).After-term-item) fails in
    let told : c.in_err-product.field-0.0 ≡ stop.Fault (product_of k t.0) = search rules in
    err_whole c.from_residual.result _
    (λ e same. subst (IsStoppedBy (first_overflow (adding_operations (coefficient_at c.args.sum.now) k c.args.left.now c.args.terms.now c.args.right.now))) (sym (same ∙ told)) first)
    c.from_residual.ensures.1

pub returns-in_err-add_term-clause-exact : goal.returns-in_err-add_term-clause-exact
returns-in_err-add_term-clause-exact c =
    let e = c.in_err-add_term.field-0.0 in
    let back : c.from_residual-in_err-add_term.result ≡ Err e = search rules in
    let here = next (goal.at.returns-in_err-add_term-clause-exact c).After-term-item in
    rw back (sum_stopped here c.in_ok-product.product c.in_ok-word.word (search rules) (search rules) (search rules) e (search rules))

pub loop-term-preserved : goal.loop-term-preserved
loop-term-preserved c =
    let is : to_z w128 (of_z w128 c.args.coefficient) ≡ c.args.coefficient = search rules in
    let here = next (goal.at.loop-term-preserved c).After-term-item in
    let added = goes_on here c.in_ok-product.product c.in_ok-word.word (search rules) (search rules) (search rules) {new = c.add_term.new.table} c.requires.shaped.descending (search rules) (search rules) in
    record {
      kept = search rules;
      added = subst (λ z. AddsUpTo c.args.sum.now c.add_term.new.table z c.args.left.now c.args.terms.now c.args.right.now (c.loop-term.term-index + 1)) (sym is) added;
    }
