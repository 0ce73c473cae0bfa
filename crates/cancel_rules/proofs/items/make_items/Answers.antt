use Rattle.cancel_rules.proofs.Prelude.{rules, ◌≡◌, ◌+◌, ◌<◌, ◌≤◌, ◌++◌, [], ◌∷◌, All, length, IfErr, sym, ap, subst, ◌∙◌, arith, length-append, All-push, quiver_of, polynomials, term_total, HasScale, at_item, polynomials_more, total_more, item_polynomial, rows_in, ItemPasses, RefusesItems, OfLemma, IsReadableItem, IsMadeItem, IsPolyOver}
use Rattle.cofactor_checker.specs.declared.refusal.Refusal.TheVariants as common
use Rattle.cancel_rules.specs.declared.refusal.CancelRefusal.TheVariants as refusal
use Rattle.cancel_rules.proofs.Steps.{ItemsUpTo, refuse_here, goes_on, memory_here, passes_with, keeps_too_much}
use Rattle.cancel_rules.proofs.items.make_items.Goals as goal

pub returns-then-kept-gt-KEPT_LIMIT-clause-refused : goal.returns-then-kept-gt-KEPT_LIMIT-clause-refused
returns-then-kept-gt-KEPT_LIMIT-clause-refused c =
    let q = quiver_of c.args.problem.now.parts.quiver in
    let proof = c.args.proof.now in
    let gs = polynomials c.args.problem.now.generators in
    let ps = polynomials c.loop-item.polynomials in
    let x = c.item-item.result in
    let p = c.in_ok-polynomial.polynomial in
    let same : p.terms ≡ item_polynomial gs ps x = rw (← c.as_slice-before.ensures) c.in_ok-polynomial.ensures.polynomial in
    let made : IsMadeItem q proof gs ps x = rw (← c.as_slice-before.ensures) (c.in_ok-polynomial.ensures.made proof c.requires.marks) in
    let count : c.terms-kept.result ≡ length p.terms = search rules in
    let large : 1000000 < c.loop-item.kept + c.terms-kept.result = search rules in
    let kept = c.loop-item.invariant.kept in
    let long = count ∙ ap length same in
    let rows : c.rows_in-rows.result ≡ rows_in x = search rules in
    let here = refuse_here q proof gs ps c.as_slice-items.result.now c.loop-item.rows c.loop-item.item-index c.loop-item.invariant.so_far x c.loop-item-test.true c.item-item.is
    (refusal.Common (common.Kept (c.loop-item.rows + c.rows_in-rows.result)))
    (keeps_too_much q proof gs ps c.loop-item.rows x made (omega arith) (c.loop-item.rows + c.rows_in-rows.result) (ap (λ n. c.loop-item.rows + n) rows)) in
    rw (← c.as_slice-items.ensures) here

pub loop-item-preserved : goal.loop-item-preserved
loop-item-preserved c =
    let q = quiver_of c.args.problem.now.parts.quiver in
    let proof = c.args.proof.now in
    let gs = polynomials c.args.problem.now.generators in
    let before = c.loop-item.polynomials in
    let ps = polynomials before in
    let items = c.as_slice-items.result.now in
    let x = c.item-item.result in
    let p = c.in_ok-polynomial.polynomial in
    let same : p.terms ≡ item_polynomial gs ps x = rw (← c.as_slice-before.ensures) c.in_ok-polynomial.ensures.polynomial in
    let made : IsMadeItem q proof gs ps x = rw (← c.as_slice-before.ensures) (c.in_ok-polynomial.ensures.made proof c.requires.marks) in
    let count : c.terms-kept.result ≡ length p.terms = search rules in
    let small : c.loop-item.kept + c.terms-kept.result ≤ 1000000 = search rules in
    let kept = c.loop-item.invariant.kept in
    let long = count ∙ ap length same in
    let rows : c.rows_in-rows.result ≡ rows_in x = search rules in
    let pushed : c.push.new.self ≡ before ++ p ∷ [] = search rules in
    let more = ap length pushed ∙ length-append before (p ∷ []) in
    let counted = c.loop-item.invariant.made in
    let total = ap (λ b. term_total (polynomials b)) pushed ∙ ap term_total (polynomials_more before p) ∙ total_more ps p.terms in
    let passes : ItemPasses q proof gs ps x = passes_with q proof gs ps x made (omega arith) in
    let next = goes_on q proof gs ps items c.loop-item.rows c.loop-item.item-index c.loop-item.invariant.so_far x c.loop-item-test.true c.item-item.is passes in
    let list : ps ++ item_polynomial gs ps x ∷ [] ≡ polynomials c.push.new.self = sym (ap polynomials pushed ∙ polynomials_more before p ∙ ap (λ b. ps ++ b ∷ []) same) in
    record {
      made = omega arith;
      kept = omega arith;
      few = small;
      letters = subst (All (IsPolyOver c.args.problem.now.parts.quiver)) (sym pushed) (All-push (IsPolyOver c.args.problem.now.parts.quiver) before p c.loop-item.invariant.letters c.in_ok-polynomial.ensures.letters);
      so_far = rw (rows, ← list) next;
    }

pub make_item-requires-clause-scale : goal.make_item-requires-clause-scale
make_item-requires-clause-scale c =
    at_item (OfLemma HasScale) c.as_slice-items.result.now c.loop-item.item-index c.item-item.result c.loop-item-test.true c.item-item.is (subst (All (OfLemma HasScale)) (sym c.as_slice-items.ensures) c.requires.scales.items)

pub make_item-requires-clause-readable : goal.make_item-requires-clause-readable
make_item-requires-clause-readable c =
    let ds = c.args.problem.now.parts.quiver in
    at_item (IsReadableItem ds) c.as_slice-items.result.now c.loop-item.item-index c.item-item.result c.loop-item-test.true c.item-item.is (subst (All (IsReadableItem ds)) (sym c.as_slice-items.ensures) c.requires.readable.items)

pub returns-in_err-push-clause-refused : goal.returns-in_err-push-clause-refused
returns-in_err-push-clause-refused c =
    let here = memory_here (quiver_of c.args.problem.now.parts.quiver) c.args.proof.now (polynomials c.args.problem.now.generators) (polynomials c.loop-item.polynomials) c.as_slice-items.result.now c.loop-item.rows c.loop-item.item-index
    c.loop-item.invariant.so_far c.item-item.result c.loop-item-test.true c.item-item.is c.from_residual-in_err-push.result c.from_residual-in_err-push.ensures.1 in
    subst (λ items. IfErr c.from_residual-in_err-push.result (λ e. RefusesItems (quiver_of c.args.problem.now.parts.quiver) c.args.proof.now (polynomials c.args.problem.now.generators) [] 0 items e)) c.as_slice-items.ensures here
