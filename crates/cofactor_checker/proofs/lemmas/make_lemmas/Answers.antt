use Rattle.cofactor_checker.proofs.Prelude.{rules, ◌≡◌, ◌+◌, ◌<◌, ◌≤◌, ◌++◌, [], ◌∷◌, length, sym, ap, ◌∙◌, arith, length-append, polynomials, lemma_polynomial, term_total, IsMade, LemmaPasses}
use Rattle.cofactor_checker.specs.declared.refusal.Refusal.TheVariants as refusal
use Rattle.cofactor_checker.proofs.LemmaSteps.{refuse_here, goes_on, polynomials_more, total_more}
use Rattle.cofactor_checker.proofs.lemmas.make_lemmas.Goals as goal

pub returns-then-kept-gt-KEPT_LIMIT-clause-refused : goal.returns-then-kept-gt-KEPT_LIMIT-clause-refused
returns-then-kept-gt-KEPT_LIMIT-clause-refused c =
    let gs = polynomials c.args.generators.now in
    let ps = polynomials c.loop-lemma.polynomials in
    let l = c.lemma-item.result in
    let p = c.in_ok-polynomial.polynomial in
    let same : p.terms ≡ lemma_polynomial gs ps l = search rules in
    let made : IsMade gs ps l = rw (← c.as_slice-made.ensures) c.in_ok-polynomial.ensures.made in
    let rows : c.len.result ≡ length l.rows = search rules in
    let count : c.terms-kept.result ≡ length p.terms = search rules in
    let large : 1000000 < c.loop-lemma.kept + c.terms-kept.result = search rules in
    let kept = c.loop-lemma.invariant.kept in
    let long = count ∙ ap length same in
    refuse_here gs ps c.args.lemmas.now c.loop-lemma.rows c.loop-lemma.lemma-index c.loop-lemma.invariant.so_far l c.loop-lemma-test.true c.lemma-item.is
    (refusal.Kept (c.loop-lemma.rows + c.len.result)) (record { last_row = ap (λ n. c.loop-lemma.rows + n) rows; made = made; kept = omega arith })

pub loop-lemma-preserved : goal.loop-lemma-preserved
loop-lemma-preserved c =
    let gs = polynomials c.args.generators.now in
    let before = c.loop-lemma.polynomials in
    let ps = polynomials before in
    let l = c.lemma-item.result in
    let p = c.in_ok-polynomial.polynomial in
    let same : p.terms ≡ lemma_polynomial gs ps l = search rules in
    let made : IsMade gs ps l = rw (← c.as_slice-made.ensures) c.in_ok-polynomial.ensures.made in
    let rows : c.len.result ≡ length l.rows = search rules in
    let count : c.terms-kept.result ≡ length p.terms = search rules in
    let small : c.loop-lemma.kept + c.terms-kept.result ≤ 1000000 = search rules in
    let kept = c.loop-lemma.invariant.kept in
    let long = count ∙ ap length same in
    let pushed : c.push.new.self ≡ before ++ p ∷ [] = search rules in
    let more = ap length pushed ∙ length-append before (p ∷ []) in
    let counted = c.loop-lemma.invariant.made in
    let total = ap (λ q. term_total (polynomials q)) pushed ∙ ap term_total (polynomials_more before p) ∙ total_more ps p.terms in
    let passes : LemmaPasses gs ps l = record { made = made; kept = omega arith } in
    let next = goes_on gs ps c.args.lemmas.now c.loop-lemma.rows c.loop-lemma.lemma-index c.loop-lemma.invariant.so_far l c.loop-lemma-test.true c.lemma-item.is passes in
    let list : ps ++ lemma_polynomial gs ps l ∷ [] ≡ polynomials c.push.new.self = sym (ap polynomials pushed ∙ polynomials_more before p ∙ ap (λ q. ps ++ q ∷ []) same) in
    record {
      numbered = omega arith;
      made = omega arith;
      kept = omega arith;
      few = small;
      so_far = rw (rows, ← list) next;
    }
