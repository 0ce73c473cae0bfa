use Rattle.model_candidates.proofs.Prelude.{get_or, subst, sym, ◌∙◌, arith, FitsTerm}
use Rattle.model_candidates.proofs.FactorRows.{line_added}
use Rattle.model_candidates.proofs.factor_rows.add_products.Goals as goal

pub add_line-requires-clause-term : goal.add_line-requires-clause-term
add_line-requires-clause-term c =
    subst (λ n. FitsTerm c.args.modulus n c.args.term.now) (sym c.loop-inner.invariant.size) c.requires.term

pub loop-inner-preserved : goal.loop-inner-preserved
loop-inner-preserved c =
    let m = c.args.modulus in
    let now = c.loop-inner.invariant in
    let t = c.args.term.now in
    let old = c.loop-inner.factors in
    let new = c.add_line.new.factors in
    record {
      size = c.add_line.ensures.len ∙ now.size;
      below = c.add_line.ensures.below;
      each = λ k inside. line_added m t c.args.row c.args.column k c.loop-inner.inner (get_or old k 0) (get_or new k 0) (get_or c.args.factors.now k 0)
          (now.each k inside) (c.add_line.ensures.each k (omega (arith, inside, now.size)));
    }
