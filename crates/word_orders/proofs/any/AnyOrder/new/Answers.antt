use Rattle.word_orders.proofs.Prelude.{◌≡◌, ap, ◌∙◌, rules, is_listed, weight_of, weight_cmp, block_cmp, asked_cmp, is_in, weight_in}
use Rattle.word_orders.proofs.any.AnyOrder.new.Goals as goal

-- the letters weigh the same
pub returns-in_ok-order-in-Weight-clause-order : goal.returns-in_ok-order-in-Weight-clause-order
returns-in_ok-order-in-Weight-clause-order c = λ u v.
    let order = c.in_ok-order-in-Weight.order in
    let same : weight_in order ≡ weight_of c.as_slice.result.now = λ i letter. c.in_ok-order-in-Weight.ensures.weights letter i in
    let asked : weight_cmp (weight_of c.as_slice.result.now) u v ≡ asked_cmp c.args.spec.now u v = search rules in
    ap (λ weight. weight_cmp weight u v) same ∙ asked

-- the same letters are in the block
pub returns-in_ok-order-in-Block-clause-order : goal.returns-in_ok-order-in-Block-clause-order
returns-in_ok-order-in-Block-clause-order c = λ u v.
    let order = c.in_ok-order-in-Block.order in
    let same : is_in order ≡ is_listed c.as_slice-in-Block.result.now = λ i letter. c.in_ok-order-in-Block.ensures.block letter i in
    let asked : block_cmp (is_listed c.as_slice-in-Block.result.now) u v ≡ asked_cmp c.args.spec.now u v = search rules in
    ap (λ listed. block_cmp listed u v) same ∙ asked
