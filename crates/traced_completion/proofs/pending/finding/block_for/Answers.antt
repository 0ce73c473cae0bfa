use Rattle.traced_completion.proofs.Prelude.{◌≡◌, ℕ, ◌+◌, ◌-◌, ◌<◌, List, [], length, get_or, false, sym, ◌∙◌, subst, arith, is_lt, Less, get_or_default, Waiting, waiting_cmp, IsUpTo, last_of}
use Rattle.traced_completion.proofs.pending.finding.block_for.Goals as goal

pub loop-low-preserved : goal.loop-low-preserved
loop-low-preserved g c =
    let kept = c.loop-low.invariant in
    let compare = g.O.WordOrder.compare c.args.order.now in
    let blocks : List (List Waiting) = c.args.blocks.now in
    let waiting : Waiting = c.args.waiting.now in
    let middle : ℕ = c.loop-low.low + c.min.result in
    let below : middle < c.loop-low.high = omega (arith, c.loop-low-test.true, c.min.ensures) in
    let inside : middle < length blocks = omega (arith, below, kept.within) in
    let same : middle ≡ middle + 1 - 1 = omega arith in
    let block : c.index-blocks-middle.result ≡ get_or blocks middle [] = c.index-blocks-middle.is ∙ get_or_default blocks middle c.index-blocks-middle.result [] inside in
    let here : (d : Waiting) → is_lt (waiting_cmp compare waiting (last_of c.index-blocks-middle.result d)) ≡ false = λ d. sym (c.is_last_above.ensures d) ∙ c.if-is_last_above.false in
    record {
      started = omega (arith, kept.started);
      ordered = omega (arith, below);
      within = kept.within;
      before = λ d _. subst (λ n. IsUpTo compare (last_of (get_or blocks n []) d) waiting) same (subst (λ (b : List Waiting). IsUpTo compare (last_of b d) waiting) block (here d));
      above = kept.above;
    }

pub returns-clause-above : goal.returns-clause-above
returns-clause-above g c d below =
    let kept = c.loop-low.invariant in
    let same : c.loop-low.high ≡ c.loop-low.low = omega (arith, kept.ordered, c.loop-low-test.false) in
    subst (λ n. waiting_cmp (g.O.WordOrder.compare c.args.order.now) c.args.waiting.now (last_of (get_or c.args.blocks.now n []) d) ≡ Less) same (kept.above d (omega (arith, same, below)))
