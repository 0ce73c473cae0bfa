use Rattle.traced_completion.proofs.Prelude.{◌≡◌, ℕ, ◌+◌, ◌-◌, ◌<◌, ◌/◌, length, get_or, false, sym, ap, ◌∙◌, subst, arith, is_lt, Less, get_or_default, Waiting, waiting_cmp, IsUpTo}
use Rattle.traced_completion.proofs.pending.finding.first_above.Goals as goal

pub loop-low-preserved : goal.loop-low-preserved
loop-low-preserved g c =
    let kept = c.loop-low.invariant in
    let compare = g.O.WordOrder.compare c.args.order.now in
    let items = c.args.items.now in
    let waiting : Waiting = c.args.waiting.now in
    let half : ℕ = c.loop-low.low + (c.loop-low.high - c.loop-low.low) / 2 in
    let below : half < c.loop-low.high = omega (arith, c.loop-low-test.true) in
    let inside : half < length items = omega (arith, below, kept.within) in
    let same : half ≡ half + 1 - 1 = omega arith in
    let item : (d : Waiting) → c.index-items-middle.result ≡ get_or items half d = λ d. c.index-items-middle.is ∙ get_or_default items half c.index-items-middle.result d inside in
    let here : is_lt (waiting_cmp compare waiting c.index-items-middle.result) ≡ false = sym (c.is_lt.ensures ∙ ap is_lt c.compare_waiting.ensures) ∙ c.if-is_lt.false in
    record {
      ordered = omega (arith, below);
      within = kept.within;
      before = λ d _. subst (λ n. IsUpTo compare (get_or items n d) waiting) same (subst (λ (x : Waiting). IsUpTo compare x waiting) (item d) here);
      above = kept.above;
    }

pub returns-clause-above : goal.returns-clause-above
returns-clause-above g c d below =
    let kept = c.loop-low.invariant in
    let same : c.loop-low.high ≡ c.loop-low.low = omega (arith, kept.ordered, c.loop-low-test.false) in
    subst (λ n. waiting_cmp (g.O.WordOrder.compare c.args.order.now) c.args.waiting.now (get_or c.args.items.now n d) ≡ Less) same (kept.above d (omega (arith, same, below)))
