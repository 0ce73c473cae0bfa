use Rattle.traced_completion.proofs.Prelude.{◌≡◌, ◌-◌, ◌/◌, ◌<◌, ◌≤◌, ℕ, List, [], length, get_or, sym, ap, subst, ◌∙◌, arith, All, get_or_default, Waiting, joined}
use Rattle.traced_completion.proofs.BlockLemmas.{joined-split, nonempty-split, split-long}
use Rattle.traced_completion.proofs.pending.blocks.halve.Goals as goal

pub loop-number-preserved-in-Continue-1 : goal.loop-number-preserved-in-Continue-1
loop-number-preserved-in-Continue-1 c =
    let kept = c.loop-number.invariant in
    let blocks : List (List Waiting) = c.loop-number.blocks.items in
    let number : ℕ = c.loop-number.number - 1 in
    let half : ℕ = c.len-half.result / 2 in
    let inside : number < length blocks = omega (arith, kept.within, c.loop-number-test.true) in
    let block : c.index.result.now ≡ get_or blocks number [] = c.index.ensures ∙ get_or_default blocks number c.index.result.now [] inside in
    let size : c.len-half.result ≡ length (get_or blocks number []) = c.len-half.ensures ∙ ap length block in
    let some : 0 < half = omega (arith, c.if-half-limit.true) in
    let less : half < length (get_or blocks number []) = omega (arith, size, some) in
    let ok = c.in_ok-split.ensures.ok in
    record {
      within = subst (λ (bs : List (List Waiting)). number ≤ length bs) (sym ok) (split-long blocks number half inside);
      same = ap joined ok ∙ joined-split blocks number half inside ∙ kept.same;
      nonempty = subst (All (λ (b : List Waiting). 0 < length b)) (sym ok) (nonempty-split blocks number half inside some less kept.nonempty);
    }
