use Rattle.traced_completion.proofs.Prelude.{rules, ◌≡◌, ◌<◌, ◌≤◌, ◌+◌, ◌-◌, ℕ, List, [], length, set, get_or, ap, subst, ◌∙◌, insert, Less, Waiting, get_or_default, waiting_cmp, IsUpTo, last_of}
use Rattle.traced_completion.proofs.pending.blocks.put.Goals as goal

pub returns-clause-ok : goal.returns-clause-ok
returns-clause-ok g c =
    let blocks : List (List Waiting) = c.args.blocks.now.items in
    let number : ℕ = c.block_for-number.result in
    let place : ℕ = c.first_above-place.result in
    let read : c.as_slice.result.now ≡ blocks = search rules in
    let found = c.block_for-number.ensures in
    let inside : number < length blocks = subst (λ (bs : List (List Waiting)). number < length bs) read found.within in
    let block : c.as_slice-2.result.now ≡ get_or blocks number [] = c.as_slice-2.ensures ∙ c.index.ensures ∙ get_or_default blocks number c.index.result.now [] inside in
    let changed : c.index_mut.result.now ≡ get_or blocks number [] = c.index_mut.ensures.value ∙ get_or_default blocks number c.index_mut.result.now [] inside in
    let spot = c.first_above-place.ensures in
    let compare = g.O.WordOrder.compare c.args.order.now in
    let w : Waiting = c.args.waiting in
    record {
      reached = found.reached;
      number = inside;
      place = subst (λ (b : List Waiting). place ≤ length b) block spot.within;
      is = ap (set blocks number) (c.in_ok-insert.ensures.ok ∙ ap (λ (b : List Waiting). insert b place w) changed);
      block_before = subst (λ (bs : List (List Waiting)). (d : Waiting) → c.args.from < number → IsUpTo compare (last_of (get_or bs (number - 1) []) d) w) read found.before;
      block_above = subst (λ (bs : List (List Waiting)). (d : Waiting) → number + 1 < length bs → waiting_cmp compare w (last_of (get_or bs number []) d) ≡ Less) read found.above;
      before = subst (λ (b : List Waiting). (d : Waiting) → 0 < place → IsUpTo compare (get_or b (place - 1) d) w) block spot.before;
      above = subst (λ (b : List Waiting). (d : Waiting) → place < length b → waiting_cmp compare w (get_or b place d) ≡ Less) block spot.above;
    }
