use Rattle.traced_completion.proofs.Prelude.{rules, ◌≡◌, ℕ, List, [], ◌∷◌, ◌++◌, length, drop, refl, sym, ap, subst, ◌∙◌, arith, All, IsPermutation, vec_len, into_iter_items, append_assoc, append-nil, All-head, All-tail, IsPermutation-refl, IsOver, Waiting, IsPut, joined, restored, taken_out}
use Rattle.traced_completion.proofs.BlockLemmas.{restored-more, put-taken_out, filled-more}
use Rattle.traced_completion.proofs.pending.blocks.put_all.Goals as goal

pub loop-waiting-init : goal.loop-waiting-init
loop-waiting-init g c =
    let letters = g.O.WordOrder.letters c.args.order.now in
    let blocks : List (List Waiting) = c.args.blocks.now.items in
    let given : into_iter_items c.into_iter-waiting-iterator.result ≡ c.args.items.items = c.into_iter-waiting-iterator.ensures.into_iter_gives.0 in
    let count : vec_len c.args.items ≡ length c.args.items.items = search rules in
    let none = joined (drop c.args.from blocks) in
    record {
      passed = [];
      all = sym given;
      left = search rules;
      filled = record {
        front = refl;
        count = refl;
        moved = subst (λ xs. IsPermutation xs none) (sym (append-nil none)) (IsPermutation-refl none);
        sorted = λ pairs. pairs;
        nonempty = c.requires.nonempty;
        over = c.requires.over;
      };
      back = ap (λ ps. restored ps blocks) c.in_ok-places.ensures.items;
      over = subst (All (λ (w : Waiting). IsOver letters w.word)) (sym given) c.requires.items_over;
      room = omega (arith, c.in_ok-places.ensures.len, c.in_ok-places.ensures.exact, c.len.ensures, count, ap length given);
    }

pub loop-waiting-preserved : goal.loop-waiting-preserved
loop-waiting-preserved g c =
    let order = c.args.order.now in
    let compare = g.O.WordOrder.compare order in
    let letters = g.O.WordOrder.letters order in
    let total = (g.met.O.WordOrder.admissible order).total in
    let Over : Waiting → Type 0 = λ w. IsOver letters w.word in
    let kept = c.loop-waiting.invariant in
    let w : Waiting = c.in-Some.waiting in
    let rest : List Waiting = into_iter_items c.next.new.self in
    let next : into_iter_items c.loop-waiting.waiting-iterator ≡ w ∷ rest = c.in-Some.ensures.steps.0 in
    let over : All Over (w ∷ rest) = subst (All Over) next kept.over in
    let mid : List (List Waiting) = c.loop-waiting.blocks.items in
    let new : List (List Waiting) = c.put.new.blocks.items in
    let place : ℕ × ℕ = c.in-Ok.place in
    let put : IsPut compare c.args.from w mid new place = c.in-Ok.ensures.ok in
    record {
      passed = kept.passed ++ w ∷ [];
      all = kept.all ∙ ap (λ xs. kept.passed ++ xs) next ∙ sym (append_assoc kept.passed (w ∷ []) rest);
      left = search rules;
      filled = filled-more compare total letters c.args.from w mid new place put kept.filled.nonempty kept.passed c.args.blocks.now.items kept.filled (All-head Over w rest over);
      back = ap (λ ps. restored ps new) c.push_reserved.ensures.items ∙ restored-more c.loop-waiting.places.items place new
          ∙ ap (restored c.loop-waiting.places.items) (ap (taken_out place) put.is ∙ put-taken_out place w mid put.number put.place) ∙ kept.back;
      over = All-tail Over w rest over;
      room = omega (arith, kept.room, ap length next, c.push_reserved.ensures.len, c.push_reserved.ensures.capacity);
    }
