use Rattle.traced_completion.proofs.Prelude.{◌≡◌, ◌≤◌, ◌++◌, ℕ, List, length, take, drop, sym, ap, subst, ◌∙◌, All, AllPairs, IsPermutation, IsOver, Waiting, IsUpTo, joined}
use Rattle.traced_completion.proofs.BlockLemmas.{all-blocks, rest-behind}
use Rattle.traced_completion.proofs.pending.blocks.renew.Goals as goal

pub put_behind-requires-clause-over : goal.put_behind-requires-clause-over
put_behind-requires-clause-over g c =
    let Over : Waiting → Type 0 = λ w. IsOver (g.O.WordOrder.letters c.args.order.now) w.word in
    all-blocks Over c.cut.new.blocks.items (subst (All Over) (sym (c.cut.ensures.same ∙ c.halve.ensures.same)) c.requires.over)

pub returns-clause-moved : goal.returns-clause-moved
returns-clause-moved g c =
    let old : List Waiting = joined c.args.blocks.now.items in
    let blocks : List (List Waiting) = c.cut.new.blocks.items in
    let others : List Waiting = c.args.others.items in
    let taken : ℕ = c.args.taken in
    let front : ℕ = c.in_ok-front.front in
    let same : joined blocks ≡ old = c.cut.ensures.same ∙ c.halve.ensures.same in
    let enough : taken ≤ length (joined blocks) = subst (λ xs. taken ≤ length xs) (sym same) c.requires.taken in
    let is : joined (take front blocks) ≡ take taken (joined blocks) = c.in_ok-front.ensures.front ∙ ap (take taken) (sym c.cut.ensures.same) in
    let behind : joined (drop front blocks) ≡ drop taken old = rest-behind blocks front taken enough is ∙ ap (drop taken) same in
    let dropped : joined c.drop_blocks.new.blocks.items ≡ joined (drop front c.put_behind.new.blocks.items) = ap joined c.drop_blocks.ensures in
    subst (λ xs. IsPermutation (xs ++ others) (joined c.drop_blocks.new.blocks.items)) behind
    (subst (IsPermutation (joined (drop front blocks) ++ others)) (sym dropped) c.in_ok-put_behind.ensures.moved)

pub returns-clause-sorted : goal.returns-clause-sorted
returns-clause-sorted g c pairs =
    let Below : Waiting → Waiting → Type 0 = IsUpTo (g.O.WordOrder.compare c.args.order.now) in
    let old : List Waiting = joined c.args.blocks.now.items in
    let blocks : List (List Waiting) = c.cut.new.blocks.items in
    let taken : ℕ = c.args.taken in
    let front : ℕ = c.in_ok-front.front in
    let same : joined blocks ≡ old = c.cut.ensures.same ∙ c.halve.ensures.same in
    let enough : taken ≤ length (joined blocks) = subst (λ xs. taken ≤ length xs) (sym same) c.requires.taken in
    let is : joined (take front blocks) ≡ take taken (joined blocks) = c.in_ok-front.ensures.front ∙ ap (take taken) (sym c.cut.ensures.same) in
    let behind : joined (drop front blocks) ≡ drop taken old = rest-behind blocks front taken enough is ∙ ap (drop taken) same in
    let dropped : joined c.drop_blocks.new.blocks.items ≡ joined (drop front c.put_behind.new.blocks.items) = ap joined c.drop_blocks.ensures in
    subst (AllPairs Below) (sym dropped) (c.in_ok-put_behind.ensures.sorted (subst (AllPairs Below) (sym behind) pairs))
