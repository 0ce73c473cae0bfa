use Rattle.traced_completion.proofs.Prelude.{rules, ◌≡◌, ◌≤◌, ◌++◌, ◌∷◌, [], List, length, drop, sym, ap, subst, ◌∙◌, AllPairs, IsPermutation, IsPermutation-refl, Waiting, IsUpTo, joined}
use Rattle.traced_completion.proofs.BlockLemmas.{pushed-behind, nothing-behind}
use Rattle.traced_completion.proofs.pending.blocks.put_behind.Goals as goal

pub returns-clause-moved : goal.returns-clause-moved
returns-clause-moved g c =
    let blocks : List (List Waiting) = c.args.blocks.now.items in
    let others : List Waiting = c.args.others.items in
    let from = c.args.from in
    let past : length blocks ≤ from = search rules in
    let pushed : c.push.new.self.items ≡ blocks ++ others ∷ [] = c.in_ok-push.ensures.items ∙ ap (λ (b : List Waiting). blocks ++ b ∷ []) c.new.ensures in
    let behind : joined (drop from c.push.new.self.items) ≡ others = ap (λ (bs : List (List Waiting)). joined (drop from bs)) pushed ∙ pushed-behind blocks from others c.requires.from past in
    subst (IsPermutation (joined (drop from blocks) ++ others)) (sym behind)
    (subst (λ xs. IsPermutation (xs ++ others) others) (sym (nothing-behind blocks from past)) (IsPermutation-refl others))

pub returns-clause-sorted : goal.returns-clause-sorted
returns-clause-sorted g c pairs =
    let blocks : List (List Waiting) = c.args.blocks.now.items in
    let others : List Waiting = c.args.others.items in
    let from = c.args.from in
    let past : length blocks ≤ from = search rules in
    let pushed : c.push.new.self.items ≡ blocks ++ others ∷ [] = c.in_ok-push.ensures.items ∙ ap (λ (b : List Waiting). blocks ++ b ∷ []) c.new.ensures in
    let behind : joined (drop from c.push.new.self.items) ≡ others = ap (λ (bs : List (List Waiting)). joined (drop from bs)) pushed ∙ pushed-behind blocks from others c.requires.from past in
    subst (AllPairs (IsUpTo (g.O.WordOrder.compare c.args.order.now))) (sym behind) c.requires.others_sorted
