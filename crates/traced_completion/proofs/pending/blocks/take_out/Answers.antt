use Rattle.traced_completion.proofs.Prelude.{rules, ◌≡◌, ◌≤◌, ◌<◌, ℕ, List, [], ◌∷◌, ◌++◌, length, set, get_or, sym, ap, ◌∙◌, remove, get_or_default, set_past, Waiting, restored}
use Rattle.traced_completion.proofs.BlockLemmas.{restored-more}
use Rattle.traced_completion.proofs.pending.blocks.take_out.Goals as goal

pub loop-number-preserved-then-number-len : goal.loop-number-preserved-then-number-len
loop-number-preserved-then-number-len c =
    let blocks : List (List Waiting) = c.loop-number.blocks.items in
    let number : ℕ = c.in-Some.number in
    let place : ℕ = c.in-Some.place in
    let rest : List (ℕ × ℕ) = c.pop.new.self.items in
    let popped : c.loop-number.places.items ≡ rest ++ (number, place) ∷ [] = search rules in
    let inside : number < length blocks = search rules in
    let changed : c.index_mut.result.now ≡ get_or blocks number [] = c.index_mut.ensures.value ∙ get_or_default blocks number c.index_mut.result.now [] inside in
    record {
      left = ap (λ (b : List Waiting). restored rest (set blocks number b)) (c.remove.ensures ∙ ap (λ (b : List Waiting). remove b place) changed)
          ∙ sym (restored-more rest (number, place) blocks) ∙ ap (λ ps. restored ps blocks) (sym popped) ∙ c.loop-number.invariant.left;
    }

pub loop-number-preserved : goal.loop-number-preserved
loop-number-preserved c =
    let blocks : List (List Waiting) = c.loop-number.blocks.items in
    let number : ℕ = c.in-Some.number in
    let place : ℕ = c.in-Some.place in
    let rest : List (ℕ × ℕ) = c.pop.new.self.items in
    let popped : c.loop-number.places.items ≡ rest ++ (number, place) ∷ [] = search rules in
    let past : length blocks ≤ number = search rules in
    record {
      left = ap (restored rest) (sym (set_past blocks number (remove (get_or blocks number []) place) past))
          ∙ sym (restored-more rest (number, place) blocks) ∙ ap (λ ps. restored ps blocks) (sym popped) ∙ c.loop-number.invariant.left;
    }
