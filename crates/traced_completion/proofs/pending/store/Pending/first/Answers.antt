use Rattle.traced_completion.proofs.Prelude.{◌≡◌, List, [], ◌∷◌, ◌++◌, get_or, sym, ap₂, ◌∙◌, map_more, get_or_from_slice_get, slice_get_within, Waiting}
use Rattle.traced_completion.proofs.pending.store.Pending.first.Goals as goal

pub loop-place-preserved : goal.loop-place-preserved
loop-place-preserved c =
    let all : List Waiting = c.args.self.now in
    let place = c.loop-place.place in
    let w : Waiting = c.at.result.now in
    let item : w ≡ get_or all place w = sym (get_or_from_slice_get all place w w c.at.ensures) in
    let pushed : c.push.new.self.items ≡ c.loop-place.first.items ++ w.which ∷ [] = c.in_ok-push.ensures.items in
    record {
      passed = pushed ∙ ap₂ (λ xs (y : Waiting). xs ++ y.which ∷ []) c.loop-place.invariant.passed item
          ∙ sym (map_more (λ (v : Waiting). v.which) all place w (slice_get_within all place w c.at.ensures));
    }
