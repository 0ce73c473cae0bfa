use Rattle.traced_completion.proofs.Prelude.{◌≡◌, ◌<◌, ℕ, List, [], length, get_or, refl, sym, ap, ◌∙◌, get_or_default, slice_get_read, Waiting, joined}
use Rattle.traced_completion.proofs.BlockLemmas.{found-block, found-item}
use Rattle.traced_completion.proofs.pending.blocks.at_place.Goals as goal

pub returns : goal.returns
returns c =
    let blocks : List (List Waiting) = c.args.blocks.now in
    let number : ℕ = c.filled-number.result.0 in
    let rest : ℕ = c.filled-number.result.1 in
    let item : Waiting = c.index-as_slice-rest.result in
    let found = c.filled-number.ensures in
    let inside : number < length blocks = found-block blocks number rest c.args.place found.within found.passed c.requires in
    let within : rest < length (get_or blocks number []) = found.left inside in
    let block : c.as_slice.result.now ≡ get_or blocks number [] = c.as_slice.ensures ∙ c.index-blocks-number.is ∙ get_or_default blocks number c.index-blocks-number.result [] inside in
    let read : item ≡ get_or (get_or blocks number []) rest item = c.index-as_slice-rest.is ∙ ap (λ (b : List Waiting). get_or b rest item) block in
    slice_get_read (joined blocks) (length (joined blocks)) c.args.place item refl c.requires (read ∙ sym (found-item blocks number rest c.args.place item inside within found.passed))
