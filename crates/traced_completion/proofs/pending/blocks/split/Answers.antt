use Rattle.traced_completion.proofs.Prelude.{◌≡◌, suc, ◌+◌, List, [], ◌∷◌, ◌++◌, length, take, drop, set, get_or, sym, ap, ap₂, ◌∙◌, arith, insert, append_assoc, length-append, length-take-le, set_split, take_at, drop_at, get_or_default, Waiting}
use Rattle.traced_completion.proofs.pending.blocks.split.Goals as goal

pub returns-clause-ok : goal.returns-clause-ok
returns-clause-ok c =
    let blocks : List (List Waiting) = c.args.blocks.now.items in
    let number = c.args.number in
    let block : List Waiting = get_or blocks number [] in
    let one : List Waiting = take c.args.place block in
    let other : List Waiting = drop c.args.place block in
    let front : List (List Waiting) = take number blocks in
    let behind : List (List Waiting) = drop (suc number) blocks in
    let read : c.reserve.new.self.items ≡ blocks = c.reserve.ensures.items in
    let changed : c.index_mut.result.now ≡ block =
    c.index_mut.ensures.value ∙ ap (λ (bs : List (List Waiting)). get_or bs number c.index_mut.result.now) read ∙ get_or_default blocks number c.index_mut.result.now [] c.requires.number in
    let cut : c.split_off.new.self ≡ one = c.in_ok-rest.ensures.ok ∙ ap (take c.args.place) changed in
    let rest : c.in_ok-rest.rest ≡ other = c.in_ok-rest.ensures.rest ∙ ap (drop c.args.place) changed in
    let put : c.insert.new.self.items ≡ insert (set c.reserve.new.self.items number c.split_off.new.self) (number + 1) c.in_ok-rest.rest = c.in-Ok.ensures.items in
    let parts : set blocks number one ≡ (front ++ one ∷ []) ++ behind = set_split blocks number one c.requires.number ∙ sym (append_assoc front (one ∷ []) behind) in
    let count : length (front ++ one ∷ []) ≡ number + 1 = length-append front (one ∷ []) ∙ ap (λ n. n + 1) (length-take-le number blocks (omega (arith, c.requires.number))) in
    put ∙ ap (λ (bs : List (List Waiting)). insert (set bs number c.split_off.new.self) (number + 1) c.in_ok-rest.rest) read
    ∙ ap₂ (λ (b r : List Waiting). insert (set blocks number b) (number + 1) r) cut rest
    ∙ ap (λ xs. insert xs (number + 1) other) parts
    ∙ ap₂ (λ xs ys. xs ++ other ∷ ys) (take_at (front ++ one ∷ []) behind (number + 1) count) (drop_at (front ++ one ∷ []) behind (number + 1) count)
    ∙ append_assoc front (one ∷ []) (other ∷ behind)
