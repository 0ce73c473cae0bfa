-- What a loop has read of a list, before what the rest gives.
use Rattle.block_text.proofs.Prelude.{List, ◌++◌, Option, option_map}

abbrev pub behind : {B : Type 0} → List B → Option (List B) → Option (List B)
behind front rest = option_map (λ ys. front ++ ys) rest
