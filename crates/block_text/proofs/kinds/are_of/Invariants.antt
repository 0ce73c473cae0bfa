use Rattle.block_text.proofs.Prelude.{◌≡◌, length, list_all, is_of, tokens_of}
use Rattle.block_text.proofs.kinds.are_of.Given as goal

-- the tokens so far are of the kind
abbrev pub invariant-loop-token : goal.invariant-loop-token
invariant-loop-token l = list_all (is_of l.kind) (tokens_of l.rest) ≡ list_all (is_of l.kind) (tokens_of l.line)

abbrev pub decreases-loop-token : goal.decreases-loop-token
decreases-loop-token l = length l.rest
