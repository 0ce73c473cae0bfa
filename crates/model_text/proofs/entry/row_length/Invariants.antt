use Rattle.model_text.proofs.Prelude.{◌≡◌, ◌≤◌, ◌+◌, length, tokens_of}
use Rattle.model_text.proofs.entry.row_length.Given as goal

-- the tokens so far and those that are left
abbrev pub invariant-loop-behind : goal.invariant-loop-behind
invariant-loop-behind l = record {
  same : l.count + length (tokens_of l.rest) ≡ length (tokens_of l.row);
  within : l.count + length l.rest ≤ length l.row;
}

abbrev pub decreases-loop-behind : goal.decreases-loop-behind
decreases-loop-behind l = length l.rest
