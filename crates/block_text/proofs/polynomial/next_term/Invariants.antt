use Rattle.block_text.proofs.Prelude.{◌≡◌, ◌≤◌, length, later_in, tokens_of}
use Rattle.block_text.proofs.polynomial.next_term.Given as goal

-- no term begins in what was passed
abbrev pub invariant-loop-token : goal.invariant-loop-token
invariant-loop-token l = record {
  same : later_in (tokens_of l.rest) ≡ later_in (tokens_of l.line);
  within : length l.rest ≤ length l.line;
}

abbrev pub decreases-loop-token : goal.decreases-loop-token
decreases-loop-token l = length l.rest
