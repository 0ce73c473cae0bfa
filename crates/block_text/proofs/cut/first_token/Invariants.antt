use Rattle.block_text.proofs.Prelude.{◌≡◌, ◌≤◌, length, tokens_of}
use Rattle.block_text.proofs.cut.first_token.Given as goal

-- the line without some of its leading gaps
abbrev pub invariant-loop-rest : goal.invariant-loop-rest
invariant-loop-rest l = record {
  same : tokens_of l.rest ≡ tokens_of l.line;
  within : length l.rest ≤ length l.line;
}

abbrev pub decreases-loop-rest : goal.decreases-loop-rest
decreases-loop-rest l = length l.rest
