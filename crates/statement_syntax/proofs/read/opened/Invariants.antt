use Rattle.statement_syntax.proofs.Prelude.{◌≡◌, ◌++◌, length, into_iter_items, into_iter_len, left}
use Rattle.statement_syntax.proofs.Stopping.{Runs}
use Rattle.statement_syntax.proofs.read.opened.Given as goal

abbrev pub invariant-loop-token : goal.invariant-loop-token
invariant-loop-token l = record {
  splits : l.yielded ++ into_iter_items l.token-iterator ≡ left l.fn.tokens.items;
  left : into_iter_len l.token-iterator ≡ length (into_iter_items l.token-iterator);
  ran : Runs l.fn.tokens.items l.yielded l.progress;
}
