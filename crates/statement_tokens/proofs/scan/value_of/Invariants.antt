use Rattle.statement_tokens.proofs.Prelude.{◌≡◌, ◌∷◌, ◌<◌, ◌^◌, drop, value_from}
use Rattle.statement_tokens.proofs.scan.value_of.Given as goal

abbrev pub invariant-loop-ch : goal.invariant-loop-ch
invariant-loop-ch l = record {
  same : value_from l.value (drop l.ch-index l.more) ≡ value_from 0 (l.fn.first ∷ l.more);
  below : l.value < 2 ^ 127;
}
