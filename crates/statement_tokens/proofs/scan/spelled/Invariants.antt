use Rattle.statement_tokens.proofs.Prelude.{◌≡◌, ◌++◌, ◌∷◌, drop, encode_utf8_all}
use Rattle.statement_tokens.proofs.scan.spelled.Given as goal

abbrev pub invariant-loop-ch : goal.invariant-loop-ch
invariant-loop-ch l = l.out ++ encode_utf8_all (drop l.ch-index l.more) ≡ encode_utf8_all (l.fn.first ∷ l.more)
