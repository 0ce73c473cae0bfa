use Rattle.statement_syntax.proofs.Streamed.{OpeningRead}
use Rattle.statement_syntax.proofs.read.opening.Given as goal

abbrev pub invariant-loop : goal.invariant-loop
invariant-loop l = OpeningRead l.fn.scanner l.scanner l.tokens.items l.counter
