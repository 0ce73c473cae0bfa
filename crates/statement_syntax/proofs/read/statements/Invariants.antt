use Rattle.statement_syntax.proofs.Prelude.{most_tokens}
use Rattle.statement_syntax.proofs.Streamed.{FrontRead}
use Rattle.statement_syntax.proofs.read.statements.Given as goal

abbrev pub invariant-loop-token : goal.invariant-loop-token
invariant-loop-token l = FrontRead l.text l.scanner l.language l.read

abbrev pub decreases-loop-token : goal.decreases-loop-token
decreases-loop-token l = most_tokens l.scanner
