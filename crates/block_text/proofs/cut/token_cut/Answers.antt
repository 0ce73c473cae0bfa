use Rattle.block_text.proofs.Prelude.{arith}
use Rattle.block_text.proofs.Cuts.{token_taken, token_is_some}
use Rattle.block_text.proofs.cut.token_cut.Goals as goal

pub returns-clause-tokens : goal.returns-clause-tokens
returns-clause-tokens c = token_taken c.args.line.now c.token_len-length.result c.token_len-length.ensures.exact c.requires.some c.requires.token

pub returns-clause-shorter : goal.returns-clause-shorter
returns-clause-shorter c =
    let some = token_is_some c.args.line.now c.requires.some c.requires.token in
    grind (arith, c.token_len-length.ensures, some, c.requires.some)
