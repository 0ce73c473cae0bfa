use Rattle.expressions.proofs.Prelude.{rules}
use Rattle.expressions.proofs.RepeatedWords.{repeated-even, repeated-odd}
use Rattle.expressions.proofs.powers.+repeated_word.Goals as goal

pub returns-then-times-eq0 : goal.returns-then-times-eq0
returns-then-times-eq0 t c =
    let whole = repeated-even c.args.times c.args.word.now c.if-times-eq0.true in
    search (rules, whole)

pub returns : goal.returns
returns t c =
    let whole = repeated-odd c.args.times c.args.word.now c.if-times-eq0.false in
    search (rules, whole)
