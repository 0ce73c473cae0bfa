use Rattle.block_text.proofs.Prelude.{arith, sym}
use Rattle.block_text.proofs.Numbers.{value_is_large}
use Rattle.block_text.proofs.number.number_within.Goals as goal

pub returns-then-value : goal.returns-then-value
returns-then-value c =
    sym (value_is_large c.args.digits.now c.loop-byte.byte-index c.loop-byte.value c.args.most c.loop-byte-test.true c.loop-byte.invariant (omega (arith, c.if-value.true, c.requires.limit)))
