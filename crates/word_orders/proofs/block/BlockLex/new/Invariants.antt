use Rattle.word_orders.proofs.Prelude.{take}
use Rattle.word_orders.proofs.BlockReading.{ReadsBlock}
use Rattle.word_orders.proofs.block.BlockLex.new.Given as goal

abbrev pub invariant-loop-letter : goal.invariant-loop-letter
invariant-loop-letter l = ReadsBlock l.letters (take l.letter-index l.block) l.order
