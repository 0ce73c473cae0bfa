use Rattle.word_orders.proofs.Prelude.{take}
use Rattle.word_orders.proofs.WeightReading.{ReadsWeights}
use Rattle.word_orders.proofs.weight.WeightLex.new.Given as goal

abbrev pub invariant-loop-entry : goal.invariant-loop-entry
invariant-loop-entry l = ReadsWeights l.letters (take l.entry-index l.weights) l.order
