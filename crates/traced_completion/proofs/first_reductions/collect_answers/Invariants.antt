use Rattle.traced_completion.proofs.Prelude.{◌≡◌, length, into_iter_items, into_iter_len}
use Rattle.traced_completion.proofs.InOrder.{join, values}
use Rattle.traced_completion.proofs.first_reductions.collect_answers.Given as goal

-- the values so far are before those of what is left
abbrev pub invariant-loop-answer : goal.invariant-loop-answer
invariant-loop-answer l = record {
  left : into_iter_len l.answer-iterator ≡ length (into_iter_items l.answer-iterator);
  joined : join l.firsts (values (into_iter_items l.answer-iterator)) ≡ values l.fn.answers.items;
}
