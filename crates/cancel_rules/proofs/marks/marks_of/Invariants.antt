use Rattle.cancel_rules.proofs.Prelude.{◌≡◌, length, take, MarksLetters}
use Rattle.cancel_rules.proofs.marks.marks_of.Given as goal

abbrev pub invariant-loop-letter : goal.invariant-loop-letter
invariant-loop-letter l = record {
  long : length l.marks.items ≡ l.count;
  marked : MarksLetters (take l.letter-index l.letters) l.marks.items;
}
