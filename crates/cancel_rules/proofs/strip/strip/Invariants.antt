use Rattle.cancel_rules.proofs.Prelude.{◌≡◌, All, take, stripped, HasAtEnd}
use Rattle.cancel_rules.proofs.strip.strip.Given as goal

abbrev pub invariant-loop-term : goal.invariant-loop-term
invariant-loop-term l = record {
  at_end : All (λ t. HasAtEnd l.side l.letter.0 t.1) (take l.term-index l.poly.terms);
  made : l.terms ≡ stripped l.side (take l.term-index l.poly.terms);
}
