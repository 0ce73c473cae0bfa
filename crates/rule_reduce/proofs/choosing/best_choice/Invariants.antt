use Rattle.rule_reduce.proofs.Prelude.{◌≡◌, ◌≤◌, length, drop, IfSome, All, Greater, IsCoefficient, word_cmp, IsOver, measured_letters, Descends, choice_of, choice_from}
use Rattle.rule_reduce.proofs.choosing.best_choice.Given as goal

-- the terms that are left give the choice, and are canonically below the best one so far
abbrev pub invariant-loop-place : goal.invariant-loop-place
invariant-loop-place g l = record {
  within : l.place ≤ length l.terms;
  best_in : IfSome l.best.found (λ c. IsCoefficient c.coefficient);
  best_over : IfSome l.best.found (λ c. IsOver (g.O.WordOrder.letters l.order) c.word);
  best_short : IfSome l.best.found (λ c. length c.word ≤ measured_letters);
  most : IfSome l.best.found (λ c. l.best.measure ≡ g.O.WordOrder.measure_of l.order c.word);
  behind : IfSome l.best.found (λ c. All (λ t. word_cmp c.word t.1 ≡ Greater) (drop l.place l.terms));
  descends : Descends (drop l.place l.terms);
  same : choice_from (g.O.WordOrder.compare l.order) l.index l.best.found (drop l.place l.terms) ≡ choice_of (g.O.WordOrder.compare l.order) l.index l.terms;
}
