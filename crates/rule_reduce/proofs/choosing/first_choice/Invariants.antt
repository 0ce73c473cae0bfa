use Rattle.rule_reduce.proofs.Prelude.{◌≡◌, ◌≤◌, length, drop, None, Compare, Descends, choice_from, choice_of, IsPlain}
use Rattle.rule_reduce.proofs.choosing.first_choice.Given as goal

-- the terms that are left give the choice
abbrev pub invariant-loop-place : goal.invariant-loop-place
invariant-loop-place l = record {
  within : l.place ≤ length l.terms;
  descends : Descends (drop l.place l.terms);
  same : (compare : Compare) → IsPlain compare → choice_from compare l.index None (drop l.place l.terms) ≡ choice_of compare l.index l.terms;
}
