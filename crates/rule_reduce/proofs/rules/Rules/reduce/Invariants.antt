use Rattle.rule_reduce.proofs.Prelude.{◌≤◌, ◌-◌, length, IfSome, All, IsOver, measured_letters, IsSettled, IsBounded, reduction, normal_form_of}
use Rattle.rule_reduce.proofs.ShownStates.{LeadsTo}
use Rattle.rule_reduce.proofs.rules.Rules.reduce.Given as goal

-- the steps that are left give the normal form, and no word above the last one that was reduced has a match
abbrev pub invariant-loop : goal.invariant-loop
invariant-loop g l = record {
  within : l.counter ≤ l.steps;
  used : l.state.used ≤ l.counter;
  in_range : IsBounded g.S.RowStore.numbers l.state;
  over : All (λ t. IsOver (g.O.WordOrder.letters l.self.order) t.1) l.state.rest;
  last_short : IfSome l.last (λ w. length w ≤ measured_letters);
  settled : IfSome l.last (λ w. All (λ t. IsSettled (g.O.WordOrder.compare l.self.order) l.self.index w t.1) l.state.rest);
  same : LeadsTo g.S.RowStore.of (reduction l.steps (g.O.WordOrder.compare l.self.order) l.self.rules (l.steps - l.counter))
      (normal_form_of (g.O.WordOrder.compare l.self.order) l.self.rules l.poly.terms l.steps) l.state;
}
