use Rattle.closed_checker.proofs.Prelude.{◌≡◌, ◌≤◌, length, take, All, letter_count, made_cmp, letters_of, order_of, rules_from, MayBeRule}
use Rattle.closed_checker.proofs.rules.make_rules.Given as goal

-- the rules of the polynomials so far
abbrev pub invariant-loop-poly : goal.invariant-loop-poly
invariant-loop-poly l = record {
  numbered : l.number ≡ l.poly-index;
  counted : length l.rules.rules ≡ l.poly-index;
  made : l.rules.rules ≡ rules_from (order_of l.problem) (take l.poly-index l.poly-items);
  compares : made_cmp l.rules.order ≡ order_of l.problem;
  letters : letter_count l.problem.parts.quiver ≤ letters_of l.rules.order;
  passed : All (MayBeRule (order_of l.problem)) (take l.poly-index l.poly-items);
}
