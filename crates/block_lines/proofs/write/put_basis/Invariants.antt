use Rattle.block_lines.proofs.Prelude.{◌≡◌, ◌++◌, take, flat_map, rule_line}
use Rattle.block_lines.proofs.write.put_basis.Given as goal

abbrev pub invariant-loop-rule : goal.invariant-loop-rule
invariant-loop-rule l = l.out.items ≡ l.initial.out.items ++ flat_map (rule_line l.quiver) (take l.rule-index l.rules)
