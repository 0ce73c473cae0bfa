use Rattle.statement_syntax.proofs.Prelude.{◌≡◌, ◌++◌, true, drop, take, flat_map, factor_kinds, mark_kinds}
use Rattle.statement_syntax.proofs.TreeKinds.{terms_of}
use Rattle.statement_syntax.proofs.kinds.+kinds.Given as goal

abbrev pub invariant-put_sum-loop-term : goal.invariant-put_sum-loop-term
invariant-put_sum-loop-term l = l.out ++ terms_of l.leading (drop l.term-index l.term-items) ≡ l.initial.out ++ terms_of true l.term-items

abbrev pub invariant-put_term-loop-factor : goal.invariant-put_term-loop-factor
invariant-put_term-loop-factor l = l.out ≡ l.initial.out ++ flat_map factor_kinds (take l.factor-index l.factor-items)

abbrev pub invariant-put_factor-loop-mark : goal.invariant-put_factor-loop-mark
invariant-put_factor-loop-mark l = l.out ≡ l.initial.out ++ flat_map mark_kinds (take l.mark-index l.mark-items)
