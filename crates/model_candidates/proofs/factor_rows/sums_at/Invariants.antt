use Rattle.model_candidates.proofs.Prelude.{take}
use Rattle.model_candidates.proofs.FactorRows.{AreSums}
use Rattle.model_candidates.proofs.factor_rows.sums_at.Given as goal

-- with what the terms that were passed add
abbrev pub invariant-loop-term : goal.invariant-loop-term
invariant-loop-term l = AreSums l.fn.modulus l.fn.count (take l.term-index l.terms) l.fn.row l.fn.column l.sums.items
