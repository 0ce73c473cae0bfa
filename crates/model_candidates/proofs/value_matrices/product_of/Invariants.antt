use Rattle.model_candidates.proofs.Prelude.{drop, take, entry_at, product_in}
use Rattle.model_candidates.proofs.MatrixRows.{AreRows}
use Rattle.model_candidates.proofs.value_matrices.product_of.Given as goal

-- the rows that were passed
abbrev pub invariant-loop-row : goal.invariant-loop-row
invariant-loop-row l =
    AreRows l.given.shape.now.modulus l.columns
    (entry_at (product_in l.given l.fn.ends.source.0 (drop l.fn.from (take l.fn.to l.word)))) l.row l.entries.items
