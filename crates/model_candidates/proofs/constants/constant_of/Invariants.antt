use Rattle.model_candidates.proofs.Prelude.{entry_at, value_in}
use Rattle.model_candidates.proofs.MatrixRows.{AreRows}
use Rattle.model_candidates.proofs.constants.constant_of.Given as goal

-- the rows that were passed
abbrev pub invariant-loop-row : goal.invariant-loop-row
invariant-loop-row l =
    AreRows l.known.given.shape.now.modulus l.columns
    (entry_at (value_in l.known.given l.fn.ends.source.0 l.fn.ends.target.0 l.poly.terms)) l.row l.entries.items
