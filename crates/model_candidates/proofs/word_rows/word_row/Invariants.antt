use Rattle.model_candidates.proofs.Prelude.{take}
use Rattle.model_candidates.proofs.WordRows.{IsSoFar}
use Rattle.model_candidates.proofs.word_rows.word_row.Given as goal

-- the row of the letters that were passed
abbrev pub invariant-loop-place : goal.invariant-loop-place
invariant-loop-place l = IsSoFar l.given l.fn.ends.source.0 l.fn.row (take l.fn.to l.word) l.fn.from l.place l.product
