use Rattle.cofactor_trace.proofs.Prelude.{◌≡◌, drop, fold, letters_with}
use Rattle.cofactor_trace.proofs.extent.measure.Given as goal

abbrev pub invariant-loop-row : goal.invariant-loop-row
invariant-loop-row l = fold letters_with l.letters (drop l.row-index l.row-items) ≡ fold letters_with l.fn.extent.letters l.row-items
