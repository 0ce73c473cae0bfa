use Rattle.statement_names.proofs.Prelude.{take, list_any, writes_identity, Marks}
use Rattle.statement_names.proofs.marked.mark_abbreviation.Given as goal

abbrev pub invariant-loop-equation : goal.invariant-loop-equation
invariant-loop-equation l = Marks l.initial.marks l.marks (λ v. list_any (writes_identity l.quiver v) (take l.equation-index l.equation-items))
