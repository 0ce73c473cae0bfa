use Rattle.statement_names.proofs.Prelude.{take, list_any, has_identity_in_term, has_identity_in_factor, Marks}
use Rattle.statement_names.proofs.marked.+identities.Given as goal

abbrev pub invariant-mark_sum-loop-term : goal.invariant-mark_sum-loop-term
invariant-mark_sum-loop-term l = Marks l.initial.marks l.marks (λ v. list_any (has_identity_in_term l.quiver v) (take l.term-index l.term-items))

abbrev pub invariant-mark_term-loop-factor : goal.invariant-mark_term-loop-factor
invariant-mark_term-loop-factor l = Marks l.initial.marks l.marks (λ v. list_any (has_identity_in_factor l.quiver v) (take l.factor-index l.factor-items))
