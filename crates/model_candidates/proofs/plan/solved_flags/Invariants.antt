use Rattle.model_candidates.proofs.Prelude.{◌≡◌, map, quiver_of, is_solved_map, entries_before}
use Rattle.model_candidates.proofs.plan.solved_flags.Given as goal

-- the flags of the entries of the maps that were passed
abbrev pub invariant-loop-number : goal.invariant-loop-number
invariant-loop-number l = l.flags ≡ map (λ x. is_solved_map l.solved x.map) (entries_before (quiver_of l.quiver) l.shape l.number)
