use Rattle.model_candidates.proofs.Prelude.{◌≡◌, ◌≤◌, ◌*◌, length, quiver_of, entries_before}
use Rattle.model_candidates.proofs.entries.entries_before.Given as goal

-- the entries of the maps that were passed
abbrev pub invariant-loop-number : goal.invariant-loop-number
invariant-loop-number l = (l.count ≡ length (entries_before (quiver_of l.quiver) l.shape l.number)) × (l.count ≤ 36 * l.number)
