use Rattle.model_candidates.proofs.Prelude.{◌≡◌, ◌≤◌, ◌*◌, map, length, range_with_len, quiver_of, place_by, entries_before}
use Rattle.model_candidates.proofs.given_values.model_with.Given as goal

-- the matrices of the letters that were passed, and the place of the next entry
abbrev pub invariant-loop-number : goal.invariant-loop-number
invariant-loop-number l =
    (l.maps ≡ map (place_by (quiver_of l.quiver) l.shape l.values) (range_with_len 0 l.number))
    × (l.first ≡ length (entries_before (quiver_of l.quiver) l.shape l.number))
    × (l.first ≤ 36 * l.number)
