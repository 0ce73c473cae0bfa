use Rattle.word_core.proofs.Prelude.{ℕ, ◌<◌, OccursAt}
use Rattle.word_core.proofs.word.Word.first_place.Given as goal

-- it occurs at no place so far
abbrev pub invariant-loop-place : goal.invariant-loop-place
invariant-loop-place l = (earlier : ℕ) → earlier < l.place → OccursAt l.self l.sub earlier → ⊥
