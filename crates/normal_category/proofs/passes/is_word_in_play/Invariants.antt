use Rattle.normal_category.proofs.Prelude.{◌≡◌, true, take, list_all, numbers, is_in_play}
use Rattle.normal_category.proofs.passes.is_word_in_play.Given as goal

-- the letters that were passed are in play
abbrev pub invariant-loop-place : goal.invariant-loop-place
invariant-loop-place l = list_all (is_in_play l.parts.quiver l.parts.starred (numbers l.parts.marked)) (take l.place l.word) ≡ true
