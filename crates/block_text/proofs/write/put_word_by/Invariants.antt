use Rattle.block_text.proofs.Prelude.{◌≡◌, ◌++◌, take, word_by}
use Rattle.block_text.proofs.write.put_word_by.Given as goal

abbrev pub invariant-loop-place : goal.invariant-loop-place
invariant-loop-place g l = l.out.items ≡ l.initial.out.items ++ word_by (g.L.Letters.text l.letters) (take l.place l.word)
