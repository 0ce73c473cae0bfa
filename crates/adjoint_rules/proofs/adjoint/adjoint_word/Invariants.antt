use Rattle.adjoint_rules.proofs.Prelude.{◌≡◌, ◌≤◌, length, drop, adjoint_word, quiver_of}
use Rattle.adjoint_rules.proofs.adjoint.adjoint_word.Given as goal

abbrev pub invariant-loop-place : goal.invariant-loop-place
invariant-loop-place l = record {
  within : l.place ≤ length l.word;
  done : l.adjoint ≡ adjoint_word (quiver_of l.quiver) (drop l.place l.word);
}

abbrev pub decreases-loop-place : goal.decreases-loop-place
decreases-loop-place l = l.place
