use Rattle.quiver.proofs.Prelude.{◌≡◌, ◌≤◌, length, drop, signature_of, quiver_of, ends_of}
use Rattle.quiver.proofs.Continued.{continued}
use Rattle.quiver.proofs.quiver.Quiver.word_signature.Given as goal

-- the signature of the letters that were read, and the rest
abbrev pub invariant-loop-place : goal.invariant-loop-place
invariant-loop-place l = record {
  within : l.place ≤ length l.word;
  same : signature_of (quiver_of l.self) l.word ≡ continued (quiver_of l.self) (ends_of l.signature) (drop l.place l.word);
}
