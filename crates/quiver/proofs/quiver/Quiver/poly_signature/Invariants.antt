use Rattle.quiver.proofs.Prelude.{ℕ, ◌<◌, ◌≤◌, ℤ, List, length, get_or, IsPath, quiver_of}
use Rattle.quiver.proofs.quiver.Quiver.poly_signature.Given as goal

-- the words that were read are paths of the signature
abbrev pub invariant-loop-place : goal.invariant-loop-place
invariant-loop-place l = record {
  within : l.place ≤ length l.poly.terms;
  paths : (k : ℕ) (d : ℤ × List ℕ) → k < l.place → IsPath (quiver_of l.self) l.signature.source.0 l.signature.target.0 (get_or l.poly.terms k d).1;
}
