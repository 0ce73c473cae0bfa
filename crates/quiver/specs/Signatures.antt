-- The signature of a polynomial, term by term.
use Rattle.std.specs.Prelude.{◌≢◌, ℕ, []}
use Rattle.std.specs.List.{All}
use Rattle.definitions.specs.Poly.{Poly}
use Rattle.definitions.specs.Quiver.{Quiver, IsPath}
use Rattle.quiver.specs.declared.named.Sig.{Sig}

-- a signature as the pair of its objects
abbrev pub ends_of : Sig → ℕ × ℕ
ends_of s = (s.source.0, s.target.0)

-- The polynomial has a term, and each of its words is a path from u to v.
pub record HasPaths (q : Quiver) (u v : ℕ) (p : Poly) : Type 0 where
  pub nonzero : p ≢ []
  pub paths : All (λ t. IsPath q u v t.1) p
