-- What it is that a polynomial says of an expression: its words are paths of the signature, and its value is that of the expression.
use Rattle.statement_meaning.proofs.Prelude.{◌≡◌, ◌<◌, [], Option, Some, None, Structure, Poly, Quiver, Representation, value_at, Sig}
use Rattle.statement_meaning.proofs.Polynomials.{ArePaths}

-- the value of a polynomial at a signature
abbrev pub value_of : {Object Arrow : Type 0} → Structure Object Arrow → Quiver → Representation Object Arrow → Sig → Poly → Arrow
value_of s q f e p = value_at s q f e.source.0 e.target.0 p

pub record DenotesAt {Object Arrow : Type 0} (s : Structure Object Arrow) (q : Quiver) (f : Representation Object Arrow) (e : Sig) (p : Poly) (a : Option Arrow) : Type 0 where
  pub source_below : e.source.0 < q.objects
  pub target_below : e.target.0 < q.objects
  pub paths : ArePaths q e.source.0 e.target.0 p
  pub same : a ≡ Some (value_of s q f e p)

-- an open expression is made of 0 alone
abbrev pub Denotes : {Object Arrow : Type 0} → Structure Object Arrow → Quiver → Representation Object Arrow → Option Sig → Poly → Option Arrow → Type 0
Denotes s q f None p a = (p ≡ []) × (a ≡ None)
Denotes s q f (Some e) p a = DenotesAt s q f e p a
