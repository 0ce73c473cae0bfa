-- What certificates with lemmas mean in a category.
use Rattle.std.specs.Prelude.{ℕ, ◌<◌, Bool, List}
use Rattle.std.specs.List.{AllByRecursion}
use Rattle.definitions.specs.Poly.{Poly}
use Rattle.definitions.specs.Category.{Structure}
use Rattle.definitions.specs.Quiver.{Quiver, IsQuiver}
use Rattle.definitions.specs.Representation.{Representation, StarRepresents, Cancels}
use Rattle.definitions.specs.Generators.{generators_of}
use Rattle.definitions.specs.Soundness.{HasSignature, HasValueZero, MakesZero}
use Rattle.traced_rows.specs.declared.evidence.LemmaCertificate.{LemmaCertificate}
use Rattle.traced_rows.specs.LemmaRows.{IsEvidenceOf}

-- Evidence with lemmas proves its claim: neither rows nor lemmas need be typed.
pub record IsEvidenceSound {Object Arrow : Type 0} (s : Structure Object Arrow) : Type 0 where
  pub evidence : (q : Quiver) (generators lemmas : List Poly) (c : LemmaCertificate) (claim : Poly)
      → IsQuiver q → AllByRecursion (HasSignature q) generators → IsEvidenceOf generators lemmas c claim → MakesZero s q generators c.denominator claim

-- In each star representation in which the denominator cancels and all assumptions are zero, it gives the claim the value zero.
pub record IsEvidenceStarSound {Object Arrow : Type 0} (s : Structure Object Arrow) (adjoint : Arrow → Arrow) : Type 0 where
  pub evidence : (q : Quiver) (starred : Bool) (marked : List ℕ) (assumptions lemmas : List Poly) (c : LemmaCertificate) (claim : Poly)
      → IsQuiver q → AllByRecursion (λ v. v < q.objects) marked → AllByRecursion (HasSignature q) (generators_of q starred marked assumptions)
      → IsEvidenceOf (generators_of q starred marked assumptions) lemmas c claim
      → (f : Representation Object Arrow) → StarRepresents s adjoint q f → Cancels s c.denominator
      → AllByRecursion (HasValueZero s q f) assumptions → HasValueZero s q f claim
