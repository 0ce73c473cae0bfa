-- What proofs that cancel letters mean in a category.
use Rattle.std.specs.Prelude.{ℕ, ◌<◌, Bool, List}
use Rattle.std.specs.List.{AllByRecursion, All}
use Rattle.word_core.specs.declared.letter.Letter.{Letter}
use Rattle.definitions.specs.Poly.{Poly, Term}
use Rattle.definitions.specs.Category.{Structure}
use Rattle.definitions.specs.Quiver.{Quiver, IsQuiver}
use Rattle.definitions.specs.Representation.{Representation, Represents, StarRepresents, Cancels}
use Rattle.definitions.specs.Generators.{generators_of}
use Rattle.definitions.specs.Soundness.{HasSignature, HasValueZero}
use Rattle.representations.specs.Cancelling.{IsMonic, IsEpic}
use Rattle.cancel_rules.specs.declared.cancellation.Cancellation.{Cancellation}
use Rattle.cancel_rules.specs.Cancellations.{IsCancellationOf}

-- the letters have monic arrows
abbrev pub AreMonic : {Object Arrow : Type 0} → Structure Object Arrow → Representation Object Arrow → List Letter → Type 0
AreMonic s f letters = All (λ a. IsMonic s (f.arrow a.0)) letters

-- the letters have epic arrows
abbrev pub AreEpic : {Object Arrow : Type 0} → Structure Object Arrow → Representation Object Arrow → List Letter → Type 0
AreEpic s f letters = All (λ a. IsEpic s (f.arrow a.0)) letters

-- Each representation in which the denominator cancels, the letters that the proof calls monic and epic have such arrows, and these
-- polynomials have the value zero, gives the claim the value zero.
pub record MakesZeroByCancelling {Object Arrow : Type 0} (s : Structure Object Arrow) (q : Quiver) (proof : Cancellation)
    (assumed : List (List Term)) (claim : List Term) : Type 0 where
  pub zero : (f : Representation Object Arrow) → Represents s q f → Cancels s proof.denominator → AreMonic s f proof.monic → AreEpic s f proof.epic
      → AllByRecursion (HasValueZero s q f) assumed → HasValueZero s q f claim

-- A proof that leads to a claim proves it: neither rows nor items need be typed, but those from which a letter is taken.
pub record IsCancellationSound {Object Arrow : Type 0} (s : Structure Object Arrow) : Type 0 where
  pub proofs : (q : Quiver) (generators items : List Poly) (proof : Cancellation) (claim : Poly)
      → IsQuiver q → AllByRecursion (HasSignature q) generators → IsCancellationOf q generators items proof claim
      → MakesZeroByCancelling s q proof generators claim

-- In each star representation in which the denominator cancels, the declared letters are monic and epic and all assumptions are zero, it
-- gives the claim the value zero.
pub record IsCancellationStarSound {Object Arrow : Type 0} (s : Structure Object Arrow) (adjoint : Arrow → Arrow) : Type 0 where
  pub proofs : (q : Quiver) (starred : Bool) (marked : List ℕ) (assumptions items : List Poly) (proof : Cancellation) (claim : Poly)
      → IsQuiver q → AllByRecursion (λ v. v < q.objects) marked → AllByRecursion (HasSignature q) (generators_of q starred marked assumptions)
      → IsCancellationOf q (generators_of q starred marked assumptions) items proof claim
      → (f : Representation Object Arrow) → StarRepresents s adjoint q f → Cancels s proof.denominator → AreMonic s f proof.monic → AreEpic s f proof.epic
      → AllByRecursion (HasValueZero s q f) assumptions → HasValueZero s q f claim
