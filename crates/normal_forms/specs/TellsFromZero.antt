-- When a claim isn't zero in a category.
use Rattle.std.specs.Prelude.{ℕ, ◌<◌, pos, List}
use Rattle.std.specs.List.{AllByRecursion}
use Rattle.definitions.specs.Poly.{Poly}
use Rattle.definitions.specs.Category.{Structure, PreadditiveLaws}
use Rattle.definitions.specs.Quiver.{Quiver, IsTyped}
use Rattle.definitions.specs.Representation.{Representation, Represents, Cancels}
use Rattle.definitions.specs.Soundness.{HasValueZero, HasValueZeroAt}

module _ {Object Arrow : Type 0} (s : Structure Object Arrow) (q : Quiver) (f : Representation Object Arrow) where
  -- it has a signature, and its value there isn't zero
  pub record HasOtherValue (claim : Poly) : Type 0 where
    pub source : ℕ
    pub target : ℕ
    pub source_is_object : source < q.objects
    pub target_is_object : target < q.objects
    pub typed : IsTyped q source target claim
    pub nonzero : HasValueZeroAt s q f source target claim → ⊥

  -- A preadditive category in which each positive integer cancels, with a representation in which these polynomials have the value zero, and the
  -- claim hasn't.
  pub record TellsFromZero (generators : List Poly) (poly : Poly) : Type 0 where
    pub laws : PreadditiveLaws s
    pub cancels : (n : ℕ) → 0 < n → Cancels s (pos n)
    pub represents : Represents s q f
    pub zeros : AllByRecursion (HasValueZero s q f) generators
    pub claim : HasOtherValue poly
