-- What an accepted certificate means in a category.
use Rattle.std.specs.Prelude.{◌≡◌, ℕ, ℤ, ◌<◌, Bool, false, List, filter}
use Rattle.std.specs.List.{AllByRecursion}
use Rattle.definitions.specs.Poly.{Poly}
use Rattle.definitions.specs.Category.{Structure}
use Rattle.definitions.specs.Quiver.{Quiver, IsQuiver, IsTyped}
use Rattle.definitions.specs.Representation.{Representation, Represents, StarRepresents, Cancels, value_at}
use Rattle.definitions.specs.Generators.{generators_of}
use Rattle.definitions.specs.Combination.{Row, IsCombination, is_typed_row}

-- The polynomial has some signature.
pub record HasSignature (q : Quiver) (p : Poly) : Type 0 where
  pub source : ℕ
  pub target : ℕ
  pub source_is_object : source < q.objects
  pub target_is_object : target < q.objects
  pub typed : IsTyped q source target p

-- The value at the signature (u, v) is the zero arrow.
abbrev pub HasValueZeroAt : {Object Arrow : Type 0} → Structure Object Arrow → Quiver → Representation Object Arrow → ℕ → ℕ → Poly → Type 0
HasValueZeroAt s q f u v p = value_at s q f u v p ≡ s.zero (f.object u) (f.object v)

-- The value is the zero arrow at each signature that the polynomial has: a polynomial other than zero has at most one.
pub record HasValueZero {Object Arrow : Type 0} (s : Structure Object Arrow) (q : Quiver) (f : Representation Object Arrow) (p : Poly) : Type 0 where
  pub at : (u v : ℕ) → u < q.objects → v < q.objects → IsTyped q u v p → HasValueZeroAt s q f u v p

-- Each representation in which d cancels and all generators have the value zero gives the claim the value zero.
pub record MakesZero {Object Arrow : Type 0} (s : Structure Object Arrow) (q : Quiver) (generators : List Poly) (d : ℤ) (claim : Poly) : Type 0 where
  pub zero : (f : Representation Object Arrow) → Represents s q f → Cancels s d → AllByRecursion (HasValueZero s q f) generators → HasValueZero s q f claim

-- A certificate proves its claim: rows need not be typed.
pub record IsSound {Object Arrow : Type 0} (s : Structure Object Arrow) : Type 0 where
  pub certificate : (q : Quiver) (generators : List Poly) (rows : List Row) (d : ℤ) (claim : Poly)
      → IsQuiver q → AllByRecursion (HasSignature q) generators → IsCombination generators rows d claim → MakesZero s q generators d claim

-- In each representation the assumptions make all generators of a statement zero that isn't starred: the relations of identities hold anyway.
pub record IsUnitSound {Object Arrow : Type 0} (s : Structure Object Arrow) : Type 0 where
  pub generators : (q : Quiver) (marked : List ℕ) (assumptions : List Poly)
      → IsQuiver q → AllByRecursion (λ v. v < q.objects) marked
      → (f : Representation Object Arrow) → Represents s q f → AllByRecursion (HasValueZero s q f) assumptions
      → AllByRecursion (HasValueZero s q f) (generators_of q false marked assumptions)

-- In each star representation the assumptions make all generators zero.
pub record IsStarSound {Object Arrow : Type 0} (s : Structure Object Arrow) (adjoint : Arrow → Arrow) : Type 0 where
  pub generators : (q : Quiver) (starred : Bool) (marked : List ℕ) (assumptions : List Poly)
      → IsQuiver q → AllByRecursion (λ v. v < q.objects) marked
      → (f : Representation Object Arrow) → StarRepresents s adjoint q f → AllByRecursion (HasValueZero s q f) assumptions
      → AllByRecursion (HasValueZero s q f) (generators_of q starred marked assumptions)

-- Of the rows of a typed claim those with the claim's signature have the same sum.
pub record TypedRowsSuffice : Type 0 where
  pub combination : (q : Quiver) (u v : ℕ) (generators : List Poly) (rows : List Row) (d : ℤ) (claim : Poly)
      → AllByRecursion (HasSignature q) generators → IsTyped q u v claim → IsCombination generators rows d claim
      → IsCombination generators (filter (is_typed_row q u v generators) rows) d claim
