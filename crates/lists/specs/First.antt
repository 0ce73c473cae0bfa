-- The first item of a list that a test fails.
use Rattle.std.specs.Prelude.{◌≡◌, ℕ, List, Some, take}
use Rattle.std.specs.List.{All, slice_get}

-- The first item of which something doesn't hold.
pub record FirstNot {X : Type 0} (P : X → Type 0) (items : List X) : Type 0 where
  pub before : ℕ
  pub item : X
  pub there : slice_get items before ≡ Some item
  pub earlier : All P (take before items)
  pub fails : P item → ⊥
