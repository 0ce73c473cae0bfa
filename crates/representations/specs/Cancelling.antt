-- Monic and epic arrows: those that cancel on the left, and on the right.
use Rattle.std.specs.Prelude.{◌≡◌}
use Rattle.definitions.specs.Category.{Structure}

-- m n = 0 only for n = 0
pub record IsMonic {Object Arrow : Type 0} (s : Structure Object Arrow) (m : Arrow) : Type 0 where
  pub at : (n : Arrow) → s.is_arrow n → s.target n ≡ s.source m → s.compose m n ≡ s.zero (s.source n) (s.target m) → n ≡ s.zero (s.source n) (s.target n)

-- n m = 0 only for n = 0
pub record IsEpic {Object Arrow : Type 0} (s : Structure Object Arrow) (m : Arrow) : Type 0 where
  pub at : (n : Arrow) → s.is_arrow n → s.source n ≡ s.target m → s.compose n m ≡ s.zero (s.source m) (s.target n) → n ≡ s.zero (s.source n) (s.target n)
