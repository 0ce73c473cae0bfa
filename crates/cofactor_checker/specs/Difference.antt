-- Where two polynomials differ.
use Rattle.std.specs.Prelude.{◌≡◌, ◌≢◌, ℕ, ℤ, List, Option, Some, None}
use Rattle.std.specs.declared.cmp.Ordering.TheVariants.{Less}
use Rattle.word_core.specs.Canonical.{word_cmp}
use Rattle.cofactor_checker.specs.declared.compare.Difference.{Difference}

-- The word has one coefficient where another is wanted, and no lesser word has.
pub record IsLeastDifference (wanted found : List ℕ → ℤ) (word : List ℕ) (want got : ℤ) : Type 0 where
  pub wanted_there : wanted word ≡ want
  pub found_there : found word ≡ got
  pub differ : want ≢ got
  pub least : (lesser : List ℕ) → word_cmp lesser word ≡ Less → wanted lesser ≡ found lesser

-- no difference, or the least
abbrev pub IsComparison : (List ℕ → ℤ) → (List ℕ → ℤ) → Option Difference → Type 0
IsComparison wanted found None = (w : List ℕ) → found w ≡ wanted w
IsComparison wanted found (Some d) = IsLeastDifference wanted found d.word d.want d.got
