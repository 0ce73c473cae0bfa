-- Which of two descending lists has the next word: the left one at Greater, the right one at Less, both at Equal.
use Rattle.std.specs.Prelude.{List, [], ◌∷◌, Option, Some, None}
use Rattle.std.specs.declared.cmp.Ordering.{Ordering}
use Rattle.std.specs.declared.cmp.Ordering.TheVariants.{Less, Greater}
use Rattle.word_core.specs.Canonical.{word_cmp}
use Rattle.definitions.specs.Poly.{Term}

abbrev pub side_of : List Term → List Term → Option Ordering
side_of [] [] = None
side_of [] (y ∷ q) = Some Less
side_of (x ∷ p) [] = Some Greater
side_of (x ∷ p) (y ∷ q) = Some (word_cmp x.1 y.1)
