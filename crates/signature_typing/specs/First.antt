-- The first result that is found.
use Rattle.std.specs.Prelude.{List, [], ◌∷◌, Option, None}
use Rattle.std.specs.Option.{option_or}

-- among the elements of a list
abbrev pub first_among : {A B : Type 0} → (A → Option B) → List A → Option B
first_among find [] = None
first_among find (x ∷ xs) = option_or (find x) (first_among find xs)
