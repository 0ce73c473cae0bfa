-- Ranks of words.
use Rattle.std.specs.Prelude.{◌+◌, ◌*◌, ◌^◌, ℕ, List, [], ◌∷◌, length}

-- the word as a number in this base
abbrev pub number_of : ℕ → List ℕ → ℕ
number_of base [] = 0
number_of base (letter ∷ word) = letter * base ^ length word + number_of base word

-- the rank of a word over the letters below a number, in the canonical order
abbrev pub rank_of : ℕ → List ℕ → List ℕ
rank_of letters word = length word ∷ number_of letters word ∷ []
