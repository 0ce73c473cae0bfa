-- Words over finitely many letters.
use Rattle.std.specs.Prelude.{◌<◌, ℕ, List}
use Rattle.std.specs.List.{All}

-- every letter of the word is below the number
abbrev pub IsOver : ℕ → List ℕ → Type 0
IsOver letters word = All (λ letter. letter < letters) word
