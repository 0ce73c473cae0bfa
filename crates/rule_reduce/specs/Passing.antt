-- What the search for the next choice passes over.
use Rattle.std.specs.Prelude.{◌≡◌, ◌<◌, ◌⊎◌, ℕ, Bool, IsTrue}

-- a measure above that of the last word, or the same one of a word that is canonically above it
abbrev pub Passes : ℕ → ℕ → Bool → Type 0
Passes bound measure is_above = (bound < measure) ⊎ (IsTrue is_above × (measure ≡ bound))
