-- The lines of what was put.
use Rattle.std.specs.Prelude.{◌≡◌, ◌⊎◌, ◌^◌, ◌==◌, ℕ, not, List, [], ◌∷◌, ◌++◌, codes, decimal, IsTrue}
use Rattle.std.specs.List.{list_all}

-- nothing, or lines with their ends
abbrev pub AreLines : List ℕ → Type 0
AreLines text = (text ≡ []) ⊎ ((most : List ℕ) × (text ≡ most ++ 10 ∷ []))

-- the text has this line, and this after it
pub record HasLineBefore (text line after : List ℕ) : Type 0 where
  -- it contains no line feed
  pub one : IsTrue (list_all (λ c. not (c == 10)) line)
  pub before : List ℕ
  pub begins : AreLines before
  pub splits : text ≡ before ++ line ++ 10 ∷ after

-- the text has this line
abbrev pub HasLine : List ℕ → List ℕ → Type 0
HasLine text line = (after : List ℕ) × HasLineBefore text line after

-- # claim N, and the rest
abbrev pub claim_line : ℕ → List ℕ → List ℕ
claim_line number said = codes "# claim " ++ decimal number ++ codes " " ++ said

-- # block B, and the rest
abbrev pub block_line : ℕ → List ℕ → List ℕ
block_line block said = codes "# block " ++ decimal block ++ codes " " ++ said

-- Where a promise says which claim, or which block, the number in its line means, it is about numbers below this one: no statement has so many claims,
-- and no text of evidence so many blocks. `accepted`, `explained`, `closed` and `sharp` take a block of any number, as they don't say which block it is.
abbrev pub number_limit : ℕ
number_limit = 2 ^ 64
