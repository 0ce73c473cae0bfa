-- The lines of a report that say why a statement or an evidence text is refused.
use Rattle.std.specs.Prelude.{ℕ, List, [], ◌++◌, ◌==◌, codes, decimal, if◌then◌else◌, Option, Some, None}

-- the limit that is exceeded, where a fault has one
abbrev pub limit_text : ℕ → List ℕ
limit_text limit = if limit == 0 then [] else codes " limit " ++ decimal limit

-- S1 has a byte and S15 no place; all others have a line and a column
abbrev pub place_text : ℕ → ℕ → ℕ → List ℕ
place_text code line column =
    if code == 1 then codes " byte " ++ decimal column
    else (if code == 15 then [] else codes " line " ++ (decimal line ++ (codes " column " ++ decimal column)))

-- a signature by the names of its source and its target
abbrev pub ends_text : List ℕ → Option (List ℕ × List ℕ) → List ℕ
ends_text side None = []
ends_text side (Some ends) = side ++ (ends.0 ++ (codes " -> " ++ ends.1))

-- a fault of a statement: its code, its place, its limit, and two signatures that don't fit
abbrev pub statement_fault : ℕ → ℕ → ℕ → ℕ → Option (List ℕ × List ℕ) → Option (List ℕ × List ℕ) → List ℕ
statement_fault code line column limit left right =
    codes "# refused S" ++ (decimal code
    ++ (place_text code line column ++ (limit_text limit ++ (ends_text (codes " left ") left ++ ends_text (codes " right ") right))))

-- K1, K6 and K7 have no line
abbrev pub line_text : ℕ → List ℕ
line_text line = if line == 0 then [] else codes " line " ++ decimal line

-- a fault of an evidence text: its code, its line and its limit
abbrev pub evidence_fault : ℕ → ℕ → ℕ → List ℕ
evidence_fault code line limit = codes "# refused K" ++ (decimal code ++ (line_text line ++ limit_text limit))
