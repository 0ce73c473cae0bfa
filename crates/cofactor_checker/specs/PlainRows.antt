-- The rows of a lemma or of the goal, as rows over one list: the generators and, behind them, the lemmas before.
use Rattle.std.specs.Prelude.{ℕ, ◌+◌, List, ◌++◌, length, map, nat_lt, nat_le, ◌&&◌, if◌then◌else◌, ⊤}
use Rattle.definitions.specs.Poly.{Poly}
use Rattle.definitions.specs.Combination.{Row, row_sum}
use Rattle.traced_rows.specs.declared.evidence.CertFrom.{CertFrom}
use Rattle.traced_rows.specs.declared.evidence.CertFrom.TheVariants as cert
use Rattle.traced_rows.specs.declared.evidence.LemmaRow.{LemmaRow}

-- the place in that list, counted from 1, and 0 where there is no such generator or lemma
abbrev pub place_of : ℕ → ℕ → CertFrom → ℕ
place_of generators lemmas (cert.Generator n) = if nat_le n generators then n else 0
place_of generators lemmas (cert.Lemma n) = if nat_lt 0 n && nat_le n lemmas then generators + n else 0

abbrev pub plain_row : ℕ → ℕ → LemmaRow → Row
plain_row generators lemmas r = record { coefficient = r.coef; left = r.left; generator = place_of generators lemmas r.from; right = r.right }

-- the same, of the lists that the row is over
abbrev pub row_over : List Poly → List Poly → LemmaRow → Row
row_over generators lemmas = plain_row (length generators) (length lemmas)

abbrev pub plain_rows : List Poly → List Poly → List LemmaRow → List Row
plain_rows generators lemmas rows = map (plain_row (length generators) (length lemmas)) rows

-- the sum of the rows
abbrev pub plain_sum : List Poly → List Poly → List LemmaRow → Poly
plain_sum generators lemmas rows = row_sum (generators ++ lemmas) (plain_rows generators lemmas rows)

-- what a row is over
abbrev pub IsGenerator : CertFrom → Type 0
IsGenerator (cert.Generator n) = ⊤
IsGenerator (cert.Lemma n) = ⊥

abbrev pub IsLemma : CertFrom → Type 0
IsLemma (cert.Generator n) = ⊥
IsLemma (cert.Lemma n) = ⊤
