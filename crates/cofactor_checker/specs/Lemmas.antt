-- The tests of lemmas, one after another, and what is told where one fails.
use Rattle.std.specs.Prelude.{◌≡◌, ◌⊎◌, ℕ, ◌+◌, ◌<◌, ◌≤◌, ℤ, List, [], ◌∷◌, ◌++◌, length, map, slice_get, Some, Ok, Err, ⊤}
use Rattle.std.specs.Int.{◌∣◌}
use Rattle.std.specs.Int.RustNames.{unsigned_abs, int_div}
use Rattle.coef_int.specs.declared.Overflow.{Overflow}
use Rattle.definitions.specs.Poly.{Poly}
use Rattle.nc_polynomial.specs.declared.fault.SizeFault.{SizeFault}
use Rattle.nc_polynomial.specs.declared.fault.PolyFault.TheVariants as fault
use Rattle.nc_polynomial.specs.Collected.{collected}
use Rattle.nc_polynomial.specs.Content.{DividesEach}
use Rattle.nc_polynomial.specs.Faults.{sized}
use Rattle.traced_rows.specs.declared.evidence.CertFrom.{CertFrom}
use Rattle.traced_rows.specs.declared.evidence.LemmaRow.{LemmaRow}
use Rattle.traced_rows.specs.declared.evidence.Lemma.{Lemma}
use Rattle.cofactor_checker.specs.Rows.{RowsPass, LacksGenerator, Overflows, Outgrows}
use Rattle.cofactor_checker.specs.PlainRows.{plain_rows, plain_sum, IsGenerator, IsLemma}
use Rattle.cofactor_checker.specs.declared.refusal.Refusal.{Refusal}
use Rattle.cofactor_checker.specs.declared.refusal.Refusal.TheVariants as refusal

-- Each row of a lemma or of the goal passes: it is over a generator or an earlier lemma, no product or sum of it leaves the range, and the
-- sum with it has at most 200,000 terms.
abbrev pub LemmaRowsPass : List Poly → List Poly → List LemmaRow → Type 0
LemmaRowsPass generators lemmas rows = RowsPass (generators ++ lemmas) (plain_rows generators lemmas rows) (length (plain_rows generators lemmas rows))

-- the polynomial of a lemma: the sum of its rows, divided by its scale
abbrev pub lemma_polynomial : List Poly → List Poly → Lemma → Poly
lemma_polynomial generators lemmas l = map (λ t. (int_div t.0 l.scale, t.1)) (collected (plain_sum generators lemmas l.rows))

-- the polynomials of lemmas that stand behind others
abbrev pub lemma_polynomials : List Poly → List Poly → List Lemma → List Poly
lemma_polynomials generators before [] = []
lemma_polynomials generators before (l ∷ lemmas) = lemma_polynomial generators before l ∷ lemma_polynomials generators
    (before ++ lemma_polynomial generators before l ∷ []) lemmas

-- how many terms the polynomials have together
abbrev pub term_total : List Poly → ℕ
term_total [] = 0
term_total (p ∷ ps) = length p + term_total ps

-- the limit of that
abbrev pub kept_limit : ℕ
kept_limit = 1000000

-- The scale divides each coefficient.
pub record IsDivisible (scale : ℤ) (p : Poly) : Type 0 where
  pub each : DividesEach (unsigned_abs scale) p

-- The rows of the lemma pass, its scale divides each coefficient of their sum, and its polynomial, whose words are those of the sum, has at
-- most 20,000 terms and no word of more than 500 letters.
pub record IsMade (generators before : List Poly) (l : Lemma) : Type 0 where
  pub rows : LemmaRowsPass generators before l.rows
  pub divisible : IsDivisible l.scale (collected (plain_sum generators before l.rows))
  pub size : sized (collected (plain_sum generators before l.rows)) ≡ Ok (collected (plain_sum generators before l.rows))

-- It is made, and the polynomials up to it have at most 1,000,000 terms together.
pub record LemmaPasses (generators before : List Poly) (l : Lemma) : Type 0 where
  pub made : IsMade generators before l
  pub kept : term_total before + length (lemma_polynomial generators before l) ≤ kept_limit

-- each of the lemmas passes
abbrev pub LemmasPass : List Poly → List Poly → List Lemma → Type 0
LemmasPass generators before [] = ⊤
LemmasPass generators before (l ∷ lemmas) = LemmaPasses generators before l × LemmasPass generators (before ++ lemma_polynomial generators before l ∷ []) lemmas

-- The row is the first that does not pass, since there is no generator or lemma of its number; which of both it names, the kind tells. So
-- many rows stand before the lemma.
pub record LacksAt (generators lemmas : List Poly) (before : ℕ) (rows : List LemmaRow) (kind : CertFrom → Type 0) (number : ℕ) : Type 0 where
  pub in_lemma : ℕ
  pub counted : number ≡ before + in_lemma
  pub lacks : LacksGenerator (generators ++ lemmas) (plain_rows generators lemmas rows) in_lemma
  pub row : LemmaRow
  pub there : slice_get rows lacks.before ≡ Some row
  pub named : kind row.from

-- The row is the first that does not pass, and this is its first product or sum that leaves the range.
pub record OverflowsAt (generators lemmas : List Poly) (before : ℕ) (rows : List LemmaRow) (number : ℕ) (overflow : Overflow) : Type 0 where
  pub in_lemma : ℕ
  pub counted : number ≡ before + in_lemma
  pub overflows : Overflows (generators ++ lemmas) (plain_rows generators lemmas rows) in_lemma overflow

-- The row is the first that does not pass, since the sum with it has more than 200,000 terms.
pub record OutgrowsAt (generators lemmas : List Poly) (before : ℕ) (rows : List LemmaRow) (number : ℕ) : Type 0 where
  pub in_lemma : ℕ
  pub counted : number ≡ before + in_lemma
  pub outgrows : Outgrows (generators ++ lemmas) (plain_rows generators lemmas rows) in_lemma

-- what is told of the rows of a lemma or of the goal
abbrev pub RefusesLemmaRows : List Poly → List Poly → ℕ → List LemmaRow → Refusal → Type 0
RefusesLemmaRows generators lemmas before rows (refusal.NoSuchGenerator row) = LacksAt generators lemmas before rows IsGenerator row
RefusesLemmaRows generators lemmas before rows (refusal.NoSuchLemma row) = LacksAt generators lemmas before rows IsLemma row
RefusesLemmaRows generators lemmas before rows (refusal.Overflow row overflow) = OverflowsAt generators lemmas before rows row overflow
RefusesLemmaRows generators lemmas before rows (refusal.Size row) = OutgrowsAt generators lemmas before rows row
RefusesLemmaRows generators lemmas before rows (refusal.Memory failed) = ⊤
RefusesLemmaRows generators lemmas before rows other = ⊥

-- In a list whose words descend: the last term, and so the least word, whose coefficient the scale does not divide.
abbrev pub IsLeastIndivisible : ℤ → Poly → List ℕ → ℤ → Type 0
IsLeastIndivisible scale [] word got = ⊥
IsLeastIndivisible scale (t ∷ p) word got = IsLeastIndivisible scale p word got
    ⊎ (DividesEach (unsigned_abs scale) p × ((unsigned_abs scale ∣ unsigned_abs t.0 → ⊥) × (t ≡ (got, word))))

-- the same as a fact
pub record HasLeastIndivisible (scale : ℤ) (p : Poly) (word : List ℕ) (got : ℤ) : Type 0 where
  pub least : IsLeastIndivisible scale p word got

-- The rows of the lemma with this number pass, and this is the least word, with its coefficient in their sum, that the scale does not divide.
pub record LeavesRest (generators before : List Poly) (l : Lemma) (lemma : ℕ) (word : List ℕ) (got : ℤ) : Type 0 where
  pub numbered : lemma ≡ length before + 1
  pub rows : LemmaRowsPass generators before l.rows
  pub least : HasLeastIndivisible l.scale (collected (plain_sum generators before l.rows)) word got

-- The rows of the lemma with this number pass, its scale divides their sum, and its polynomial has too many terms or too long a word.
pub record IsTooLarge (generators before : List Poly) (l : Lemma) (lemma : ℕ) : Type 0 where
  pub numbered : lemma ≡ length before + 1
  pub rows : LemmaRowsPass generators before l.rows
  pub divisible : IsDivisible l.scale (collected (plain_sum generators before l.rows))
  pub limit : SizeFault
  pub size : sized (collected (plain_sum generators before l.rows)) ≡ Err (fault.Size limit)

-- The lemma is made, and the polynomials up to it have more than 1,000,000 terms together; the row is the last one that was read.
pub record KeepsTooMuch (generators before : List Poly) (rows_before : ℕ) (l : Lemma) (row : ℕ) : Type 0 where
  pub last_row : row ≡ rows_before + length l.rows
  pub made : IsMade generators before l
  pub kept : kept_limit < term_total before + length (lemma_polynomial generators before l)

-- what is told of a lemma, where so many rows stand before it
abbrev pub RefusesLemma : List Poly → List Poly → ℕ → Lemma → Refusal → Type 0
RefusesLemma generators before rows l (refusal.NotDivisible lemma word got) = LeavesRest generators before l lemma word got
RefusesLemma generators before rows l (refusal.LemmaSize lemma) = IsTooLarge generators before l lemma
RefusesLemma generators before rows l (refusal.Kept row) = KeepsTooMuch generators before rows l row
RefusesLemma generators before rows l (refusal.NoSuchGenerator row) = LacksAt generators before rows l.rows IsGenerator row
RefusesLemma generators before rows l (refusal.NoSuchLemma row) = LacksAt generators before rows l.rows IsLemma row
RefusesLemma generators before rows l (refusal.Overflow row overflow) = OverflowsAt generators before rows l.rows row overflow
RefusesLemma generators before rows l (refusal.Size row) = OutgrowsAt generators before rows l.rows row
RefusesLemma generators before rows l (refusal.Memory failed) = ⊤
RefusesLemma generators before rows l other = ⊥

-- the first lemma that does not pass, and what is told of it
abbrev pub RefusesLemmas : List Poly → List Poly → ℕ → List Lemma → Refusal → Type 0
RefusesLemmas generators before rows [] e = ⊥
RefusesLemmas generators before rows (l ∷ lemmas) e = RefusesLemma generators before rows l e
    ⊎ (LemmaPasses generators before l × RefusesLemmas generators (before ++ lemma_polynomial generators before l ∷ [])
    (rows + length l.rows) lemmas e)

-- how many rows the lemmas have together
abbrev pub row_count : List Lemma → ℕ
row_count [] = 0
row_count (l ∷ lemmas) = length l.rows + row_count lemmas
