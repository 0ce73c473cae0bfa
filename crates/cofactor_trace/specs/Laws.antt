-- The laws of expansions: their sums and their sizes.
use Rattle.std.specs.Prelude.{◌≡◌, ◌≤◌, ℕ, suc, List, slice_get, length, Some, Ok, ⊤}
use Rattle.std.specs.List.{All}
use Rattle.definitions.specs.Poly.{Poly, SamePolynomial, poly_multiple}
use Rattle.definitions.specs.Combination.{generator_at, IsCombination}
use Rattle.traced_rows.specs.declared.Origin.{Origin}
use Rattle.traced_rows.specs.declared.Origin.TheVariants as origin
use Rattle.traced_rows.specs.declared.Made.{Made}
use Rattle.traced_rows.specs.declared.certificate.CertRow.{CertRow}
use Rattle.traced_rows.specs.declared.certificate.Cofactors.{Cofactors}
use Rattle.traced_rows.specs.Rows.{rows_of}
use Rattle.traced_rows.specs.Traces.{traced_sum}
use Rattle.cofactor_trace.specs.Expansion.{letter_count}
use Rattle.cofactor_trace.specs.Needed.{IsRecord, AreRecords, expansion_of}
use Rattle.nc_polynomial.specs.Limits.{word_limit}
use Rattle.cofactor_trace.specs.Limits.{row_limit, letter_limit}

-- The rows of the record add up to its scale times the polynomial.
abbrev pub Traces : List Poly → List Poly → Made → Poly → Type 0
Traces generators rules m p = SamePolynomial (traced_sum generators rules m.rows) (poly_multiple m.scale p)

-- the records say how the rules were made
pub record AreTraces (generators rules : List Poly) (made : List Made) : Type 0 where
  pub at : (place : ℕ) (m : Made) → slice_get made place ≡ Some m → Traces generators rules m (generator_at rules (suc place))

-- Where the rows of each record add up to its scale times its rule, those of an expansion add up, over the generators alone,
-- to its denominator, which is positive, times the polynomial of the target.
abbrev pub ExpansionsBalance : Type 0
ExpansionsBalance = (generators rules : List Poly) (made : List Made) (target : Made) (p : Poly) (c : Cofactors)
    → AreRecords made → IsRecord (length made) target → AreTraces generators rules made → Traces generators rules target p
    → expansion_of made target ≡ Ok c → IsCombination generators (rows_of c.rows) c.denominator p

-- No word has more than 500 letters, there are at most 200,000 rows, and their words have at most 1,000,000 letters.
pub record IsWithinLimits (rows : List CertRow) : Type 0 where
  pub short : All (λ r. (length r.left ≤ word_limit) × (length r.right ≤ word_limit)) rows
  pub few : length rows ≤ row_limit
  pub letters : letter_count rows ≤ letter_limit

abbrev pub ExpansionsFit : Type 0
ExpansionsFit = (made : List Made) (target : Made) (c : Cofactors) → expansion_of made target ≡ Ok c → IsWithinLimits c.rows

-- a rule, or one of the first generators, by this count
abbrev pub IsUpTo : ℕ → Origin → Type 0
IsUpTo count (origin.Generator n) = (1 ≤ n) × (n ≤ count)
IsUpTo count (origin.Rule n) = ⊤

abbrev pub NamesUpTo : ℕ → Made → Type 0
NamesUpTo count m = All (λ r. IsUpTo count r.from) m.rows

-- Where the records name only the first generators, so does an expansion.
abbrev pub GeneratorsAreNamed : Type 0
GeneratorsAreNamed = (count : ℕ) (made : List Made) (target : Made) (c : Cofactors) → All (NamesUpTo count) made → NamesUpTo count target
    → expansion_of made target ≡ Ok c → All (λ r. (1 ≤ r.generator) × (r.generator ≤ count)) c.rows
