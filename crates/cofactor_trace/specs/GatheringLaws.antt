-- The laws of gathered certificates: their sums, their sizes, and the generators and lemmas that they name.
use Rattle.std.specs.Prelude.{◌≡◌, ◌≤◌, ℕ, suc, List, [], ◌∷◌, ◌++◌, map, length, Bool, IsTrue, Ok, ⊤}
use Rattle.std.specs.List.{All}
use Rattle.coef_int.specs.Range.{IsCoefficient}
use Rattle.definitions.specs.Poly.{Poly}
use Rattle.definitions.specs.Combination.{generator_at}
use Rattle.traced_rows.specs.declared.Made.{Made}
use Rattle.traced_rows.specs.declared.evidence.CertFrom.{CertFrom}
use Rattle.traced_rows.specs.declared.evidence.CertFrom.TheVariants as cert
use Rattle.traced_rows.specs.declared.evidence.Lemma.{Lemma}
use Rattle.traced_rows.specs.declared.evidence.LemmaCertificate.{LemmaCertificate}
use Rattle.cofactor_trace.specs.Needed.{IsRecord, AreRecords}
use Rattle.cofactor_trace.specs.Laws.{Traces, AreTraces, NamesUpTo}
use Rattle.traced_rows.specs.LemmaRows.{IsEvidenceOf}
use Rattle.cofactor_trace.specs.Lemmas.{lemma_rules, row_count, letter_count, gathered_of}
use Rattle.cofactor_trace.specs.Limits.{row_limit, letter_limit}

-- the lemmas and then the goal
abbrev pub parts_of : LemmaCertificate → List Lemma
parts_of c = c.lemmas ++ c.goal ∷ []

-- the rules of the lemmas, as polynomials
abbrev pub lemma_polys : List Poly → List Made → Made → List Poly
lemma_polys rules made target = map (λ e. generator_at rules e.0) (lemma_rules made target)

-- Where the rows of each record add up to its scale times its rule, a gathered certificate is evidence of the target's polynomial,
-- and its lemmas are rules.
abbrev pub GatheringsAddUp : Type 0
GatheringsAddUp = (generators rules : List Poly) (claim : ℕ) (made : List Made) (target : Made) (p : Poly) (c : LemmaCertificate)
    → AreRecords made → IsRecord (length made) target → AreTraces generators rules made → Traces generators rules target p
    → gathered_of claim made target ≡ Ok c → IsEvidenceOf generators (lemma_polys rules made target) c p

-- There are at most 200,000 rows and 1,000,000 letters.
abbrev pub GatheringsFit : Type 0
GatheringsFit = (claim : ℕ) (made : List Made) (target : Made) (c : LemmaCertificate) → gathered_of claim made target ≡ Ok c
    → (row_count (parts_of c) ≤ row_limit) × (letter_count (parts_of c) ≤ letter_limit)

-- Where each record has a row, so has each lemma, and there are at most 200,000 of them.
abbrev pub LemmasHaveRows : Type 0
LemmasHaveRows = (claim : ℕ) (made : List Made) (target : Made) (c : LemmaCertificate) → All (λ m. 1 ≤ length m.rows) made
    → gathered_of claim made target ≡ Ok c
    → All (λ l. 1 ≤ length l.rows) c.lemmas × (length c.lemmas ≤ row_limit)

-- the scale and the coefficients of all rows are coefficients
abbrev pub IsRangedLemma : Lemma → Type 0
IsRangedLemma l = IsCoefficient l.scale × All (λ r. IsCoefficient r.coef) l.rows

-- The denominator, each scale and the coefficient of each row are coefficients.
abbrev pub GatheringsAreRanged : Type 0
GatheringsAreRanged = (claim : ℕ) (made : List Made) (target : Made) (c : LemmaCertificate) → AreRecords made
    → IsRecord (length made) target → gathered_of claim made target ≡ Ok c
    → IsCoefficient c.denominator × All IsRangedLemma (parts_of c)

-- Where a test is true at each word of the records, it is true at each word of the certificate.
abbrev pub WordsAreKept : Type 0
WordsAreKept = (test : List ℕ → Bool) (claim : ℕ) (made : List Made) (target : Made) (c : LemmaCertificate)
    → All (λ m. All (λ r. IsTrue (test r.left) × IsTrue (test r.right)) m.rows) made → All (λ r. IsTrue (test r.left) × IsTrue (test r.right)) target.rows
    → gathered_of claim made target ≡ Ok c → All (λ l. All (λ r. IsTrue (test r.left) × IsTrue (test r.right)) l.rows) (parts_of c)

-- one of the first generators, or one of the first lemmas, by these counts
abbrev pub IsWithin : ℕ → ℕ → CertFrom → Type 0
IsWithin generators lemmas (cert.Generator n) = (1 ≤ n) × (n ≤ generators)
IsWithin generators lemmas (cert.Lemma n) = (1 ≤ n) × (n ≤ lemmas)

abbrev pub NamesWithin : ℕ → ℕ → Lemma → Type 0
NamesWithin generators lemmas l = All (λ r. IsWithin generators lemmas r.from) l.rows

-- each lemma names only earlier lemmas, where so many are before the first one
abbrev pub NameEarlier : ℕ → ℕ → List Lemma → Type 0
NameEarlier generators before [] = ⊤
NameEarlier generators before (l ∷ lemmas) = NamesWithin generators before l × NameEarlier generators (suc before) lemmas

-- Where the records name only the first generators, so do lemmas and goal; and each lemma names earlier lemmas, and the goal
-- existing ones.
abbrev pub LemmasAreNamed : Type 0
LemmasAreNamed = (count claim : ℕ) (made : List Made) (target : Made) (c : LemmaCertificate) → AreRecords made → IsRecord (length made) target
    → All (NamesUpTo count) made → NamesUpTo count target → gathered_of claim made target ≡ Ok c
    → NameEarlier count 0 c.lemmas × NamesWithin count (length c.lemmas) c.goal
