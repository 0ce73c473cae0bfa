-- Rows over generators and lemmas, their sum, and what a certificate with lemmas says.
use Rattle.std.specs.Prelude.{◌<ℤ◌, ℤ, pos, List, [], ◌∷◌, ◌++◌, ⊤}
use Rattle.std.specs.List.{All}
use Rattle.std.specs.Int.{◌∣◌}
use Rattle.std.specs.Int.RustNames.{unsigned_abs}
use Rattle.definitions.specs.Poly.{Poly, SamePolynomial, poly_sum, poly_multiple, poly_between}
use Rattle.definitions.specs.Combination.{generator_at}
use Rattle.traced_rows.specs.declared.evidence.CertFrom.{CertFrom}
use Rattle.traced_rows.specs.declared.evidence.CertFrom.TheVariants as cert
use Rattle.traced_rows.specs.declared.evidence.LemmaRow.{LemmaRow}
use Rattle.traced_rows.specs.declared.evidence.Lemma.{Lemma}
use Rattle.traced_rows.specs.declared.evidence.LemmaCertificate.{LemmaCertificate}
use Rattle.traced_rows.specs.declared.evidence.Evidence.{Evidence}
use Rattle.traced_rows.specs.declared.evidence.Evidence.TheVariants as format

-- the generator or the lemma, or the zero polynomial where there is none with the number
abbrev pub cert_poly : List Poly → List Poly → CertFrom → Poly
cert_poly generators lemmas (cert.Generator n) = generator_at generators n
cert_poly generators lemmas (cert.Lemma n) = generator_at lemmas n

-- c l G r as a polynomial
abbrev pub lemma_row_poly : List Poly → List Poly → LemmaRow → Poly
lemma_row_poly generators lemmas r = poly_multiple r.coef (poly_between r.left (cert_poly generators lemmas r.from) r.right)

-- the sum of the rows
abbrev pub lemma_sum : List Poly → List Poly → List LemmaRow → Poly
lemma_sum generators lemmas [] = []
lemma_sum generators lemmas (r ∷ rows) = poly_sum (lemma_row_poly generators lemmas r) (lemma_sum generators lemmas rows)

-- The rows, over the generators and the lemmas with these polynomials, add up to the scale times the polynomial.
abbrev pub AddsUpTo : List Poly → List Poly → Lemma → Poly → Type 0
AddsUpTo generators lemmas l p = SamePolynomial (lemma_sum generators lemmas l.rows) (poly_multiple l.scale p)

-- The polynomials are those of the lemmas: each lemma's rows add up over the generators and the lemmas before it.
abbrev pub AreOfLemmas : List Poly → List Poly → List Lemma → List Poly → Type 0
AreOfLemmas generators before [] [] = ⊤
AreOfLemmas generators before [] (p ∷ ps) = ⊥
AreOfLemmas generators before (l ∷ lemmas) [] = ⊥
AreOfLemmas generators before (l ∷ lemmas) (p ∷ ps) = AddsUpTo generators before l p × AreOfLemmas generators (before ++ p ∷ []) lemmas ps

-- the scale is positive and divides the integer
abbrev pub IsShareOf : ℤ → Lemma → Type 0
IsShareOf d l = (pos 0 <ℤ l.scale) × (unsigned_abs l.scale ∣ unsigned_abs d)

-- The certificate is evidence of p, with these polynomials of its lemmas: lemmas and goal add up, and each scale is positive and
-- divides the denominator, which is positive.
pub record IsEvidenceOf (generators : List Poly) (lemmas : List Poly) (c : LemmaCertificate) (p : Poly) : Type 0 where
  pub positive : pos 0 <ℤ c.denominator
  pub shares : All (IsShareOf c.denominator) (c.lemmas ++ c.goal ∷ [])
  pub lemmas_add_up : AreOfLemmas generators [] c.lemmas lemmas
  pub goal_adds_up : AddsUpTo generators lemmas c.goal p

-- the denominator of evidence
abbrev pub denominator_of : Evidence → ℤ
denominator_of (format.Plain c) = c.denominator
denominator_of (format.Lemmas c) = c.denominator
