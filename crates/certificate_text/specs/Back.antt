-- Evidence that is written is read back, whatever texts are before and after it.
use Rattle.std.specs.Prelude.{◌≡◌, ◌<◌, ◌≤◌, ◌^◌, ⊤, ℕ, ℤ, pos, List, length, IsTrue}
use Rattle.std.specs.List.{All, list_all}
use Rattle.coef_int.specs.Range.{IsCoefficient}
use Rattle.quiver.specs.Declarations.{Declaration, IsDeclared}
use Rattle.traced_rows.specs.declared.certificate.CertRow.{CertRow}
use Rattle.traced_rows.specs.declared.certificate.Certificate.{Certificate}
use Rattle.traced_rows.specs.declared.evidence.CertFrom.{CertFrom}
use Rattle.traced_rows.specs.declared.evidence.CertFrom.TheVariants.{Generator, Lemma as Derived}
use Rattle.traced_rows.specs.declared.evidence.LemmaRow.{LemmaRow}
use Rattle.traced_rows.specs.declared.evidence.Lemma.{Lemma}
use Rattle.traced_rows.specs.declared.evidence.LemmaCertificate.{LemmaCertificate}
use Rattle.traced_rows.specs.declared.evidence.Evidence.{Evidence}
use Rattle.traced_rows.specs.declared.evidence.Evidence.TheVariants as evidence
use Rattle.traced_rows.specs.declared.evidence.Format.{Format}
use Rattle.traced_rows.specs.declared.evidence.Format.TheVariants as format
use Rattle.cofactor_trace.specs.Expansion.{letter_count}
use Rattle.cofactor_trace.specs.Lemmas.{row_count, letter_count as letters_of_lemmas}
use Rattle.cofactor_trace.specs.GatheringLaws.{parts_of}
use Rattle.block_text.specs.Back as blocks
use Rattle.block_text.specs.Back.{values_in, is_named}
use Rattle.block_text.specs.Laws.{IsReadBetween, AreReadInParts}
use Rattle.certificate_text.specs.Evidence.{other_words, IsRowOver, IsLemmaRowOver, HasCertificates}
use Rattle.certificate_text.specs.Written.{evidence_text}
use Rattle.nc_polynomial.specs.Limits.{word_limit}
use Rattle.cofactor_trace.specs.Limits.{row_limit, letter_limit}

-- a scale or a denominator: it is not negative, and within the limit
pub record IsWritableInteger (n : ℤ) : Type 0 where
  pub size : ℕ
  pub is : n ≡ pos size
  pub in_range : size < 2 ^ 127

pub record IsWritableRow (ds : List Declaration) (row : CertRow) : Type 0 where
  pub coefficient : IsCoefficient row.coef
  pub generator : row.generator < 2 ^ 32
  pub letters : IsRowOver ds row
  pub short_left : length row.left ≤ word_limit
  pub short_right : length row.right ≤ word_limit

pub record IsWritable (ds : List Declaration) (c : Certificate) : Type 0 where
  pub claim : c.claim < 2 ^ 32
  pub denominator : IsWritableInteger c.denominator
  pub rows : All (IsWritableRow ds) c.rows
  pub few : length c.rows ≤ row_limit
  pub letters : letter_count c.rows ≤ letter_limit

-- the number of the generator or of the lemma
abbrev pub number_of : CertFrom → ℕ
number_of (Generator n) = n
number_of (Derived n) = n

pub record IsWritableLemmaRow (ds : List Declaration) (row : LemmaRow) : Type 0 where
  pub coefficient : IsCoefficient row.coef
  pub number : number_of row.from < 2 ^ 32
  pub letters : IsLemmaRowOver ds row
  pub short_left : length row.left ≤ word_limit
  pub short_right : length row.right ≤ word_limit

pub record IsWritableLemma (ds : List Declaration) (l : Lemma) : Type 0 where
  pub scale : IsWritableInteger l.scale
  pub rows : All (IsWritableLemmaRow ds) l.rows

-- the rows and the letters of the lemmas and of the goal are counted together
pub record IsWritableByLemmas (ds : List Declaration) (c : LemmaCertificate) : Type 0 where
  pub claim : c.claim < 2 ^ 32
  pub denominator : IsWritableInteger c.denominator
  pub lemmas : All (IsWritableLemma ds) c.lemmas
  pub goal : IsWritableLemma ds c.goal
  pub few_lemmas : length c.lemmas ≤ row_limit
  pub few_rows : row_count (parts_of c) ≤ row_limit
  pub letters : letters_of_lemmas (parts_of c) ≤ letter_limit

abbrev pub IsWritableEvidence : List Declaration → Evidence → Type 0
IsWritableEvidence ds (evidence.Plain c) = IsWritable ds c
IsWritableEvidence ds (evidence.Lemmas c) = IsWritableByLemmas ds c

-- it is of this format or of an earlier one
abbrev pub IsOfFormat : Format → Evidence → Type 0
IsOfFormat most (evidence.Plain c) = ⊤
IsOfFormat format.Plain (evidence.Lemmas c) = ⊥
IsOfFormat format.Lemmas (evidence.Lemmas c) = ⊤

-- evidence of the format within the limits
abbrev pub IsGood : Format → List Declaration → Evidence → Type 0
IsGood most ds e = IsOfFormat most e × IsWritableEvidence ds e

-- Evidence that is written between whole lines and other lines is read as it is, after the certificates of the lines
-- before it and before those of the lines after it.
abbrev pub IsReadBack : Type 0
IsReadBack = (most : Format) (ds : List Declaration) → IsDeclared ds → IsTrue (list_all is_named ds)
    → IsReadBetween (HasCertificates most ds) (evidence_text ds) (IsGood most ds)

-- a certificate, a comment without its # and LF, or a block of another kind by its first line and those before `end`
abbrev pub Part : Type 0
Part = blocks.Part Evidence

abbrev pub part_text : List Declaration → Part → List ℕ
part_text ds p = blocks.part_text (evidence_text ds) p

abbrev pub IsPart : Format → List Declaration → Part → Type 0
IsPart most ds p = blocks.IsPart other_words (IsGood most ds) p

-- the certificates among the parts
abbrev pub evidence_in : List Part → List Evidence
evidence_in parts = values_in parts

-- The certificates of a text of such parts are those among the parts, in their order.
abbrev pub ArePartsReadBack : Type 0
ArePartsReadBack = (most : Format) (ds : List Declaration) → IsDeclared ds → IsTrue (list_all is_named ds)
    → AreReadInParts (HasCertificates most ds) (evidence_text ds) (IsGood most ds) other_words
