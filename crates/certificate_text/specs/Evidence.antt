-- Evidence text: the certificates of bytes, or their first fault.
use Rattle.std.specs.Prelude.{◌≤◌, ℕ, ◌+◌, List, [], ◌∷◌, length, codes}
use Rattle.std.specs.List.{All, flat_map}
use Rattle.coef_int.specs.Range.{IsCoefficient}
use Rattle.word_core.specs.Letters.{IsOver}
use Rattle.quiver.specs.Declarations.{Declaration, letter_count}
use Rattle.traced_rows.specs.declared.certificate.CertRow.{CertRow}
use Rattle.traced_rows.specs.declared.certificate.Certificate.{Certificate}
use Rattle.traced_rows.specs.declared.evidence.LemmaRow.{LemmaRow}
use Rattle.traced_rows.specs.declared.evidence.Lemma.{Lemma}
use Rattle.traced_rows.specs.declared.evidence.LemmaCertificate.{LemmaCertificate}
use Rattle.traced_rows.specs.declared.evidence.Evidence.{Evidence}
use Rattle.traced_rows.specs.declared.evidence.Evidence.TheVariants as block
use Rattle.traced_rows.specs.declared.evidence.Format.{Format}
use Rattle.block_text.specs.Fault.{Fault}
use Rattle.block_text.specs.Kind.{Kind, kind_of}
use Rattle.block_text.specs.Texts as texts
use Rattle.block_text.specs.Texts.{HasBlocks, IsBlocks}
use Rattle.certificate_text.specs.Blocks.{certificate_lines, IsBlock}
use Rattle.certificate_text.specs.Bounds.{bounds, flaw_of, KeepsOne, IsCertificateOf}
use Rattle.cofactor_trace.specs.Limits.{row_limit}

-- blocks of these kinds aren't read
abbrev pub other_words : List (List ℕ)
other_words = codes "model" ∷ codes "basis" ∷ []

-- Certificates of this format and of the earlier ones are a kind of block.
abbrev pub certificate_kind : Format → List Declaration → Kind Evidence
certificate_kind most ds = kind_of certificate_lines (IsBlock most) other_words bounds flaw_of (KeepsOne ds) (IsCertificateOf ds)

-- The bytes are UTF-8, their lines are blocks within all bounds, and these are the certificates among them.
abbrev pub HasCertificates : Format → List Declaration → List ℕ → List Evidence → Type 0
HasCertificates most ds = HasBlocks (certificate_kind most ds)

-- There is at least one.
abbrev pub IsEvidence : Format → List Declaration → List ℕ → List Evidence → Type 0
IsEvidence most ds = IsBlocks (certificate_kind most ds)

-- the first fault of the bytes
abbrev pub IsFirstFault : Format → List Declaration → List ℕ → Fault → Type 0
IsFirstFault most ds = texts.IsFirstFault (certificate_kind most ds)

-- the letters of both words are letters of the quiver
pub record IsRowOver (ds : List Declaration) (row : CertRow) : Type 0 where
  pub left : IsOver (letter_count ds) row.left
  pub right : IsOver (letter_count ds) row.right

-- the same of a row over a generator or a lemma
pub record IsLemmaRowOver (ds : List Declaration) (row : LemmaRow) : Type 0 where
  pub left : IsOver (letter_count ds) row.left
  pub right : IsOver (letter_count ds) row.right

pub record IsCheckable (ds : List Declaration) (certificate : Certificate) : Type 0 where
  pub few : length certificate.rows ≤ row_limit
  pub denominator : IsCoefficient certificate.denominator
  pub coefficients : All (λ row. IsCoefficient row.coef) certificate.rows
  pub letters : All (IsRowOver ds) certificate.rows

-- the scale and the coefficients of a lemma or of the goal are in range, and its letters are letters of the quiver
pub record IsCheckableLemma (ds : List Declaration) (l : Lemma) : Type 0 where
  pub scale : IsCoefficient l.scale
  pub coefficients : All (λ row. IsCoefficient row.coef) l.rows
  pub letters : All (IsLemmaRowOver ds) l.rows

pub record IsCheckableByLemmas (ds : List Declaration) (c : LemmaCertificate) : Type 0 where
  pub few_lemmas : length c.lemmas ≤ row_limit
  pub few_rows : length (flat_map (λ l. l.rows) c.lemmas) + length c.goal.rows ≤ row_limit
  pub denominator : IsCoefficient c.denominator
  pub lemmas : All (IsCheckableLemma ds) c.lemmas
  pub goal : IsCheckableLemma ds c.goal

abbrev pub IsCheckableEvidence : List Declaration → Evidence → Type 0
IsCheckableEvidence ds (block.Plain c) = IsCheckable ds c
IsCheckableEvidence ds (block.Lemmas c) = IsCheckableByLemmas ds c
