-- Evidence that is written is read back, whatever texts are before and after it.
use Rattle.certificate_text.proofs.Prelude.{List, IsTrue, list_all, Declaration, IsDeclared, Evidence, Format, IsReadBetween, AreReadInParts, AreReadBack, are_read_back, certificate_kind, other_words, HasCertificates, evidence_text, is_named, IsOfFormat, IsWritableEvidence, IsGood, IsWritten}
use Rattle.traced_rows.specs.declared.evidence.Evidence.TheVariants.{Plain, Lemmas}
use Rattle.traced_rows.specs.declared.evidence.Format.TheVariants as format
use Rattle.certificate_text.proofs.BlocksBack.{rows_written, plain_written}
use Rattle.certificate_text.proofs.LemmasBack.{lemmas_written, certificate_written}
use Rattle.certificate_text.proofs.Reader.{reader}

-- evidence by itself
pub evidence_written : (most : Format) (ds : List Declaration) (e : Evidence) → IsDeclared ds → IsTrue (list_all is_named ds) → IsOfFormat most e → IsWritableEvidence ds e
    → IsWritten (certificate_kind most ds) (evidence_text ds e) e
evidence_written most ds (Plain c) declared known form writable = plain_written ds c writable (rows_written ds declared known c writable) most
evidence_written format.Plain ds (Lemmas c) declared known form writable = absurd form
evidence_written format.Lemmas ds (Lemmas c) declared known form writable = certificate_written ds c writable (lemmas_written ds c declared known writable)

module _ (most : Format) (ds : List Declaration) (declared : IsDeclared ds) (known : IsTrue (list_all is_named ds)) where
  back : AreReadBack (HasCertificates most ds) (evidence_text ds) (IsGood most ds) other_words
  back = are_read_back (certificate_kind most ds) (evidence_text ds) (IsGood most ds) (reader most ds).words (λ e good. evidence_written most ds e declared known good.0 good.1)

  pub is_read_back : IsReadBetween (HasCertificates most ds) (evidence_text ds) (IsGood most ds)
  is_read_back = back.between

  pub are_parts_read_back : AreReadInParts (HasCertificates most ds) (evidence_text ds) (IsGood most ds) other_words
  are_parts_read_back = back.in_parts
