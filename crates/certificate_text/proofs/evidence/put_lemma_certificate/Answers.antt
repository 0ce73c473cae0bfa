use Rattle.certificate_text.proofs.Prelude.{sym, subst, All, IsLemmaOver}
use Rattle.certificate_text.proofs.evidence.put_lemma_certificate.Goals as goal

pub put_lemmas-requires : goal.put_lemmas-requires
put_lemmas-requires c = subst (All (IsLemmaOver c.args.quiver.now)) (sym c.as_slice.ensures) c.requires.lemmas
