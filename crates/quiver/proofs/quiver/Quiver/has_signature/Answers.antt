use Rattle.quiver.proofs.Prelude.{sym, ◌∙◌, signature_from_path, path_from_signature, quiver_of}
use Rattle.quiver.proofs.SameSignature.{ends_from_equal, equal_from_ends}
use Rattle.quiver.proofs.quiver.Quiver.has_signature.Goals as goal

pub returns : goal.returns
returns c =
    let q = quiver_of c.args.self.now in
    let found = c.word_signature.result in
    let signature = c.args.signature in (
      λ yes. path_from_signature q signature.source.0 signature.target.0 c.args.word.now (sym c.word_signature.ensures.exact ∙ ends_from_equal found signature (sym c.eq.ensures ∙ yes)),
      λ path. c.eq.ensures ∙ equal_from_ends found signature (c.word_signature.ensures.exact ∙ signature_from_path q signature.source.0 signature.target.0 c.args.word.now path),
    )
