use Rattle.certificate_text.proofs.Prelude.{◌≡◌, ◌++◌, map, length, All, into_iter_items, into_iter_len, IsPlain}
use Rattle.traced_rows.specs.declared.evidence.Evidence.TheVariants as block
use Rattle.certificate_text.proofs.read.plain_certificates.Given as goal

-- those that were taken are the certificates so far, and those that are left are of format 1
abbrev pub invariant-loop-block : goal.invariant-loop-block
invariant-loop-block l = record {
  plain : All IsPlain (into_iter_items l.block-iterator);
  left : into_iter_len l.block-iterator ≡ length (into_iter_items l.block-iterator);
  same : map block.Plain l.certificates ++ into_iter_items l.block-iterator ≡ l.fn.blocks;
}
