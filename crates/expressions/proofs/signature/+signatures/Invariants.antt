use Rattle.expressions.proofs.Prelude.{◌≡◌, ◌≢◌, length, drop, Ok, None, IfOk, object_count, ◌>>=◌, HasObjects, sum_from}
use Rattle.expressions.specs.Signatures.{product_from}
use Rattle.expressions.proofs.Trees.{each, factor_part, term_part}
use Rattle.expressions.proofs.signature.+signatures.Given as goal

abbrev pub invariant-sum_signature-loop-term : goal.invariant-sum_signature-loop-term
invariant-sum_signature-loop-term l = record {
  rest : (each (term_part l.quiver) (drop l.term-index l.term-items) >>= sum_from l.signature) ≡ (each (term_part l.quiver) l.term-items >>= sum_from (Ok None));
  in_range : IfOk l.signature (HasObjects (object_count l.quiver));
}

abbrev pub invariant-term_signature-loop-factor : goal.invariant-term_signature-loop-factor
invariant-term_signature-loop-factor l = record {
  rest : (each (factor_part l.quiver) (drop l.factor-index l.factors) >>= product_from l.signature) ≡ (each (factor_part l.quiver) l.factors >>= product_from (Ok None));
  in_range : IfOk l.signature (HasObjects (object_count l.quiver));
  several : length l.factors ≢ 1;
}
