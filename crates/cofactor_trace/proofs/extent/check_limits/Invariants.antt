use Rattle.cofactor_trace.proofs.Prelude.{◌≡◌, drop, extended_all, no_extent, records}
use Rattle.cofactor_trace.proofs.extent.check_limits.Given as goal

abbrev pub invariant-loop-lemma : goal.invariant-loop-lemma
invariant-loop-lemma l = extended_all l.extent (records (drop l.lemma-index l.lemmas)) ≡ extended_all no_extent (records l.lemmas)
