use Rattle.cofactor_trace.proofs.GatheredParts.{words_are_kept}
use Rattle.cofactor_trace.proofs.laws.words_are_kept.Goals as goal

pub returns : goal.returns
returns c = words_are_kept
