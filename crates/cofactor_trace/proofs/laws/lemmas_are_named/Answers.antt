use Rattle.cofactor_trace.proofs.LemmaNames.{lemmas_are_named}
use Rattle.cofactor_trace.proofs.laws.lemmas_are_named.Goals as goal

pub returns : goal.returns
returns c = lemmas_are_named
