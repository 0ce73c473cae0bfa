use Rattle.cofactor_trace.proofs.GatheredParts.{lemmas_have_rows}
use Rattle.cofactor_trace.proofs.laws.lemmas_have_rows.Goals as goal

pub returns : goal.returns
returns c = lemmas_have_rows
