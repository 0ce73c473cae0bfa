use Rattle.confluence.proofs.PlaceLaws.{rows_apart_differ}
use Rattle.confluence.proofs.laws.rows_apart_differ.Goals as goal

pub returns : goal.returns
returns c = rows_apart_differ
