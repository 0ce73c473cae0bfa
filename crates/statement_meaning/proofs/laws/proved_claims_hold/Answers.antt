use Rattle.statement_meaning.proofs.Meanings.{proved_claims_hold}
use Rattle.statement_meaning.proofs.laws.proved_claims_hold.Goals as goal

pub returns : goal.returns
returns g c = proved_claims_hold (g.C.Preadditive.laws c.args.category.now)
