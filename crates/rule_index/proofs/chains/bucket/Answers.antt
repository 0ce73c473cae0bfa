use Rattle.rule_index.proofs.Prelude.{refl, bucket_of}
use Rattle.rule_index.proofs.chains.bucket.Goals as goal

pub returns-clause-is : goal.returns-clause-is
unfolding bucket_of
returns-clause-is c = refl
