use Rattle.rule_index.proofs.Prelude.{refl, letter_bucket_of}
use Rattle.rule_index.proofs.chains.letter_bucket.Goals as goal

pub returns-clause-is : goal.returns-clause-is
unfolding letter_bucket_of
returns-clause-is c = refl
