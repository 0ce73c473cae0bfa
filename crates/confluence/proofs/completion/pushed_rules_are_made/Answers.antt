use Rattle.confluence.proofs.MakingLaws.{pushed_rules_are_made}
use Rattle.confluence.proofs.completion.pushed_rules_are_made.Goals as goal

pub returns : goal.returns
returns c = pushed_rules_are_made
