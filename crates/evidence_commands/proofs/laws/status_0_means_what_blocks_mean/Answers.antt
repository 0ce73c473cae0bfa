use Rattle.evidence_commands.proofs.Prelude.{judged_by}
use Rattle.evidence_commands.proofs.Owed as owed
use Rattle.evidence_commands.proofs.EachCommand.{are_judged}
use Rattle.evidence_commands.proofs.laws.status_0_means_what_blocks_mean.Goals as goal

pub returns : goal.returns
returns g c = λ command. owed.zero_means (judged_by command).kind (are_judged command) (g.C.Preadditive.structure c.args.category.now)
