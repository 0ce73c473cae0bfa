use Rattle.command_runs.proofs.SharpRuns as lemma
use Rattle.command_runs.proofs.closed_bases.printed_bases_are_sharp.Goals as goal

pub returns-clause-told : goal.returns-clause-told
returns-clause-told c = lemma.printed_bases_are_sharp

pub returns-clause-mean : goal.returns-clause-mean
returns-clause-mean c = lemma.printed_bases_mean_sharp

pub returns-clause-mean_starred : goal.returns-clause-mean_starred
returns-clause-mean_starred c = lemma.printed_bases_mean_star_sharp
