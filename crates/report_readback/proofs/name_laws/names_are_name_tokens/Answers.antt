use Rattle.report_readback.proofs.Tokens.{names_are_name_tokens}
use Rattle.report_readback.proofs.name_laws.names_are_name_tokens.Goals as goal

pub returns : goal.returns
returns c = names_are_name_tokens
