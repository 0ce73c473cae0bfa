use Rattle.report_readback.proofs.Declared.{declared_names_are_names}
use Rattle.report_readback.proofs.name_laws.declared_names_are_names.Goals as goal

pub returns : goal.returns
returns c = declared_names_are_names
