use Rattle.certificate_text.proofs.ReadBack.{are_parts_read_back}
use Rattle.certificate_text.proofs.laws.parts_are_read_back.Goals as goal

pub returns : goal.returns
returns c = are_parts_read_back
