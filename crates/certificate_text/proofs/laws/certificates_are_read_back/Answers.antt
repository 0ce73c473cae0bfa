use Rattle.certificate_text.proofs.ReadBack.{is_read_back}
use Rattle.certificate_text.proofs.laws.certificates_are_read_back.Goals as goal

pub returns : goal.returns
returns c = is_read_back
