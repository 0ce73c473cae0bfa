use Rattle.cancellation_text.proofs.Reader.{told}
use Rattle.cancellation_text.proofs.laws.each_text_is_told.Goals as goal

pub returns : goal.returns
returns c ds = told ds
