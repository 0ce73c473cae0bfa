use Rattle.cancellation_text.proofs.BlocksBack.{back}
use Rattle.cancellation_text.proofs.laws.parts_are_read_back.Goals as goal

pub returns : goal.returns
returns c ds declared known = (back ds declared known).in_parts
