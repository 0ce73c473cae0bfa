use Rattle.statement_syntax.proofs.Prelude.{rules, refl, NotUtf8, not_utf8}
use Rattle.statement_syntax.proofs.read.characters_of.Goals as goal

pub returns-in-Err : goal.returns-in-Err
returns-in-Err c = rw c.fault_at.ensures (NotUtf8, refl, not_utf8 refl (search rules) (search rules))
