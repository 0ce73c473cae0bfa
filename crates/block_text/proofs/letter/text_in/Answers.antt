use Rattle.block_text.proofs.Prelude.{false_from_ne_true, IsUtf8-from_is_utf8, is_utf8-from_IsUtf8}
use Rattle.block_text.proofs.letter.text_in.Goals as goal

pub returns-in-Ok : goal.returns-in-Ok
returns-in-Ok c = (is_utf8-from_IsUtf8 c.args.bytes.now c.in-Ok.ensures.cases.1, c.in-Ok.ensures.cases.0)

pub returns-in-Err : goal.returns-in-Err
returns-in-Err c = false_from_ne_true _ (λ yes. c.in-Err.ensures.cases.0 (IsUtf8-from_is_utf8 c.args.bytes.now yes))
