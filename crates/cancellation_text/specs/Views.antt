-- The program's values as the definitions see them.
use Rattle.cancellation_text.specs.declared.line.CalledTokens as code_called
use Rattle.cancellation_text.specs.declared.line.CancelTokens as code_cancel
use Rattle.cancellation_text.specs.Blocks.{CalledTokens, CancelTokens}

abbrev pub called_now : code_called.CalledTokens → CalledTokens
called_now c = record { side = c.side; letter = c.letter.now }

abbrev pub cancel_now : code_cancel.CancelTokens → CancelTokens
cancel_now c = record { number = c.number.now; letter = c.letter.now; side = c.side; item = c.item.now }
