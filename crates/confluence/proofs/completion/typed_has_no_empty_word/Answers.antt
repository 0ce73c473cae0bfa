use Rattle.confluence.proofs.TypedLaws.{typed_has_no_empty_word}
use Rattle.confluence.proofs.completion.typed_has_no_empty_word.Goals as goal

pub returns : goal.returns
returns c = typed_has_no_empty_word
