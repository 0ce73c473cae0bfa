use Rattle.block_text.proofs.Prelude.{sym, ◌∙◌, begins, tokens_of}
use Rattle.block_text.proofs.Heads.{any_mapped}
use Rattle.block_text.proofs.read.is_other_head.Goals as goal

pub returns : goal.returns
returns c = c.begins_one_of.ensures ∙ sym (any_mapped (λ word. begins word (tokens_of c.args.line.now)) (λ word. word.now) c.args.words.now)
