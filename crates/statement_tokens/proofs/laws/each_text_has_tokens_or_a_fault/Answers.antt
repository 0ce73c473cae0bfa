use Rattle.statement_tokens.proofs.TokenLaws as lemma
use Rattle.statement_tokens.proofs.laws.each_text_has_tokens_or_a_fault.Goals as goal

pub returns : goal.returns
returns c = lemma.each_text_has_tokens_or_fault
