use Rattle.statement_tokens.proofs.TokenLaws as lemma
use Rattle.statement_tokens.proofs.laws.tokens_and_faults_are_unique.Goals as goal

pub returns-clause-tokens : goal.returns-clause-tokens
returns-clause-tokens c = lemma.tokens_are_unique

pub returns-clause-faults : goal.returns-clause-faults
returns-clause-faults c = lemma.first_scan_faults_are_unique

pub returns-clause-apart : goal.returns-clause-apart
returns-clause-apart c = lemma.tokens_have_no_fault
