use Rattle.statement_tokens.proofs.scanner.Scanner.new.Goals as goal

pub returns : goal.returns
returns c read left = left
