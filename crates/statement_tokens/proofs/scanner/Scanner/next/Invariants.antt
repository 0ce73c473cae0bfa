use Rattle.statement_tokens.proofs.Prelude.{◌≡◌, ◌≤◌, List, length, language_of, most_tokens}
use Rattle.statement_tokens.specs.declared.token.Token as code_token
use Rattle.statement_tokens.proofs.Reading.{unread}
use Rattle.statement_tokens.proofs.scanner.Scanner.next.Given as goal

abbrev pub invariant-loop-self : goal.invariant-loop-self
invariant-loop-self l = record {
  same : (before : List code_token.Token) → language_of before ≡ l.language → unread before l.fn.self ≡ unread before l.self;
  fewer : most_tokens l.self ≤ most_tokens l.fn.self;
}

abbrev pub decreases-loop-self : goal.decreases-loop-self
decreases-loop-self l = length l.self.text.now
