use Rattle.statement_syntax.proofs.Prelude.{Ok, subst, sym, ap, ◌∙◌, language_of, Hands}
use Rattle.statement_syntax.proofs.Streamed.{FrontRead, begins, goes_further, ends, faulted}
use Rattle.statement_syntax.proofs.read.statements.Goals as goal

pub loop-token-init : goal.loop-token-init
loop-token-init c =
    subst (λ language. FrontRead c.args.text.now c.opening.new.scanner language c.opened-read.result)
    (sym (c.language_of-language.ensures ∙ ap language_of c.deref.ensures.value))
    (begins c.args.text.now c.new-scanner.result c.opening.new.scanner c.in_ok-opening.opening.items c.opened-read.result c.new-scanner.ensures
    c.in_ok-opening.ensures.found c.opened-read.ensures)

pub loop-token-preserved : goal.loop-token-preserved
loop-token-preserved c =
    goes_further c.args.text.now c.loop-token.scanner c.next.new.self c.language_of-language.result c.in-Ok-Some.token c.loop-token.read c.go_on.new.read
    c.loop-token.invariant
    (λ before same. subst (λ o. Hands before c.loop-token.scanner (Ok o) c.next.new.self) c.in-Ok-Some.field-0-is (c.in-Ok-Some.ensures.hands before same))
    c.go_on.ensures

pub returns-in-Err : goal.returns-in-Err
returns-in-Err c =
    faulted c.args.text.now c.loop-token.scanner c.next.new.self c.language_of-language.result c.loop-token.read c.in-Err.error c.from.result
    c.loop-token.invariant c.in-Err.ensures.hands c.from.ensures

pub returns-in-Ok-None : goal.returns-in-Ok-None
returns-in-Ok-None c =
    ends c.args.text.now c.loop-token.scanner c.next.new.self c.language_of-language.result c.loop-token.read c.statements_of.result c.loop-token.invariant
    (λ before same. subst (λ o. Hands before c.loop-token.scanner (Ok o) c.next.new.self) c.in-Ok-None.field-0-is (c.in-Ok-None.ensures.hands before same))
    c.statements_of.ensures
