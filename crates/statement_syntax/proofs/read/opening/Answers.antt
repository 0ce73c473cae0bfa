use Rattle.statement_syntax.proofs.Prelude.{◌≡◌, ◌∷◌, ◌++◌, [], Ok, subst, rules, arith, inl, Hands, TellsScan, IsWantOfMemory, LeavesFault}
use Rattle.statement_syntax.proofs.Streamed.{none_read, front_left, opening_more, opening_all, opening_fault, memory_left, if_err}
use Rattle.statement_syntax.proofs.read.opening.Goals as goal

pub loop-init : goal.loop-init
loop-init c = rw c.new-tokens.ensures.items (none_read c.args.scanner.now)

pub loop-preserved : goal.loop-preserved
loop-preserved c =
    let put : c.push.new.self.items ≡ c.loop.tokens.items ++ c.in-Some.token ∷ [] = search rules in
    rw put (opening_more c.args.scanner.now c.loop.scanner c.next.new.self c.loop.tokens.items c.loop.counter c.loop-test.true c.loop.invariant c.in-Some.token
    (λ before same. subst (λ o. Hands before c.loop.scanner (Ok o) c.next.new.self) c.in-Some.is (c.in_ok-token.ensures.hands before same)))

pub returns-clause-found : goal.returns-clause-found
returns-clause-found c = (
  front_left c.args.scanner.now c.loop.scanner c.loop.tokens.items c.loop.invariant.same,
  inl (omega (arith, c.loop.invariant.count, c.loop.auto.counter-end, c.loop-test.false)),
)

pub returns-in_default-clause-found : goal.returns-in_default-clause-found
returns-in_default-clause-found c =
    opening_all c.args.scanner.now c.loop.scanner c.next.new.self c.loop.tokens.items c.loop.counter c.loop-test.true c.loop.invariant
    (λ before same. subst (λ o. Hands before c.loop.scanner (Ok o) c.next.new.self) c.in_default.is (c.in_ok-token.ensures.hands before same))

pub returns-in_err-token-clause-fault : goal.returns-in_err-token-clause-fault
returns-in_err-token-clause-fault c =
    if_err c.from_residual.result (TellsScan c.in_err-token.field-0.0) (LeavesFault c.args.scanner.now) c.from_residual.ensures.1
    (λ e tells. opening_fault c.args.scanner.now c.loop.scanner c.next.new.self c.loop.tokens.items c.loop.counter c.loop-test.true c.loop.invariant
    c.in_err-token.field-0.0 e c.in_err-token.ensures.hands tells)

pub returns-in_err-push-clause-fault : goal.returns-in_err-push-clause-fault
returns-in_err-push-clause-fault c =
    if_err c.from_residual-in_err-push.result IsWantOfMemory (LeavesFault c.args.scanner.now) c.from_residual-in_err-push.ensures.1
    (memory_left c.args.scanner.now)
