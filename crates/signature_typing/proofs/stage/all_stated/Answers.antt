use Rattle.signature_typing.proofs.Prelude.{arith, equations_of, claims_in, made_of, wrong_in}
use Rattle.signature_typing.proofs.Progress.{one_more_statement}
use Rattle.signature_typing.proofs.stage.all_stated.Goals as goal

pub loop-statement-preserved : goal.loop-statement-preserved
loop-statement-preserved g c =
    let made = g.S.Stage.made c.args.stage.now in
    let ds = c.args.quiver.now in
    one_more_statement (λ s. made_of made ds (equations_of ds s)) (λ s. made_of made ds (claims_in s.kind)) (wrong_in made ds) c.args.statements.now
    c.loop-statement.statement-index _ _ _ _ c.statement-item.result (omega arith) c.statement-item.is c.in_ok-push_statement.ensures.assumptions
    c.in_ok-push_statement.ensures.claims c.in_ok-push_statement.ensures.fits c.loop-statement.invariant
