use Rattle.signature_typing.proofs.Prelude.{map, arith}
use Rattle.signature_typing.proofs.Progress.{one_more, said_more}
use Rattle.signature_typing.proofs.stage.push_equations.Goals as goal

pub loop-equation-preserved : goal.loop-equation-preserved
loop-equation-preserved g c =
    let made = g.S.Stage.made c.args.stage.now in
    let said = g.S.Stage.said c.args.stage.now in
    one_more (made.values c.args.quiver.now) (made.fault c.args.quiver.now c.args.at) c.args.equations.now c.loop-equation.equation-index
    (map said c.args.values.now) (map said c.loop-equation.values) (map said c.push.new.self) c.equation-item.result (omega arith) c.equation-item.is
    (said_more said _ _ _ _ c.in_ok-push.ensures.ok c.in_ok-value.ensures.ok)
    c.in_ok-value.ensures.fits c.loop-equation.invariant
