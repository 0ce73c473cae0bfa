use Rattle.statement_names.proofs.Prelude.{All, sym, subst, weight_limit, statement}
use Rattle.statement_names.proofs.Each.{Each-at}
use Rattle.statement_names.proofs.Stated.{IsMapIn, AreListed, AreBetween, named_by, pairs_named, pairs_small, stated_at}
use Rattle.statement_names.proofs.order.read_order.Goals as goal

pub weights_of-requires : goal.weights_of-requires
weights_of-requires c =
    let ds = c.args.quiver.now in
    let stated =
    stated_at c.args.statements.now c.requires.sound ds c.requires.declared
    c.loop-statement.statement-index c.statement-item.result c.loop-statement-test.true c.statement-item.is
    (statement.Weight c.in-Weight.weights) c.in-Weight.is in
    let listed = subst (λ pairs. AreListed (IsMapIn ds) (named_by pairs) × AreBetween weight_limit pairs) (sym c.as_slice.ensures) stated in
    record { maps = pairs_named (IsMapIn ds) _ listed.0; small = pairs_small weight_limit _ listed.1 }

pub block_of-requires : goal.block_of-requires
block_of-requires c =
    let ds = c.args.quiver.now in
    let stated =
    stated_at c.args.statements.now c.requires.sound ds c.requires.declared
    c.loop-statement.statement-index c.statement-item.result c.loop-statement-test.true c.statement-item.is
    (statement.Eliminate c.in-Eliminate.names) c.in-Eliminate.is in
    subst (All (λ n. IsMapIn ds n.text)) (sym c.as_slice-in-Eliminate.ensures) (Each-at (λ n. IsMapIn ds n.text) c.in-Eliminate.names stated.named)
