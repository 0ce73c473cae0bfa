use Rattle.statement_names.proofs.Prelude.{◌≤◌, arith, sym, subst, shape_side_limit, statement, value_of}
use Rattle.statement_names.proofs.Stated.{IsObjectIn, AreListed, AreBetween, named_by, pairs_named, pairs_small, pairs_once, modulus_small, stated_at}
use Rattle.statement_names.proofs.shapes.read_shapes.Goals as goal

pub sides_of-requires : goal.sides_of-requires
sides_of-requires c =
    let ds = c.args.quiver.now in
    let stated =
    stated_at c.args.statements.now c.requires.sound ds c.requires.declared
    c.loop-statement.statement-index c.statement-item.result c.loop-statement-test.true c.statement-item.is
    (statement.Shape c.in-Shape.modulus c.in-Shape.sides) c.in-Shape.is in
    let listed = subst (λ pairs. AreListed (IsObjectIn ds) (named_by pairs) × AreBetween shape_side_limit pairs) (sym c.as_slice.ensures) stated.1 in
    record { objects = pairs_named (IsObjectIn ds) _ listed.0; small = pairs_small shape_side_limit _ listed.1; once = pairs_once _ listed.0.once }

pub overflow_cast-modulus : goal.overflow_cast-modulus
overflow_cast-modulus c =
    let stated =
    stated_at c.args.statements.now c.requires.sound c.args.quiver.now c.requires.declared
    c.loop-statement.statement-index c.statement-item.result c.loop-statement-test.true c.statement-item.is
    (statement.Shape c.in-Shape.modulus c.in-Shape.sides) c.in-Shape.is in
    let small : value_of c.in-Shape.modulus.value ≤ 65537 = modulus_small (value_of c.in-Shape.modulus.value) stated.0 in
    omega (arith, c.value_of-modulus.ensures)
