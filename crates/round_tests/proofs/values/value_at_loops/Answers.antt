use Rattle.round_tests.proofs.Prelude.{◌≡◌, [], ◌∷◌}
use Rattle.round_tests.proofs.Loops.{represents_loops, difference_typed}
use Rattle.round_tests.proofs.values.value_at_loops.Goals as goal

pub value_of-requires-clause-represented : goal.value_of-requires-clause-represented
value_of-requires-clause-represented g c =
    represents_loops (g.C.Preadditive.laws c.args.category.now) c.args.object c.requires.object_in c.args.a c.args.b c.requires.a_in c.requires.b_in
    _ c.loops_at-representation.result.objects c.loops_at-representation.result.arrows c.loops-quiver.ensures
    c.loops_at-representation.ensures.objects c.loops_at-representation.ensures.arrows

pub value_of-requires-clause-typed : goal.value_of-requires-clause-typed
value_of-requires-clause-typed g c = difference_typed _ c.difference-poly.result.terms c.loops-quiver.ensures c.difference-poly.ensures
