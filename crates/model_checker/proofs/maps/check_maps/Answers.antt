use Rattle.model_checker.proofs.Prelude.{arith, rules, letters-quiver_of}
use Rattle.model_checker.proofs.maps.check_maps.Goals as goal

pub check_map-requires-clause-map : goal.check_map-requires-clause-map
check_map-requires-clause-map c = record {
  map = search rules;
  letter = omega (arith, c.loop-number-test.true, c.letters-number-end.ensures.count, letters-quiver_of c.args.quiver.now);
  declared = search rules;
}

pub returns-clause-fitting : goal.returns-clause-fitting
returns-clause-fitting c = record {
  each = λ a letter map. c.loop-number.invariant.each a
      (omega (arith, letter, c.loop-number-test.false, c.letters-number-end.ensures.count, letters-quiver_of c.args.quiver.now)) map;
}
