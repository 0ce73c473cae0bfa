use Rattle.normal_category.proofs.Prelude.{◌≡◌, arith, get_or, slice_get, Some, slice_get-get_or, numbers, is_in_play, PlaysIn}
use Rattle.normal_category.proofs.PassedRules.{stopped, passed_on, all_passed, plays_from_test, test_from_plays}
use Rattle.normal_category.proofs.passes.first_out_of_play.Goals as goal

pub returns-then-not-has_letters_in_play-clause-found : goal.returns-then-not-has_letters_in_play-clause-found
returns-then-not-has_letters_in_play-clause-found c =
    let p = c.args.parts.now in
    let rules = c.args.rules.now in
    let place = c.loop-place.place in
    let rule = get_or rules place c.index-rules-place.result in
    let here : slice_get rules place ≡ Some rule = slice_get-get_or rules place c.index-rules-place.result c.loop-place-test.true in
    stopped (PlaysIn p) rules place rule here c.loop-place.invariant
    (test_from_plays (is_in_play p.quiver p.starred (numbers p.marked)) rule.poly c.has_letters_in_play.result c.has_letters_in_play.ensures (grind arith))

pub loop-place-preserved : goal.loop-place-preserved
loop-place-preserved c =
    let p = c.args.parts.now in
    let rules = c.args.rules.now in
    let place = c.loop-place.place in
    let rule = get_or rules place c.index-rules-place.result in
    let here : slice_get rules place ≡ Some rule = slice_get-get_or rules place c.index-rules-place.result c.loop-place-test.true in
    passed_on (PlaysIn p) rules place rule here c.loop-place.invariant
    (plays_from_test (is_in_play p.quiver p.starred (numbers p.marked)) rule.poly c.has_letters_in_play.result c.has_letters_in_play.ensures (grind arith))

pub returns-clause-none : goal.returns-clause-none
returns-clause-none c = all_passed (PlaysIn c.args.parts.now) c.args.rules.now c.loop-place.place
    (omega (arith, c.loop-place-test.false)) c.loop-place.invariant
