use Rattle.closed_checker.proofs.Prelude.{rules, ◌≡◌, ◌≤◌, length, slice_index_or, Ok, sym, subst, arith, take_all, All-more, All, made_cmp, Overlap, Ambiguity, AreAllInOrder, order_of, rules_of, rest_of, LeavesZero}
use Rattle.closed_checker.specs.declared.part.Part.TheVariants as part
use Rattle.closed_checker.proofs.Passing.{listed_same, ambiguity_reached, ambiguities_passed, some_left, zero_left}
use Rattle.closed_checker.proofs.check.reduce_ambiguities.Goals as goal
use Rattle.closed_checker.proofs.check.reduce_ambiguities.Goals.{After-as_slice-which-items}

-- all ambiguities of the rules are listed
listed : (c : After-as_slice-which-items) → AreAllInOrder (order_of c.args.problem.now) (rules_of c.args.problem.now c.args.basis.now) c.as_slice-which-items.result.now
listed c =
    let made = c.args.rules.now in
    let items : c.as_slice-which-items.result.now ≡ c.in_ok-found.found = search rules in
    let found : AreAllInOrder (made_cmp made.order) made.rules c.in_ok-found.found = c.in_ok-found.ensures in
    let all : AreAllInOrder (made_cmp made.order) made.rules c.as_slice-which-items.result.now = subst (AreAllInOrder (made_cmp made.order) made.rules) (sym items) found in
    listed_same c.args.problem.now c.args.basis.now made.order made.rules c.as_slice-which-items.result.now c.requires.rules all

-- what stands at a place past the end
abbrev none : Ambiguity
none = record { i = 0; j = 0; kind = Overlap; place = 0 }

pub rest_of-requires-clause-reached : goal.rest_of-requires-clause-reached
rest_of-requires-clause-reached c =
    let before = (goal.at.rest_of-requires-clause-reached c).After-as_slice-which-items in
    ambiguity_reached c.args.problem.now c.args.basis.now c.requires.has_rules c.requires.generators c.as_slice-which-items.result.now (listed before)
    c.loop-which.which-index none c.loop-which-test.true c.loop-which.invariant

pub returns-then-terms-gt0-clause-refused : goal.returns-then-terms-gt0-clause-refused
returns-then-terms-gt0-clause-refused c =
    let before = (goal.at.returns-then-terms-gt0-clause-refused c).After-as_slice-which-items in
    record {
      reached = ambiguity_reached c.args.problem.now c.args.basis.now c.requires.has_rules c.requires.generators c.as_slice-which-items.result.now (listed before)
          c.loop-which.which-index none c.loop-which-test.true c.loop-which.invariant;
      left = c.in_ok-rest.ensures.rest;
      nonzero = some_left c.in_ok-rest.rest.terms (omega (arith, c.if-terms-gt0.true, c.terms.ensures));
    }

pub loop-which-preserved : goal.loop-which-preserved
loop-which-preserved c =
    let problem = c.args.problem.now in
    let b = c.args.basis.now in
    let items = c.as_slice-which-items.result.now in
    let i = c.loop-which.which-index in
    let a : Ambiguity = slice_index_or items i none in
    let rest : rest_of problem b (part.Ambiguity a) ≡ Ok c.in_ok-rest.rest.terms = c.in_ok-rest.ensures.rest in
    let few : length c.in_ok-rest.rest.terms ≤ 0 = omega (arith, c.if-terms-gt0.false, c.terms.ensures) in
    All-more (λ x. LeavesZero problem b (part.Ambiguity x)) items i none c.loop-which-test.true c.loop-which.invariant
    (zero_left problem b (part.Ambiguity a) c.in_ok-rest.rest.terms rest few)

pub returns-clause-passed : goal.returns-clause-passed
returns-clause-passed c =
    let problem = c.args.problem.now in
    let b = c.args.basis.now in
    let items = c.as_slice-which-items.result.now in
    let past : length items ≤ c.loop-which.which-index = search rules in
    let each : All (λ (x : Ambiguity). LeavesZero problem b (part.Ambiguity x)) items =
    subst (All (λ (x : Ambiguity). LeavesZero problem b (part.Ambiguity x))) (take_all c.loop-which.which-index items past) c.loop-which.invariant in
    ambiguities_passed problem b c.requires.has_rules c.requires.generators items (listed (goal.at.returns-clause-passed c).After-as_slice-which-items) each
