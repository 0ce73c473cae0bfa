use Rattle.cofactor_trace.proofs.Prelude.{rules, ◌≡◌, ◌-◌, ◌∷◌, ◌++◌, [], Err, sym, subst, arith, All, values_of, insert_entry, nat_cmp, All-values-insert_entry, IsRecord, Expansions, IsRanged}
use Rattle.cofactor_trace.proofs.NeededLaws.{IsUnderWay, IsTaken, taken_number, taken, goes_on, stops, starts}
use Rattle.cofactor_trace.proofs.expansion.expand.Goals as goal
use Rattle.cofactor_trace.proofs.expansion.expand.Goals.{After-index-made-number, After-insert}

pub loop-number-init : goal.loop-number-init
loop-number-init c =
    let none : c.new-expansions.result.entries ≡ [] = search rules in
    record { under_way = starts c.args.made.now c.args.target.now c.in_ok-numbers.numbers.items c.new-expansions.result.entries c.in_ok-numbers.ensures.exact none; ranged = search rules }

-- the record is taken
at_hand : (c : After-index-made-number) → IsTaken c.args.made.now c.args.target.now c.pop.new.self.items c.in-Some.number c.index-made-number.result c.loop-number.expansions.entries
at_hand c =
    let removed : c.loop-number.numbers.items ≡ c.pop.new.self.items ++ c.in-Some.number ∷ [] = search rules in
    taken c.args.made.now c.args.target.now c.loop-number.numbers.items c.pop.new.self.items c.in-Some.number c.index-made-number.result c.loop-number.expansions.entries removed c.index-made-number.is c.loop-number.invariant.under_way

is_record : (c : After-index-made-number) → IsRecord (c.in-Some.number - 1) c.index-made-number.result
is_record c = c.requires.records.at (c.in-Some.number - 1) c.index-made-number.result (at_hand c).item

-- its expansion is put in
put_in : (c : After-insert) → c.insert.new.self.entries ≡ insert_entry nat_cmp c.loop-number.expansions.entries c.in-Some.number c.in_ok-cofactors.cofactors
    → IsTaken c.args.made.now c.args.target.now c.pop.new.self.items c.in-Some.number c.index-made-number.result c.loop-number.expansions.entries
    → IsUnderWay c.args.made.now c.args.target.now c.pop.new.self.items c.insert.new.self.entries × All IsRanged (values_of c.insert.new.self.entries)
put_in c put t =
    let entries = c.loop-number.expansions.entries in
    let number = c.in-Some.number in
    let cofactors = c.in_ok-cofactors.cofactors in
    let ends = c.in_ok-cofactors.ensures in (
      goes_on c.args.made.now c.args.target.now c.pop.new.self.items number c.index-made-number.result entries c.insert.new.self.entries cofactors t ends.exact put,
      subst (λ (es : Expansions). All IsRanged (values_of es)) (sym put) (All-values-insert_entry nat_cmp number cofactors IsRanged entries c.loop-number.invariant.ranged ends.ranged),
    )

pub overflow_sub-number : goal.overflow_sub-number
overflow_sub-number c = (taken_number c.args.made.now c.args.target.now c.loop-number.numbers.items c.pop.new.self.items c.in-Some.number c.loop-number.expansions.entries (search rules) c.loop-number.invariant.under_way).0

pub bounds-made-number : goal.bounds-made-number
bounds-made-number c = (taken_number c.args.made.now c.args.target.now c.loop-number.numbers.items c.pop.new.self.items c.in-Some.number c.loop-number.expansions.entries (search rules) c.loop-number.invariant.under_way).1

pub offset_bounds-made-number : goal.offset_bounds-made-number
offset_bounds-made-number c = let inside = bounds-made-number c in grind (arith, inside)

pub expand_record-requires-clause-positive : goal.expand_record-requires-clause-positive
expand_record-requires-clause-positive c = (is_record c).positive

pub expand_record-requires-clause-scale_in : goal.expand_record-requires-clause-scale_in
expand_record-requires-clause-scale_in c = (is_record c).scale_in

pub expand_record-requires-clause-coefficients_in : goal.expand_record-requires-clause-coefficients_in
expand_record-requires-clause-coefficients_in c = (is_record c).coefficients_in

pub returns-in_err-cofactors-clause-exact : goal.returns-in_err-cofactors-clause-exact
returns-in_err-cofactors-clause-exact c =
    let e = c.in_err-cofactors.field-0.0 in
    let t = at_hand (goal.at.returns-in_err-cofactors-clause-exact c).After-index-made-number in
    let back : c.from_residual-in_err-cofactors.result ≡ Err e = search rules in
    rw back (stops c.args.made.now c.args.target.now c.pop.new.self.items c.in-Some.number c.index-made-number.result c.loop-number.expansions.entries e t c.in_err-cofactors.ensures.exact)

pub loop-number-preserved-in_ok-insert : goal.loop-number-preserved-in_ok-insert
loop-number-preserved-in_ok-insert c =
    let passed = goal.at.loop-number-preserved-in_ok-insert c in
    let both = put_in passed.After-insert (search rules) (at_hand passed.After-index-made-number) in
    record { under_way = both.0; ranged = both.1 }

pub loop-number-preserved : goal.loop-number-preserved
loop-number-preserved c =
    let passed = goal.at.loop-number-preserved c in
    let both = put_in passed.After-insert (search rules) (at_hand passed.After-index-made-number) in
    record { under_way = both.0; ranged = both.1 }
