use Rattle.cofactor_checker.proofs.Prelude.{rules, ◌≡◌, ◌+◌, ◌<◌, ◌≤◌, length, map, Some, sym, refl, ◌∙◌, subst, arith, to_z, of_z, length-map, slice_get_read, hash_map_len, first_overflow, generator_at, polynomials, adding_operations, StopsAt, coefficient_at}
use mir.Syntax.{w128}
use Rattle.cofactor_checker.specs.declared.refusal.Refusal.TheVariants as refusal
use Rattle.cofactor_checker.proofs.RowSums.{IsNext, IsAdded, stops_lacking, stops_overflowing, stops_outgrown, passes, whole_sum, all_pass}
use Rattle.cofactor_checker.proofs.rows.add_rows.Given.{Over}
use Rattle.cofactor_checker.proofs.rows.add_rows.Goals as goal
use Rattle.cofactor_checker.proofs.rows.add_rows.Goals.{After-named, After-right, After-len, After-loop-row}

-- the row is next
next : (g : Over) (c : After-named g)
    → IsNext (g.R.AnyRow.over (polynomials c.args.generators.now) (polynomials c.args.lemmas.now)) (g.R.AnyRow.plain (polynomials c.args.generators.now) (polynomials c.args.lemmas.now)) c.args.rows.now c.loop-row.sum c.args.before
    (c.loop-row.number + 1) c.loop-row.row-index c.row-item.result
next g c = record {
  counted = omega arith;
  there = slice_get_read c.args.rows.now (length c.args.rows.now) c.loop-row.row-index c.row-item.result refl c.loop-row-test.true c.row-item.is;
  so_far = c.loop-row.invariant.sums;
}

-- what the row is over
terms : (g : Over) (c : After-right g)
    → c.as_slice-terms.result.now ≡ generator_at (g.R.AnyRow.over (polynomials c.args.generators.now) (polynomials c.args.lemmas.now)) (g.R.AnyRow.plain (polynomials c.args.generators.now) (polynomials c.args.lemmas.now) c.row-item.result).generator
terms g c =
    let is : c.as_slice-terms.result.now ≡ c.in-Some.named.now.terms = search rules in
    is ∙ sym c.in-Some.ensures.found

-- with this coefficient
coefficient : (g : Over) (c : After-right g) → to_z w128 (of_z w128 c.coef.result) ≡ (g.R.AnyRow.plain (polynomials c.args.generators.now) (polynomials c.args.lemmas.now) c.row-item.result).coefficient
coefficient g c =
    let is : to_z w128 (of_z w128 c.coef.result) ≡ c.coef.result = search rules in
    is ∙ c.coef.ensures (polynomials c.args.generators.now) (polynomials c.args.lemmas.now)

-- the row is added
added : (g : Over) (c : After-len g)
    → IsAdded (g.R.AnyRow.over (polynomials c.args.generators.now) (polynomials c.args.lemmas.now)) c.loop-row.sum c.add_row.new.sum (g.R.AnyRow.plain (polynomials c.args.generators.now) (polynomials c.args.lemmas.now) c.row-item.result)
added g c =
    let gs = polynomials c.args.generators.now in
    let ls = polynomials c.args.lemmas.now in
    let same = terms g (goal.at.After-len g c).After-right in
    let coef = coefficient g (goal.at.After-len g c).After-right in
    record {
      generator = c.in-Some.ensures.in_range;
      operations = rw (← coef, ← c.left.ensures gs ls, ← c.right.ensures gs ls, ← same) (search rules);
      kept = search rules;
      adds = rw (← coef, ← c.left.ensures gs ls, ← c.right.ensures gs ls, ← same) (search rules);
      unique = search rules;
    }

pub returns-in_default-clause-refused : goal.returns-in_default-clause-refused
returns-in_default-clause-refused g c = rw c.lacking.ensures (stops_lacking g.R.AnyRow.tell (next g (goal.at.returns-in_default-clause-refused g c).After-named) c.in_default.ensures.absent)

pub returns-in-Err-Fault-clause-refused : goal.returns-in-Err-Fault-clause-refused
returns-in-Err-Fault-clause-refused g c =
    let passed = goal.at.returns-in-Err-Fault-clause-refused g c in
    let gs = polynomials c.args.generators.now in
    let ls = polynomials c.args.lemmas.now in
    let r = g.R.AnyRow.plain gs ls c.row-item.result in
    let same = terms g passed.After-right in
    let coef = coefficient g passed.After-right in
    let first : first_overflow (adding_operations (coefficient_at c.loop-row.sum) r.coefficient r.left (generator_at (g.R.AnyRow.over gs ls) r.generator) r.right) ≡ Some c.in-Err-Fault.overflow =
    rw (← coef, ← c.left.ensures gs ls, ← c.right.ensures gs ls, ← same) (search rules) in
    subst (λ o. StopsAt (g.R.AnyRow.over gs ls) (g.R.AnyRow.plain gs ls) g.R.AnyRow.tell (λ n. c.args.before + n) c.args.rows.now (refusal.Overflow (c.loop-row.number + 1) o)) (sym c.in-Err-Fault.overflow-is)
    (stops_overflowing g.R.AnyRow.tell (next g passed.After-named) c.in-Some.ensures.in_range first)

pub returns-then-len-gt-SUM_LIMIT-clause-refused : goal.returns-then-len-gt-SUM_LIMIT-clause-refused
returns-then-len-gt-SUM_LIMIT-clause-refused g c =
    let passed = goal.at.returns-then-len-gt-SUM_LIMIT-clause-refused g c in
    let large : 200000 < hash_map_len c.add_row.new.sum = search rules in
    stops_outgrown g.R.AnyRow.tell (next g passed.After-named) (added g passed.After-len) large

pub loop-row-preserved : goal.loop-row-preserved
loop-row-preserved g c =
    let passed = goal.at.loop-row-preserved g c in
    let small : hash_map_len c.add_row.new.sum ≤ 200000 = search rules in
    record { numbered = omega arith; sums = passes g.R.AnyRow.tell (next g passed.After-named) (added g passed.After-len) small }

-- all rows are added
all_added : (g : Over) (c : After-loop-row g) → length (map (g.R.AnyRow.plain (polynomials c.args.generators.now) (polynomials c.args.lemmas.now)) c.args.rows.now) ≤ c.loop-row.row-index
all_added g c = let count = length-map c.args.rows.now (g.R.AnyRow.plain (polynomials c.args.generators.now) (polynomials c.args.lemmas.now)) in omega arith

pub returns-clause-sum : goal.returns-clause-sum
returns-clause-sum g c = whole_sum c.loop-row.invariant.sums (all_added g (goal.at.returns-clause-sum g c).After-loop-row) c.in_ok-in_order.field-0 (search rules)

pub returns-clause-passed : goal.returns-clause-passed
returns-clause-passed g c = all_pass c.loop-row.invariant.sums (all_added g (goal.at.returns-clause-passed g c).After-loop-row)
