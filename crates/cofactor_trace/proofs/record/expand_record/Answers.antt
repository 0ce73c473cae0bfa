use Rattle.cofactor_trace.proofs.Prelude.{rules, ◌≡◌, ◌*ℤ◌, ◌<ℤ◌, [], pos, to_z, of_z, None, Err, Ok, sym, ap, subst, ◌∙◌, IsCoefficient, product_of, joined, joined_products, limit_fault, overflow_in, primitive, IsFirst, IsOverflowOf, known_from, with_rows, rows_in, same_number}
use mir.Syntax.{w128}
use Rattle.cofactor_trace.specs.declared.fault.ExpandFault.TheVariants as fault
use Rattle.cofactor_trace.proofs.Divisors.{product_positive}
use Rattle.cofactor_trace.proofs.RecordLaws.{IsCommon, Begins, AddsUp, at_common, at_denominator, at_limits, at_rows, at_gathering, at_end}
use Rattle.cofactor_trace.proofs.record.expand_record.Goals as goal
use Rattle.cofactor_trace.proofs.record.expand_record.Goals.{In_ok-denominator, In_ok-check_limits, In_ok-sums, After-from_residual, After-from_residual-in_err-check_limits, After-from_residual-in_err-sums, After-from_residual-in_err-gathered}

-- the least common multiple is found, and the denominator is a coefficient
begins : (c : In_ok-denominator) → Begins (known_from c.args.expansions.now.entries) c.args.made.now c.as_slice-rows.result.now c.in_ok-common.common
begins c = record {
  found = record { same_rows = c.as_slice-rows.ensures; products = c.in_ok-common.ensures.exact.0; value = c.in_ok-common.ensures.exact.1 };
  fits = search rules;
}

-- the number that the later calls take is the least common multiple
same_common : (c : In_ok-denominator) → to_z w128 (of_z w128 c.in_ok-common.common) ≡ c.in_ok-common.common
same_common c = same_number c.in_ok-common.common c.in_ok-common.ensures.in_range

denominator_positive : (c : In_ok-denominator) → pos 0 <ℤ c.in_ok-denominator.denominator
denominator_positive c =
    let product : c.in_ok-denominator.denominator ≡ c.args.made.now.scale *ℤ c.in_ok-common.common = search rules in
    let common_in : pos 0 <ℤ c.in_ok-common.common = c.in_ok-common.ensures.positive in
    subst (λ z. pos 0 <ℤ z) (sym product) (product_positive c.args.made.now.scale c.in_ok-common.common c.requires.positive common_in)

-- no limit is exceeded
short : (c : In_ok-check_limits) → limit_fault (joined (known_from c.args.expansions.now.entries) c.in_ok-common.common c.as_slice-rows.result.now) ≡ None
short c =
    let is = same_number c.in_ok-common.common c.in_ok-common.ensures.in_range in
    subst (λ z. limit_fault (joined (known_from c.args.expansions.now.entries) z c.as_slice-rows.result.now) ≡ None) is c.in_ok-check_limits.ensures

-- and the rows are added up
adds_up : (c : In_ok-sums) → Begins (known_from c.args.expansions.now.entries) c.args.made.now c.as_slice-rows.result.now c.in_ok-common.common
    → limit_fault (joined (known_from c.args.expansions.now.entries) c.in_ok-common.common c.as_slice-rows.result.now) ≡ None
    → AddsUp (known_from c.args.expansions.now.entries) c.args.made.now c.as_slice-rows.result.now c.in_ok-common.common c.in_ok-sums.sums.entries
adds_up c begun kept =
    let known = known_from c.args.expansions.now.entries in
    let rows = c.as_slice-rows.result.now in
    let is = same_number c.in_ok-common.common c.in_ok-common.ensures.in_range in
    record {
      begins = begun;
      short = kept;
      products = subst (λ z. overflow_in (joined_products known z rows) ≡ None) is c.in_ok-sums.ensures.exact;
      entries_are = subst (λ z. c.in_ok-sums.sums.entries ≡ with_rows [] (joined known z rows)) is c.in_ok-sums.ensures.added;
    }

pub returns-in_err-common-clause-exact : goal.returns-in_err-common-clause-exact
returns-in_err-common-clause-exact c =
    let known = known_from c.args.expansions.now.entries in
    let e = c.in_err-common.field-0.0 in
    let back : c.from_residual.result ≡ Err e = search rules in
    rw back (at_common known c.args.made.now c.as_slice-rows.result.now e c.as_slice-rows.ensures c.in_err-common.ensures.exact)

pub returns-in_err-denominator-clause-exact : goal.returns-in_err-denominator-clause-exact
returns-in_err-denominator-clause-exact c =
    let known = known_from c.args.expansions.now.entries in
    let m = c.args.made.now in
    let rows = c.as_slice-rows.result.now in
    let common = c.in_ok-common.common in
    let found : IsCommon known m rows common = record { same_rows = c.as_slice-rows.ensures; products = c.in_ok-common.ensures.exact.0; value = c.in_ok-common.ensures.exact.1 } in
    let fails : ¬ IsCoefficient (m.scale *ℤ common) = search rules in
    let back : c.from_residual-in_err-denominator.result ≡ Err (fault.Overflow (product_of m.scale common)) = search rules in
    rw back (at_denominator known m rows common found fails)

pub returns-in_err-check_limits-clause-exact : goal.returns-in_err-check_limits-clause-exact
returns-in_err-check_limits-clause-exact c =
    let passed = goal.at.returns-in_err-check_limits-clause-exact c in
    let known = known_from c.args.expansions.now.entries in
    let rows = c.as_slice-rows.result.now in
    let e = c.in_err-check_limits.field-0.0 in
    let stopped = subst (λ z. IsFirst (limit_fault (joined known z rows)) e) (same_common passed.In_ok-denominator) c.in_err-check_limits.ensures in
    let back : c.from_residual-in_err-check_limits.result ≡ Err e = search rules in
    rw back (at_limits known c.args.made.now rows c.in_ok-common.common e (begins passed.In_ok-denominator) stopped)

pub returns-in_err-sums-clause-exact : goal.returns-in_err-sums-clause-exact
returns-in_err-sums-clause-exact c =
    let passed = goal.at.returns-in_err-sums-clause-exact c in
    let known = known_from c.args.expansions.now.entries in
    let rows = c.as_slice-rows.result.now in
    let e = c.in_err-sums.field-0.0 in
    let stopped = subst (λ z. IsFirst (overflow_in (joined_products known z rows)) e) (same_common passed.In_ok-denominator) c.in_err-sums.ensures.exact in
    let back : c.from_residual-in_err-sums.result ≡ Err e = search rules in
    rw back (at_rows known c.args.made.now rows c.in_ok-common.common e (begins passed.In_ok-denominator) (short passed.In_ok-check_limits) stopped)

pub returns-in_err-gathered-clause-exact : goal.returns-in_err-gathered-clause-exact
returns-in_err-gathered-clause-exact c =
    let passed = goal.at.returns-in_err-gathered-clause-exact c in
    let added = adds_up passed.In_ok-sums (begins passed.In_ok-denominator) (short passed.In_ok-check_limits) in
    let entries = c.in_ok-sums.sums.entries in
    let e = c.in_err-gathered.field-0.0 in
    let stopped : IsOverflowOf (rows_in entries) e = c.in_err-gathered.ensures.exact in
    let back : c.from_residual-in_err-gathered.result ≡ Err e = search rules in
    rw back (at_gathering (known_from c.args.expansions.now.entries) c.args.made.now c.as_slice-rows.result.now c.in_ok-common.common entries e added stopped)

pub primitive-requires-clause-positive : goal.primitive-requires-clause-positive
primitive-requires-clause-positive c =
    let positive = denominator_positive (goal.at.primitive-requires-clause-positive c).In_ok-denominator in
    search (rules, positive)

pub returns-clause-exact : goal.returns-clause-exact
returns-clause-exact c =
    let passed = goal.at.returns-clause-exact c in
    let added = adds_up passed.In_ok-sums (begins passed.In_ok-denominator) (short passed.In_ok-check_limits) in
    let gathered = c.in_ok-gathered.gathered in
    let ends : rows_in c.in_ok-sums.sums.entries ≡ Ok gathered = c.in_ok-gathered.ensures.exact in
    let same : c.in_ok-primitive.field-0 ≡ primitive (c.args.made.now.scale *ℤ c.in_ok-common.common) gathered = search rules in
    at_end (known_from c.args.expansions.now.entries) c.args.made.now c.as_slice-rows.result.now c.in_ok-common.common c.in_ok-sums.sums.entries gathered added ends
    ∙ ap Ok (sym same)
