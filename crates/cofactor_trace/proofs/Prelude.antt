-- What the proofs here take from std, from the crates below and from this crate's definitions, each name once.
pub use Rattle.std.proofs.Common.{Bool, Err, IfErr, IfOk, IsOk, IsTrue, List, MatchResult, None, Ok, Option, Result, Some, [], ap, append_assoc, ap₂, arith, cond, drop, eq-eqb, eqb-true, false, filter, get_or, inl, inr, int_div, is_none, length, map, min, nat_eq, nat_lt, neg_ℤ, negsuc, of_z, pos, refl, reverse, rules, set, subst, subst₂, suc, sym, take, to_z, true, unwrap_or, zero, ℕ, ℤ, ◌&&◌, ◌*ℤ◌, ◌*◌, ◌++◌, ◌+ℤ◌, ◌+◌, ◌-◌, ◌/◌, ◌<ℤ◌, ◌<◌, ◌^◌, ◌||◌, ◌↔◌, ◌∙◌, ◌∷◌, ◌≡◌, ◌≤◌}
pub use Rattle.std.proofs.Math.Bool.{or-false}
pub use Rattle.std.proofs.Math.IntN.{*ℤ-zero, *ℤ_comm, +ℤ_assoc, +ℤ_idl, +ℤ_idr, zero-*ℤ}
pub use Rattle.std.proofs.Math.Nat.{dvd-mul_right, dvd_of_mul-dvd-mul_right, eq-zero_of_zero-dvd, mul-dvd-mul_right, mul_assoc, mul_comm}
pub use Rattle.std.proofs.lemmas.Bool.{and_parts, cond_both, ltb-false, or_cases, or_left, or_parts, or_right}
pub use Rattle.std.proofs.lemmas.Bool.Decides.{Decides-int_eq, eqb_tells, nat_tests}
pub use Rattle.std.proofs.lemmas.Cmp.{ranked, tied_itself}
pub use Rattle.std.proofs.lemmas.Grind.{common_steps}
pub use Rattle.std.proofs.lemmas.Int.{ints, unsigned_abs-mul}
pub use Rattle.std.proofs.lemmas.List.{append-nil, drop_all, get_or-map, get_or-set_other, get_or-set_same, get_or_default, length-append, length-map, length-set, map-append, reverse-append}
pub use Rattle.std.proofs.lemmas.List.Elements.{All-append, All-cons, All-filter, All-from_recursion, All-head, All-map, All-nil, All-push, All-tail, All-weaker, filter-append, recursion_from_All}
pub use Rattle.std.proofs.lemmas.List.Sums.{fold-append, sum_by-append, sum_by-cons}
pub use Rattle.std.proofs.lemmas.Map.Views.{All-insert_key, All-values-insert_entry}
pub use Rattle.std.proofs.lemmas.Nat.Gcd.{dvd-zero, dvd_refl, dvd_trans}
pub use Rattle.std.proofs.lemmas.Option.{get_or_from_slice_get, slice_get_read, slice_get_within}
pub use Rattle.std.proofs.lemmas.Result.{IfOk-weaker}
pub use Rattle.std.specs.BTreeMap.{btree_map_len, insert_entry, is_at}
pub use Rattle.std.specs.BTreeSet.{insert_key}
pub use Rattle.std.specs.Borrow.{Bor}
pub use Rattle.std.specs.Int.{◌∣◌}
pub use Rattle.std.specs.Int.RustNames.{unsigned_abs}
pub use Rattle.std.specs.List.{All, AllByRecursion, flat_map, fold, list_any, slice_get, sum_by}
unfoldable pub use Rattle.std.specs.List.Sorted.{IsStrictlySortedBy}
pub use Rattle.std.specs.Map.{lookup, values_of}
pub use Rattle.std.specs.Option.{option_and_then, option_map}
pub use Rattle.std.specs.Ordering.{int_eq, is_eq, match_ordering, nat_cmp, ordering_reverse, ordering_then}
pub use Rattle.std.specs.Prelude.{if◌then◌else◌}
pub use Rattle.std.specs.Vec.Iter.{into_iter_items, into_iter_len}
pub use Rattle.std.specs.declared.cmp.Ordering.{Ordering}
pub use Rattle.std.specs.declared.cmp.Ordering.TheVariants.{Equal, Greater, Less}
pub use Rattle.definitions.proofs.Coefficients.{coefficient_of-append, coefficient_of-multiple}
pub use Rattle.definitions.proofs.Integers.{*ℤ-+ℤ, *ℤ-neg_ℤ, *ℤ_assoc, *ℤ_zero, +ℤ-*ℤ, +ℤ_left_comm}
pub use Rattle.definitions.proofs.StarSound.{all-append}
pub use Rattle.definitions.specs.Combination.{IsCombination, generator_at, row_poly, row_sum}
pub use Rattle.definitions.specs.Poly.{SamePolynomial, Term, coefficient_of, poly_between, poly_multiple}
pub use Rattle.coef_int.proofs.Divisors.{gcd_of-IsGcd, gcd_of-positive, gcd_of-scaled}
pub use Rattle.coef_int.specs.Divisor.{gcd_of}
pub use Rattle.coef_int.specs.Operations.{exact_value, first_overflow, product_of, sum_of}
pub use Rattle.coef_int.specs.Range.{IsCoefficient, is_coefficient}
pub use Rattle.coef_int.specs.declared.Overflow.{Overflow}
pub use Rattle.word_core.proofs.Order.{word_cmp-same}
pub use Rattle.word_core.specs.Canonical.{word_cmp}
pub use Rattle.traced_rows.proofs.Between.{between-append, between-between, between-multiple, between-nothing, between-same}
pub use Rattle.traced_rows.proofs.Lists.{all_front, all_push, below, last_in}
pub use Rattle.traced_rows.proofs.Numbers.{same_number}
pub use Rattle.traced_rows.specs.LemmaRows.{AddsUpTo, AreOfLemmas, IsEvidenceOf, IsShareOf, cert_poly, lemma_row_poly, lemma_sum}
pub use Rattle.traced_rows.specs.Rows.{row_of, rows_of}
pub use Rattle.traced_rows.specs.Traces.{origin_poly, traced_poly, traced_sum}
pub use Rattle.traced_rows.specs.declared.Made.{Made}
pub use Rattle.traced_rows.specs.declared.Origin.{Origin}
pub use Rattle.traced_rows.specs.declared.Row.{Row}
pub use Rattle.traced_rows.specs.declared.certificate.CertRow.{CertRow}
pub use Rattle.traced_rows.specs.declared.certificate.Cofactors.{Cofactors}
pub use Rattle.traced_rows.specs.declared.evidence.Lemma.{Lemma}
pub use Rattle.traced_rows.specs.declared.evidence.LemmaCertificate.{LemmaCertificate}
pub use Rattle.traced_rows.specs.declared.evidence.LemmaRow.{LemmaRow}
pub use Rattle.nc_polynomial.proofs.Chains.{first-append, first-fails, first-fits, or_first}
pub use Rattle.nc_polynomial.proofs.Divisors.{quotient_times}
pub use Rattle.nc_polynomial.proofs.Shapes.{first_fits}
pub use Rattle.nc_polynomial.proofs.Steps.{drop_next}
pub use Rattle.nc_polynomial.proofs.Units.{one-*ℤ}
pub use Rattle.cofactor_trace.specs.CommonMultiples.{MultiplesAreLeast}
pub use Rattle.cofactor_trace.specs.Expansion.{Known, common_denominator, common_multiple, content_of, denominator_products, denominators, divided_row, has_long_word, joined, joined_products, joined_row, joined_rows, lcm_of, limit_fault, multiple_products, overflow_in, primitive, record_expansion, row_products, share, unless}
pub use Rattle.cofactor_trace.specs.Faults.{Explains, IsFirst, IsMemory, IsOverflowOf}
pub use Rattle.cofactor_trace.specs.Gathered.{coefficients_at, gathered, kept_row, multiples_of, running_sums, sums_of_gathering, total_at}
pub use Rattle.cofactor_trace.specs.GatheringLaws.{GatheringsAddUp, GatheringsAreRanged, GatheringsFit, IsRangedLemma, IsWithin, LemmasAreNamed, LemmasHaveRows, NameEarlier, NamesWithin, WordsAreKept, lemma_polys, parts_of}
pub use Rattle.cofactor_trace.specs.Laws.{AreTraces, ExpansionsBalance, ExpansionsFit, GeneratorsAreNamed, IsUpTo, IsWithinLimits, NamesUpTo, Traces}
pub use Rattle.cofactor_trace.specs.LemmaSizes.{extended, extended_all, letters_with, limit_of, no_extent}
pub use Rattle.cofactor_trace.specs.Lemmas.{Naming, direct_of, gathered_of, is_lemma, lemma_at, lemma_number, lemma_of, lemma_records, lemma_row, lemma_rules, letter_count, naming_of, row_count, scale_fault, signed, signed_generator, single_row}
pub use Rattle.cofactor_trace.specs.Multiples.{multiple_cmp, multiple_cmp_total, multiple_of}
pub use Rattle.cofactor_trace.specs.Naming.{IsScaled, NamesRules, named_in, records}
pub use Rattle.cofactor_trace.specs.Needed.{AreRecords, Expansions, IsAmongFirst, IsRecord, Numbered, and_then, expansion_from, expansion_of, is_named, is_rule, known_from, needed_from, needed_rules, none}
pub use Rattle.cofactor_trace.specs.Ranges.{IsRanged}
pub use Rattle.cofactor_trace.specs.Sizes.{measured, measured_all}
pub use Rattle.cofactor_trace.specs.Table.{Entries, IsInRange, Sum, added, before, rows_in, sum_in, with_row, with_rows}
pub use Rattle.cofactor_trace.specs.declared.extent.Extent.{Extent}
pub use Rattle.cofactor_trace.specs.declared.fault.ExpandFault.{ExpandFault}
pub use Rattle.cofactor_trace.specs.declared.fault.GatherFault.{GatherFault}
pub use Rattle.cofactor_trace.specs.declared.replacement.Replacement.{Replacement}
pub use Rattle.cofactor_trace.specs.declared.size.Size.{Size}
pub use Rattle.cofactor_trace.specs.declared.table.Multiple.{Multiple}
