-- What the proofs here take from std, from the crates below and from this crate's definitions, each name once.
pub use Rattle.std.proofs.Common.{Bool, Bor, Err, IfNone, IfOk, IfSome, IsSome, IsSomeAnd, IsTrue, List, MatchResult, None, Ok, Option, Result, Some, [], add-one, ap, append_assoc, ap₂, arith, drop, eq-eqb, eqb-true, false, get_or, inl, inr, length, map, nat_lt, negsuc, of_z, pos, refl, rules, set, slice_get, subst, suc, sym, take, to_z, true, zero, ℕ, ℤ, ◌*ℤ◌, ◌++◌, ◌+ℤ◌, ◌+◌, ◌-◌, ◌<ℤ◌, ◌<◌, ◌∙◌, ◌∷◌, ◌≡◌, ◌≢◌, ◌≤◌}
pub use Rattle.std.proofs.Math.IntN.{+ℤ_idl}
pub use Rattle.std.proofs.Math.Seq.{take-append_seam}
pub use Rattle.std.proofs.lemmas.Bool.{cases_lt, false≢true}
pub use Rattle.std.proofs.lemmas.Cmp.{back_total, ranked}
pub use Rattle.std.proofs.lemmas.Fn.{always_returns_same}
pub use Rattle.std.proofs.lemmas.Int.{ints}
pub use Rattle.std.proofs.lemmas.List.{append-nil, drop-drop, drop-take, drop_all, drop_at, drop_more, get_or-append_right, get_or-drop, get_or-map, get_or-take, get_or_default, get_or_read, length-append, length-drop, length-map, length-take, length-take-le, nil_from_length, set_split, take-append-drop, take-take, take_all, take_at, take_rest}
pub use Rattle.std.proofs.lemmas.List.Edits.{map_over_more}
pub use Rattle.std.proofs.lemmas.List.Elements.{All-drop, All-map, All-push, All-set, All-tail, All-take}
pub use Rattle.std.proofs.lemmas.List.Sorted.{IsPartitionPoint-from_clause, searchable_from_sorted}
pub use Rattle.std.proofs.lemmas.Nat.Gcd.{dvd_antisymm}
pub use Rattle.std.proofs.lemmas.Option.{IfSome_then, same_Some, slice_get-get_or}
pub use Rattle.std.specs.Cmp.{nat_cmp_is}
pub use Rattle.std.specs.Int.RustNames.{unsigned_abs}
pub use Rattle.std.specs.List.{All, AllWithin, HoldsAt, remove}
pub use Rattle.std.specs.List.Sorted.{IsBinarySearchResult, IsPartitionPoint, IsPartitionedBy}
pub use Rattle.std.specs.Option.{option_copied, option_map}
pub use Rattle.std.specs.Ordering.{is_gt, is_lt, nat_cmp, ordering_then}
pub use Rattle.std.specs.declared.cmp.Ordering.{Ordering}
pub use Rattle.std.specs.declared.cmp.Ordering.TheVariants.{Equal, Greater, Less}
pub use Rattle.definitions.specs.Poly.{Term}
pub use Rattle.coef_int.specs.Operations.{first_overflow, product_of, sum_of}
pub use Rattle.coef_int.specs.Range.{IsCoefficient}
pub use Rattle.coef_int.specs.declared.Overflow.{Overflow}
pub use Rattle.word_core.proofs.Order.{word_cmp-itself, word_cmp-same, word_cmp-trans, word_cmp-turned, word_cmp-turned_back}
pub use Rattle.word_core.specs.Canonical.{word_cmp, word_cmp_total}
pub use Rattle.word_core.specs.Letters.{IsOver}
pub use Rattle.word_core.specs.Occurrence.{OccursAt}
pub use Rattle.traced_rows.proofs.Lists.{all_push}
pub use Rattle.traced_rows.specs.declared.Row.{Row}
pub use Rattle.nc_polynomial.proofs.Chains.{first-fails, first-fits}
pub use Rattle.nc_polynomial.proofs.Checked.{join, join-none, keep-nonzero, one-fails, one-fits, total_from}
pub use Rattle.nc_polynomial.proofs.Shapes.{Descends, IsNonzero, recursion_from_IsDescending}
pub use Rattle.nc_polynomial.proofs.Steps.{drop_next}
pub use Rattle.nc_polynomial.specs.Content.{IsContent}
pub use Rattle.nc_polynomial.specs.Faults.{Explains, checked, sized, unless_overflow}
pub use Rattle.nc_polynomial.specs.Limits.{word_limit}
pub use Rattle.nc_polynomial.specs.Shape.{IsCanonical, IsShaped}
pub use Rattle.nc_polynomial.specs.Terms.{IsDescending, added, aligned, aligned_at, by_order, keep, multiplications, multiplied, negated, products, shifted, sums, total_operations, totals}
pub use Rattle.nc_polynomial.specs.declared.fault.PolyFault.{PolyFault}
pub use Rattle.nc_polynomial.specs.declared.poly.Poly.{Poly}
pub use Rattle.word_orders.specs.Admissible.{Compare, IsAdmissible}
pub use Rattle.word_orders.specs.Limits.{measured_letters}
pub use Rattle.word_orders.specs.Measured.{measured_cmp, weight_cmp}
pub use Rattle.rule_index.specs.Matches.{match_of}
pub use Rattle.rule_reduce.specs.Adding.{IsPut, sum_from, term_at}
pub use Rattle.rule_reduce.specs.Choices.{IsPlain, IsSettled, better_choice, choice_from, choice_of, choice_or}
pub use Rattle.rule_reduce.specs.Leading.{greatest_from, leading_term}
pub use Rattle.rule_reduce.specs.NormalForms.{ExplainsHalt, at_limit, halt_of, normal_form_of, one_step, reduction, then_next}
pub use Rattle.rule_reduce.specs.Passing.{Passes}
pub use Rattle.rule_reduce.specs.RuleLists.{IsRule, entries_of, rule_at}
pub use Rattle.rule_reduce.specs.Steps.{IsInRange, move_of, move_result, move_row, moved, multiplied_row, multiplied_state, row_operations, state_operations, step_result}
pub use Rattle.rule_reduce.specs.Stores.{IsBounded, Shows, coefficients, products_by, with_rows, without_rows}
pub use Rattle.rule_reduce.specs.declared.fault.ReduceFault.{ReduceFault}
pub use Rattle.rule_reduce.specs.declared.rule.Rule.{Rule}
pub use Rattle.rule_reduce.specs.declared.state.Choice.{Choice}
pub use Rattle.rule_reduce.specs.declared.state.Progress.{Progress}
pub use Rattle.rule_reduce.specs.declared.state.State.{State}
