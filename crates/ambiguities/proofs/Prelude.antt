-- What the proofs here take from std, from the crates below and from this crate's definitions, each name once.
pub use Rattle.std.proofs.Common.{Bool, Err, IfOk, List, MatchResult, None, Ok, Option, Result, Some, [], add-one, ap, ap₂, arith, drop, false, get_or, inl, inr, int_div, length, map, mod-lt, nat_eq, neg_ℤ, pos, refl, rules, slice_set, subst, suc, sym, take, true, zero, ℕ, ℤ, ◌%◌, ◌*◌, ◌++◌, ◌+◌, ◌-◌, ◌<ℤ◌, ◌<◌, ◌^◌, ◌↔◌, ◌∙◌, ◌∷◌, ◌≡◌, ◌≢◌, ◌≤◌, ◌⊎◌}
pub use Rattle.std.proofs.lemmas.Bool.{cases_eq, cases_lt}
pub use Rattle.std.proofs.lemmas.Bool.Decides.{eqb_tells, not_from_Decides, same_from_decides}
pub use Rattle.std.proofs.lemmas.Cmp.{nat_cmp_total, on_total, ranked, then_total, tied_itself}
pub use Rattle.std.proofs.lemmas.Fn.{always_returns_same}
pub use Rattle.std.proofs.lemmas.Grind.{get_or-set_at}
pub use Rattle.std.proofs.lemmas.Int.{ints}
pub use Rattle.std.proofs.lemmas.List.{append-nil, append_assoc, get_or-append-add, get_or-append_right, get_or-drop, get_or-map, get_or-set_other, get_or-take, get_or_append_left, get_or_default, get_or_past, length-append, length-drop, length-map, length-set, length-take, length-take-le, map-append, same_lists, take-append-drop, take_at, take_more, take_rest}
pub use Rattle.std.proofs.lemmas.List.Elements.{All-append, All-contains, All-contains_itself, All-drop, All-map, All-nil, All-push, All-take, All-weaker, Contains-append_cases, Contains-append_left, Contains-append_right, Contains-get_or}
pub use Rattle.std.proofs.lemmas.List.FromFn.{get_or-range_with_len, length-range_with_len}
pub use Rattle.std.proofs.lemmas.List.Kept.{AllPairs-cons}
pub use Rattle.std.proofs.lemmas.List.Sorted.{All-permutation, Contains-permutation, IsPermutation-map, IsPermutation-sym, ranks_by, sorted_far}
pub use Rattle.std.proofs.lemmas.Map.Keys.{IsDistinct-IsPermutation}
pub use Rattle.std.proofs.lemmas.Map.Made.{AllPairs-from_IsDistinct, IsDistinct-from_AllPairs}
pub use Rattle.std.proofs.lemmas.Option.{same_Some, slice_get-get_or}
pub use Rattle.std.proofs.lemmas.Result.{IfOk-weaker}
pub use Rattle.std.specs.Bool.{Decides}
pub use Rattle.std.specs.Cmp.{IsTotalOrder, nat_cmp_is}
pub use Rattle.std.specs.Cmp.Lexicographic.{slice_cmp}
pub use Rattle.std.specs.List.{All, AllPairs, Contains, flat_map, range_with_len, starts_with}
pub use Rattle.std.specs.List.Sorted.{IsPermutation, IsSorted}
pub use Rattle.std.specs.Ordering.{is_eq, is_lt, nat_cmp, ordering_reverse, ordering_then}
pub use Rattle.std.specs.Vec.Iter.{into_iter_items}
pub use Rattle.std.specs.declared.cmp.Ordering.{Ordering}
pub use Rattle.std.specs.declared.cmp.Ordering.TheVariants.{Equal, Greater, Less}
pub use Rattle.definitions.proofs.Paths.{fits_from_path, leads-append, path_from_fits, split, step}
pub use Rattle.definitions.specs.Poly.{Term, coefficient_of, poly_between}
pub use Rattle.definitions.specs.Quiver.{IsPath, Quiver, is_path, leads}
pub use Rattle.coef_int.specs.Divisor.{gcd_of}
pub use Rattle.coef_int.specs.Range.{IsCoefficient}
pub use Rattle.word_core.proofs.Overlaps.{overlaps_at-Decides}
pub use Rattle.word_core.proofs.Places.{OccursAt-length, starts_with_tells}
pub use Rattle.word_core.specs.Canonical.{word_cmp, word_cmp_total}
pub use Rattle.word_core.specs.Letters.{IsOver}
pub use Rattle.word_core.specs.Occurrence.{OccursAt}
pub use Rattle.word_core.specs.Overlap.{OverlapsAt, overlaps_at}
pub use Rattle.traced_rows.proofs.Lists.{all_two}
pub use Rattle.traced_rows.proofs.Numbers.{same_number}
pub use Rattle.traced_rows.specs.declared.Row.{Row}
pub use Rattle.nc_polynomial.proofs.Chains.{finished-value, sized-value}
pub use Rattle.nc_polynomial.proofs.Distinct.{distinct-descending, words_listed}
pub use Rattle.nc_polynomial.proofs.Shapes.{all-aligned, all-scaled, all-totals, recursion_from_IsDescending}
pub use Rattle.nc_polynomial.specs.Arithmetic.{combined}
pub use Rattle.nc_polynomial.specs.Faults.{Explains}
pub use Rattle.nc_polynomial.specs.Product.{and_then, moved_result}
pub use Rattle.nc_polynomial.specs.Terms.{added, aligned, products, scaled, sums}
pub use Rattle.nc_polynomial.specs.declared.fault.PolyFault.{PolyFault}
pub use Rattle.word_orders.specs.Admissible.{Compare}
pub use Rattle.word_orders.specs.Limits.{measured_letters}
pub use Rattle.word_orders.specs.Measured.{measured_cmp}
pub use Rattle.rule_reduce.proofs.AtMost.{leading-all}
pub use Rattle.rule_reduce.proofs.Chosen.{found}
pub use Rattle.rule_reduce.proofs.LettersKept.{each-moved}
pub use Rattle.rule_reduce.proofs.Numbers.{rule_at-all, rule_at-polynomial}
pub use Rattle.rule_reduce.proofs.Rows.{all-multiplied}
pub use Rattle.rule_reduce.proofs.Runs.{reduction_keeps}
pub use Rattle.rule_reduce.proofs.WordsKept.{words_with_coefficients}
pub use Rattle.rule_reduce.specs.Choices.{choice_of}
pub use Rattle.rule_reduce.specs.KeptWords.{IsTypedRule}
pub use Rattle.rule_reduce.specs.NormalForms.{normal_form_of, start_of}
pub use Rattle.rule_reduce.specs.RuleLists.{IsRule, entries_of, rule_at}
pub use Rattle.rule_reduce.specs.Steps.{move_of, move_row, moved}
pub use Rattle.rule_reduce.specs.declared.rule.Rule.{Rule}
pub use Rattle.rule_reduce.specs.declared.state.Choice.{Choice}
pub use Rattle.rule_reduce.specs.declared.state.State.{State}
pub use Rattle.ambiguities.specs.Agreement.{Agree, HasMarks, IsAgreement, first_of, is_marked}
pub use Rattle.ambiguities.specs.Ambiguities.{IsAmbiguity, MeetsAs, joined_word, lead_at, overlap_word_of}
pub use Rattle.ambiguities.specs.Keys.{front_of, key_cmp, key_of}
pub use Rattle.ambiguities.specs.Laws.{EachOfRow, SPolynomialsAreTyped}
pub use Rattle.ambiguities.specs.Listed.{IsAmbiguityFrom, IsBefore, IsGrown, IsOfFirst, IsOfPair, ListsExactly, ambiguity_at, kind_number}
pub use Rattle.ambiguities.specs.Order.{AreInOrder, IsWaitingBefore, ambiguity_cmp, waiting_cmp, waiting_of}
pub use Rattle.ambiguities.specs.SPolynomials.{first_row, row_multiple, s_polynomial_of, s_rows_of, second_row}
pub use Rattle.ambiguities.specs.declared.ambiguity.Ambiguity.{Ambiguity}
pub use Rattle.ambiguities.specs.declared.ambiguity.Kind.{Kind}
pub use Rattle.ambiguities.specs.declared.ambiguity.Kind.TheVariants.{Inclusion, Overlap}
pub use Rattle.ambiguities.specs.declared.key.Key.{Key}
pub use Rattle.ambiguities.specs.declared.waiting.Waiting.{Waiting}
