-- What the proofs here take from std, from the crates below and from this crate's definitions, each name once.
pub use Rattle.std.proofs.Common.{Bool, Err, IfErr, IfOk, List, MatchResult, None, Ok, OnErr, Option, Result, Some, [], ap, ap₂, arith, drop, false, get_or, inl, inr, leb, length, map, min, neg_ℤ, negsuc, pos, refl, rules, set, slice_get, slice_index_or, subst, suc, sym, take, true, zero, ℕ, ℤ, ◌*ℤ◌, ◌++◌, ◌+ℤ◌, ◌+◌, ◌-◌, ◌/◌, ◌<◌, ◌↔◌, ◌∙◌, ◌∷◌, ◌≡◌, ◌≢◌, ◌≤◌, ◌⊎◌}
pub use Rattle.std.proofs.Math.IntN.{*ℤ-zero, *ℤ_comm}
pub use Rattle.std.proofs.Math.ListN.{get_or-map}
pub use Rattle.std.proofs.lemmas.Bool.{cases_lt, leb-false, leb-true}
pub use Rattle.std.proofs.lemmas.Cmp.{upto}
pub use Rattle.std.proofs.lemmas.Int.{ints}
pub use Rattle.std.proofs.lemmas.List.{append-nil, append_assoc, drop-set-add, drop_all, drop_at, drop_more, get_or-append_right, get_or-drop, get_or-set_same, get_or-take, get_or_default, length-append, length-drop, length-map, length-set, length-take, length-take-le, map_more, nil_from_length, set-get_or, set-set, set_past, set_split, take-append-drop, take-append-le, take-set-le, take_all, take_at, take_more}
pub use Rattle.std.proofs.lemmas.List.Concat.{flat_map-append, get_or-flat_map}
pub use Rattle.std.proofs.lemmas.List.Elements.{All-append, All-cons, All-contains, All-contains_itself, All-drop, All-head, All-map, All-nil, All-set, All-tail, All-take, All-weaker, Contains-append_cases, Contains-append_left, Contains-append_right}
pub use Rattle.std.proofs.lemmas.List.FromFn.{get_or-range_with_len, length-range_with_len}
pub use Rattle.std.proofs.lemmas.List.Kept.{AllPairs-cons}
pub use Rattle.std.proofs.lemmas.List.Sorted.{All-permutation, Contains-permutation, IsPermutation-append_left, IsPermutation-insert, IsPermutation-refl, IsPermutation-sym, IsPermutation-to_front, IsPermutation-trans, length_permutation}
pub use Rattle.std.proofs.lemmas.Option.{get_or_from_slice_get, slice_get-get_or, slice_get_read, slice_get_within}
pub use Rattle.std.proofs.lemmas.Result.{IfOk-weaker}
pub use Rattle.std.specs.Cmp.{IsTotalOrder}
pub use Rattle.std.specs.List.{All, AllByRecursion, AllPairs, AllZip, Contains, insert, range_with_len, remove}
pub use Rattle.std.specs.List.Sorted.{IsPermutation, IsSorted}
pub use Rattle.std.specs.Option.{option_map, unwrap_or}
pub use Rattle.std.specs.Ordering.{is_eq, is_gt, is_lt, ordering_reverse}
pub use Rattle.std.specs.Vec.{vec_capacity, vec_len}
pub use Rattle.std.specs.Vec.Iter.{into_iter_items, into_iter_len}
pub use Rattle.std.specs.declared.cmp.Ordering.{Ordering}
pub use Rattle.std.specs.declared.cmp.Ordering.TheVariants.{Equal, Greater, Less}
pub use Rattle.definitions.proofs.Integers.{*ℤ-+ℤ, *ℤ-neg_ℤ, *ℤ_zero}
pub use Rattle.definitions.proofs.Paths.{step}
pub use Rattle.definitions.specs.Combination.{generator_at}
pub use Rattle.definitions.specs.Poly.{Term, coefficient_of, poly_between, poly_multiple}
pub use Rattle.definitions.specs.Quiver.{IsPath, Quiver, is_path, leads, letters, source}
pub use Rattle.definitions.specs.Soundness.{HasSignature}
pub use Rattle.lists.proofs.Zips.{AllZip-weaker}
pub use Rattle.coef_int.specs.Operations.{first_overflow}
pub use Rattle.coef_int.specs.Range.{IsCoefficient}
pub use Rattle.coef_int.specs.declared.Overflow.{Overflow}
pub use Rattle.word_core.specs.Letters.{IsOver}
pub use Rattle.traced_rows.proofs.Lists.{all_one, all_two}
pub use Rattle.traced_rows.specs.declared.Made.{Made}
pub use Rattle.traced_rows.specs.declared.Origin.{Origin}
pub use Rattle.traced_rows.specs.declared.Row.{Row}
pub use Rattle.cofactor_trace.specs.Needed.{IsAmongFirst, IsRecord}
pub use Rattle.cofactor_trace.specs.declared.halt.Cause.{Cause}
pub use Rattle.cofactor_trace.specs.declared.halt.Halt.{Halt}
pub use Rattle.nc_polynomial.proofs.Chains.{first-append, or_first}
pub use Rattle.nc_polynomial.proofs.Distinct.{distinct-descending, words_listed}
pub use Rattle.nc_polynomial.proofs.Shapes.{recursion_from_IsDescending}
pub use Rattle.nc_polynomial.specs.Shape.{IsCanonical, IsShaped}
pub use Rattle.nc_polynomial.specs.declared.fault.PolyFault.{PolyFault}
pub use Rattle.nc_polynomial.specs.declared.poly.Poly.{Poly}
pub use Rattle.word_orders.specs.Admissible.{Compare, IsAdmissible}
pub use Rattle.word_orders.specs.Specified.{asked_cmp, letters_of, made_cmp}
pub use Rattle.word_orders.specs.declared.any.AnyOrder.{AnyOrder}
pub use Rattle.rule_reduce.proofs.AtMost.{leading-all}
pub use Rattle.rule_reduce.proofs.MadeRules.{one_content}
pub use Rattle.rule_reduce.proofs.Numbers.{rule_at-all}
pub use Rattle.rule_reduce.proofs.RowsByRules.{rows_are_by_rules}
pub use Rattle.rule_reduce.proofs.WordsKept.{words_kept, words_with_coefficients}
pub use Rattle.rule_reduce.specs.Laws.{IsByRule}
pub use Rattle.rule_reduce.specs.Leading.{leading_term}
pub use Rattle.rule_reduce.specs.NormalForms.{ExplainsHalt, normal_form_of}
pub use Rattle.rule_reduce.specs.RuleLists.{IsRule, rule_at, rule_from}
pub use Rattle.rule_reduce.specs.Steps.{multiplied_row, row_operations}
pub use Rattle.rule_reduce.specs.declared.fault.ReduceFault.{ReduceFault}
pub use Rattle.rule_reduce.specs.declared.fault.ReduceFault.TheVariants.{Memory}
pub use Rattle.rule_reduce.specs.declared.rule.Rule.{Rule}
pub use Rattle.rule_reduce.specs.declared.rules.Reduced.{Reduced}
pub use Rattle.rule_reduce.specs.declared.state.State.{State}
pub use Rattle.ambiguities.proofs.Ascending.{Image, ascending-same, contains-cases, contains-first, contains-image, contains-map, contains-none, distinct-pairs, distinct-permutation, drop-pairs, first-before, pairs-weaker}
pub use Rattle.ambiguities.proofs.Bounds.{coefficient_of-s_polynomial, of_either, over_overlap_word}
pub use Rattle.ambiguities.proofs.Comparing.{ambiguity_not_before_itself, less-waiting, not_before_each_other, not_before_itself, sorted-ascending, tells, waiting_cmp-total}
pub use Rattle.ambiguities.proofs.Exactly.{exactly-all, exactly-append, exactly-same}
pub use Rattle.ambiguities.proofs.Numbers.{rule_at-first, rule_at-last}
pub use Rattle.ambiguities.proofs.Words.{AreWords, IsWord, normal_words, s_words, words_from, words_nonempty, words_over}
pub use Rattle.ambiguities.specs.Ambiguities.{IsAmbiguity, joined_word, lead_at, overlap_word_of}
pub use Rattle.ambiguities.specs.Listed.{IsAmbiguityFrom, IsBefore}
pub use Rattle.ambiguities.specs.Order.{AreInOrder, IsWaitingBefore, waiting_cmp}
pub use Rattle.ambiguities.specs.SPolynomials.{first_row, s_polynomial_of, s_rows_of, second_row}
pub use Rattle.ambiguities.specs.declared.ambiguity.Ambiguity.{Ambiguity}
pub use Rattle.ambiguities.specs.declared.waiting.Waiting.{Waiting}
pub use Rattle.quiver.proofs.Counts.{letters-quiver_of}
pub use Rattle.quiver.specs.Declarations.{letter_count, quiver_of}
pub use Rattle.adjoint_rules.proofs.Counted.{few_units_closed}
pub use Rattle.adjoint_rules.proofs.Generators.{generators_have_signatures}
pub use Rattle.adjoint_rules.specs.Parts.{units_in}
pub use Rattle.adjoint_rules.specs.Problem.{polynomials}
pub use Rattle.adjoint_rules.specs.declared.problem.Problem.{Problem}
pub use Rattle.rule_making.proofs.Quotients.{leading-multiple, multiple_term, positive_quotient, quotient_words, signed, signed_nonzero}
pub use Rattle.rule_making.proofs.Records.{AreNamed, negated_named}
pub use Rattle.rule_making.specs.Making.{Adds, IsExtended, IsMadeFrom, Recorded, Rest, is_negative, is_term_negative, leads_negative, negated_rows, rest_with}
pub use Rattle.rule_making.specs.Records.{AreRows, HasRecords}
pub use Rattle.traced_completion.specs.Blocks.{IsFilled, IsPut, IsUpTo, joined, last_of, put_at, restored, taken_out}
pub use Rattle.traced_completion.specs.Completions.{IsBudget, IsCompletionOf, IsGivingUp, IsRunOf, IsUnchanged, IsUnchangedAfter, outcome_of, state_of}
pub use Rattle.traced_completion.specs.Pending.{AreAllPending, IsNextStore, IsPending, ambiguities_of, first_word}
pub use Rattle.traced_completion.specs.PlainRun.{Ends, IsCauseOf, IsLaterRound, IsRound, IsRoundZero, IsRunState, IsTreated, Outcome, RunState, Setting, TreatsFirst, TreatsPending, closed, recorded, setting_of, start, stopped, taken_count, went}
pub use Rattle.traced_completion.specs.Reductions.{IsAnswer, IsKept, IsKeptFirst, IsReducible, plain, plain_first}
pub use Rattle.traced_completion.specs.Results.{Explains, and_then, each_in_turn, halted, unless_overflow}
pub use Rattle.traced_completion.specs.RunLaws.{HasWords, IsBounded, RoundsAreUnique, StatesAreBounded, StatesAreUnique, StatesHaveRules}
pub use Rattle.traced_completion.specs.StoreLaws.{AmbiguitiesStay, IsAmbiguityBefore, LeastWordsAreLeast, NothingIsPendingAtFirst, PendingWordsAreOver, StoresAreUnique, TakenOnesAreAmbiguities}
pub use Rattle.traced_completion.specs.UnitsFirst.{units_first}
pub use Rattle.traced_completion.specs.Works.{Does, EndsWith, First, Goes, InTurn, InTwoPasses, Work, first_of, first_rows, generator_rows, generator_work, less_rows, rows_operations, second_reduction, second_rest, second_rows, second_work}
pub use Rattle.traced_completion.specs.declared.budget.Budget.{Budget}
pub use Rattle.traced_completion.specs.declared.completion.Completion.{Completion}
pub use Rattle.traced_completion.specs.declared.completion.Step.{Step}
pub use Rattle.traced_completion.specs.declared.completion.Step.TheVariants.{Closed, Stopped, Went}
pub use Rattle.traced_completion.specs.declared.first_reductions.First.{First as Kept}
