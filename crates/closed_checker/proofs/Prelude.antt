-- What the proofs here take from std, from the crates below and from this crate's definitions, each name once.
pub use Rattle.std.proofs.Common.{Bool, Err, IfErr, List, None, Ok, Option, Result, Some, [], ap, ap₂, arith, cond, drop, false, filter, get_or, inl, inr, length, map, nat_eq, nat_lt, negsuc, not, option_to_list, pos, refl, rules, slice_get, slice_index_or, subst, suc, sym, take, true, zero, ℕ, ℤ, ◌++◌, ◌+◌, ◌-◌, ◌<ℤ◌, ◌<◌, ◌^◌, ◌↔◌, ◌∙◌, ◌∷◌, ◌≡◌, ◌≢◌, ◌≤◌, ◌⊎◌}
pub use Rattle.std.proofs.lemmas.Bool.{cases_lt, le-ltb, leb-true, lt-ltb, ltb-true}
pub use Rattle.std.proofs.lemmas.Bool.Decides.{Decides-eqb, Decides-int_eq, eqb_tells}
pub use Rattle.std.proofs.lemmas.Cmp.{nat_list_cmp_total, ranked}
pub use Rattle.std.proofs.lemmas.Fn.{always_returns_same}
pub use Rattle.std.proofs.lemmas.Int.{ints}
pub use Rattle.std.proofs.lemmas.List.{append-nil, append_assoc, drop_all, drop_at, get_or-drop, get_or-map, get_or-take, get_or_default, length-append, length-drop, length-map, length-take-le, length_push, nil_from_length, take-append-drop, take-take, take_all, take_at, take_more}
pub use Rattle.std.proofs.lemmas.List.Concat.{flat_map-append}
pub use Rattle.std.proofs.lemmas.List.Elements.{All-cons, All-contains, All-contains_itself, All-filter, All-head, All-more, All-nil, All-tail, All-weaker, Contains-append_left, Contains-push, Contains-push_cases, at_read, filter-append, filter_passes}
pub use Rattle.std.proofs.lemmas.List.Kept.{AllPairs-filter, IsNonDecreasingBy-filter}
pub use Rattle.std.proofs.lemmas.List.Sorted.{Contains-permutation, IsPartitionPoint-from_clause, IsPartitionedBy-ltb, IsPermutation-map, IsPermutation-sym, ranks_by, sorted_far}
pub use Rattle.std.proofs.lemmas.Option.{get_or_from_slice_get, same_Some, slice_get-get_or, slice_get_read, slice_get_within}
pub use Rattle.std.proofs.lemmas.Result.{IfOk-weaker}
pub use Rattle.std.specs.Bool.{Decides}
pub use Rattle.std.specs.Cmp.{IsTotalOrder, nat_cmp_is}
pub use Rattle.std.specs.Cmp.Lexicographic.{slice_cmp}
pub use Rattle.std.specs.List.{All, AllByRecursion, AllPairs, Contains}
pub use Rattle.std.specs.List.Sorted.{IsNonDecreasingBy, IsPartitionPoint, IsPermutation, IsSorted}
pub use Rattle.std.specs.Option.{IsSomeAnd, option_map}
pub use Rattle.std.specs.Ordering.{int_eq, is_lt, nat_cmp, on, ordering_then}
pub use Rattle.std.specs.declared.cmp.Ordering.{Ordering}
pub use Rattle.std.specs.declared.cmp.Ordering.TheVariants.{Equal, Greater, Less}
pub use Rattle.definitions.proofs.Linear.{word_eq-same, word_eq-true}
pub use Rattle.definitions.proofs.Paths.{step}
pub use Rattle.definitions.specs.Combination.{InRationalIdeal, generator_at}
pub use Rattle.definitions.specs.Poly.{Term, coefficient_of, word_eq}
pub use Rattle.definitions.specs.Quiver.{Quiver, is_path, leads, letters, source}
pub use Rattle.definitions.specs.Soundness.{HasSignature}
pub use Rattle.lists.proofs.Decided.{IsDecided, both_decided, decided_by, le_decided}
pub use Rattle.lists.proofs.FirstFailure.{FailsFirst, HasOneOutcome, PassUpTo, each_test, item_test, not_each, one_test, reworded, tests_up_to, then_test}
pub use Rattle.lists.specs.First.{FirstNot}
pub use Rattle.coef_int.specs.Range.{IsCoefficient}
pub use Rattle.word_core.proofs.Places.{OccursAt-length, drop-OccursAt}
pub use Rattle.word_core.specs.Canonical.{word_cmp}
pub use Rattle.word_core.specs.Letters.{IsOver}
pub use Rattle.word_core.specs.Occurrence.{OccursAt}
pub use Rattle.word_core.specs.Overlap.{OverlapsAt}
pub use Rattle.cofactor_trace.specs.declared.halt.Cause.{Cause}
pub use Rattle.nc_polynomial.proofs.Distinct.{distinct-descending, first_coefficient, words_listed}
pub use Rattle.nc_polynomial.proofs.Shapes.{IsDescending-from_recursion, recursion_from_IsDescending}
pub use Rattle.nc_polynomial.specs.Content.{IsContent}
pub use Rattle.nc_polynomial.specs.Faults.{IsMemory}
pub use Rattle.nc_polynomial.specs.Limits.{word_limit}
pub use Rattle.nc_polynomial.specs.Shape.{IsCanonical, IsShaped}
pub use Rattle.nc_polynomial.specs.declared.fault.PolyFault.{PolyFault}
pub use Rattle.nc_polynomial.specs.declared.poly.Poly.{Poly}
pub use Rattle.word_orders.proofs.AskedOrders.{asked_cmp-admissible, asked_rank}
pub use Rattle.word_orders.specs.Admissible.{Compare, IsAdmissible}
pub use Rattle.word_orders.specs.Specified.{letters_of, made_cmp}
pub use Rattle.word_orders.specs.declared.any.AnyOrder.{AnyOrder}
pub use Rattle.rule_reduce.proofs.AtMost.{leading-all}
pub use Rattle.rule_reduce.proofs.MadeRules.{one_content}
pub use Rattle.rule_reduce.proofs.Numbers.{rule_at-all}
pub use Rattle.rule_reduce.proofs.WordsKept.{words_with_coefficients}
pub use Rattle.rule_reduce.specs.Leading.{leading_term}
pub use Rattle.rule_reduce.specs.NormalForms.{halt_of, normal_form_of}
pub use Rattle.rule_reduce.specs.RuleLists.{IsRule, polynomials_of, rule_at, rule_from}
pub use Rattle.rule_reduce.specs.declared.fault.ReduceFault.{ReduceFault}
pub use Rattle.rule_reduce.specs.declared.rule.Rule.{Rule}
pub use Rattle.rule_reduce.specs.declared.state.State.{State}
pub use Rattle.ambiguities.proofs.Ascending.{Image, ascending-same, contains-cases, contains-first, contains-image, contains-map, contains-rest, distinct-permutation, pairs-map}
pub use Rattle.ambiguities.proofs.Balance.{s_polynomials_balance}
pub use Rattle.ambiguities.proofs.Bounds.{over_terms}
pub use Rattle.ambiguities.proofs.Candidates.{ambiguity_decided, candidates, in_candidates}
pub use Rattle.ambiguities.proofs.Comparing.{before_compared, before_trans, not_before_each_other, not_before_itself}
pub use Rattle.ambiguities.proofs.Exactly.{exactly-all, exactly-append, exactly-one, exactly-same}
pub use Rattle.ambiguities.proofs.Leads.{nonempty_leads, short_leads}
pub use Rattle.ambiguities.proofs.Numbers.{rule_at-last}
pub use Rattle.ambiguities.proofs.Occurrences.{overlaps_within}
pub use Rattle.ambiguities.proofs.Sorted.{listing}
pub use Rattle.ambiguities.specs.Ambiguities.{IsAmbiguity, MeetsAs}
pub use Rattle.ambiguities.specs.Listed.{ListsExactly, ambiguity_at}
pub use Rattle.ambiguities.specs.Order.{AreAllInOrder, AreInOrder, IsBeforeByWord, IsWaitingBefore, waiting_of}
pub use Rattle.ambiguities.specs.Resolved.{IsResolved, Resolved}
pub use Rattle.ambiguities.specs.SPolynomials.{s_polynomial_of}
pub use Rattle.ambiguities.specs.declared.ambiguity.Ambiguity.{Ambiguity}
pub use Rattle.ambiguities.specs.declared.ambiguity.Kind.{Kind}
pub use Rattle.ambiguities.specs.declared.ambiguity.Kind.TheVariants.{Inclusion, Overlap}
pub use Rattle.ambiguities.specs.declared.waiting.Waiting.{Waiting}
pub use Rattle.quiver.proofs.Counts.{letters-quiver_of}
pub use Rattle.quiver.specs.Declarations.{Declaration, letter_count, quiver_of}
pub use Rattle.quiver.specs.Over.{IsPolyOver}
pub use Rattle.adjoint_rules.proofs.Generators.{claims_have_signatures, generators_have_signatures}
pub use Rattle.adjoint_rules.specs.Problem.{polynomials}
pub use Rattle.adjoint_rules.specs.declared.basis.Basis.{Basis}
pub use Rattle.adjoint_rules.specs.declared.problem.Problem.{Problem}
pub use Rattle.confluence.proofs.Contents.{has_content}
pub use Rattle.confluence.proofs.Ideals.{all_from_numbers, ideals_stay_inside}
pub use Rattle.confluence.proofs.RestLaws.{normal_forms_are_reduced, rests_of_ideal_are_zero, zero_rests_are_inside, zero_rests_are_resolved}
pub use Rattle.confluence.proofs.ShapeLaws.{Gives, Makes, normal_form_gives, s_polynomial_makes, s_polynomials_are_shaped}
pub use Rattle.confluence.proofs.WrittenTerms.{canonical_as_written, shaped_as_written}
pub use Rattle.confluence.specs.Reductions.{HasLettersBelow, IsReduced, IsZero}
pub use Rattle.closed_checker.specs.Closed.{ComesBefore, HasRules, IsCauseOf, IsClosedBasis, IsNumberUpTo, IsPart, IsReadableBasis, LacksRule, LeavesZero, NamesClaim, Reaches, Refuses}
pub use Rattle.closed_checker.specs.Finding.{IsAdded, IsOfFirst, IsOfFirsts, IsOfOne, IsWith, ListsEachOnce, MayMeet}
pub use Rattle.closed_checker.specs.Laws.{BasisRefusalIsUnique, ClosedBasesMeanOutside, ClosedBasisIsNotRefused, ClosedMeans, EachBasisIsJudged}
unfoldable pub use Rattle.closed_checker.specs.Limits.{step_limit}
pub use Rattle.closed_checker.specs.ListLaws.{AmbiguitiesCanBeListed, CanBeListed, ListsAreUnique}
pub use Rattle.closed_checker.specs.Rests.{MayBeRule, claim_of, order_of, polynomial_of, rest_by, rest_in, rest_of, rules_from, rules_of}
pub use Rattle.closed_checker.specs.Table.{IsLeadOf, IsRankPoint, IsTableOf, StandsBefore, rank_at, rank_of}
pub use Rattle.closed_checker.specs.Working.{AmbiguitiesPass, AreRulesOf, Explains, GeneratorsPass, IsAnswer}
pub use Rattle.closed_checker.specs.declared.part.Part.{Part}
pub use Rattle.closed_checker.specs.declared.refusal.ClosedRefusal.{ClosedRefusal}
pub use Rattle.closed_checker.specs.declared.table.Lead.{Lead}
