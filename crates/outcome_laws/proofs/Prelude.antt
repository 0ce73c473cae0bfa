-- What the proofs here take from std, from the crates below and from this crate's definitions, each name once.
pub use Rattle.std.proofs.Common.{Bool, Err, IsTrue, List, None, Ok, Option, Result, Some, [], ap, append-nil, append_assoc, ap₂, arith, cond, drop, false, get_or, inl, inr, int_div, leb, length, ltb, ltb-true, map, min, nat_le, nat_lt, neg_ℤ, negsuc, pos, refl, rules, slice_get, subst, suc, sym, take, true, unwrap_or, zero, ℕ, ℤ, ◌*ℤ◌, ◌*◌, ◌++◌, ◌+ℤ◌, ◌+◌, ◌-◌, ◌<ℤ◌, ◌<◌, ◌^◌, ◌||◌, ◌∙◌, ◌∷◌, ◌≡◌, ◌≢◌, ◌≤◌, ◌⊎◌}
pub use Rattle.std.proofs.Math.IntN.{*ℤ_comm, +ℤ_idr}
pub use Rattle.std.proofs.Math.Nat.{pow-suc, pow-zero}
pub use Rattle.std.proofs.Math.Seq.{take-append_seam}
pub use Rattle.std.proofs.lemmas.Bool.{and_parts, cases_lt, leb-false, leb-true}
pub use Rattle.std.proofs.lemmas.Bool.Decides.{nat_tests}
pub use Rattle.std.proofs.lemmas.Cmp.{tied_itself}
pub use Rattle.std.proofs.lemmas.Int.{ints}
pub use Rattle.std.proofs.lemmas.List.{drop_at, length-append, length-drop, length-map, length-take, take-append-drop, take_at}
pub use Rattle.std.proofs.lemmas.List.Elements.{All-append, All-cons, All-contains, All-from_get_or, All-from_recursion, All-get_or, All-head, All-map, All-nil, All-pop, All-push, All-replicate, All-tail, All-take, All-weaker, Contains-append_cases, Contains-append_left, Contains-append_right, Contains-get_or}
pub use Rattle.std.proofs.lemmas.List.FromFn.{get_or-range_with_len, length-range_with_len}
pub use Rattle.std.proofs.lemmas.List.Kept.{AllPairs-cons}
pub use Rattle.std.proofs.lemmas.Map.Made.{IsDistinct-from_AllPairs, length-le_from_is_member}
pub use Rattle.std.proofs.lemmas.Map.Views.{Contains-from_any, list_any-from_Contains}
pub use Rattle.std.proofs.lemmas.Nat.Gcd.{dvd_refl, le_of_dvd}
pub use Rattle.std.proofs.lemmas.Option.{get_or_from_slice_get, same_Some, slice_get-get_or, slice_get_within}
pub use Rattle.std.specs.BTreeMap.{insert_entry, is_at}
pub use Rattle.std.specs.Cmp.{IsTotalOrder}
pub use Rattle.std.specs.Int.{◌∣◌}
pub use Rattle.std.specs.Int.RustNames.{unsigned_abs}
pub use Rattle.std.specs.List.{All, AllByRecursion, AllPairs, AllZip, Any, Contains, filter, flat_map, fold, list_all, range_with_len}
pub use Rattle.std.specs.Map.{lookup}
pub use Rattle.std.specs.Option.{option_map}
pub use Rattle.std.specs.Ordering.{is_eq, nat_cmp}
pub use Rattle.std.specs.declared.cmp.Ordering.{Ordering}
pub use Rattle.std.specs.declared.cmp.Ordering.TheVariants.{Equal, Greater, Less}
pub use Rattle.definitions.proofs.Coefficients.{coefficient_of-append, coefficient_of-multiple}
pub use Rattle.definitions.proofs.Linear.{coefficient_other, word_eq-same, word_eq-true}
pub use Rattle.definitions.proofs.Paths.{step}
pub use Rattle.definitions.specs.Combination.{InRationalIdeal, IsCombination, generator_at}
pub use Rattle.definitions.specs.Poly.{SamePolynomial, Term, Word, coefficient_of, poly_between, poly_multiple, poly_sum, word_eq}
pub use Rattle.definitions.specs.Quiver.{Quiver, is_path, leads, letters, source}
pub use Rattle.definitions.specs.Soundness.{HasSignature}
pub use Rattle.coef_int.proofs.Divisors.{divisors_are_greatest, gcd_of-positive, gcd_of-positive_right}
pub use Rattle.coef_int.specs.Divisor.{gcd_of}
pub use Rattle.coef_int.specs.Operations.{exact_value, first_overflow, product_of, sum_of}
pub use Rattle.coef_int.specs.Range.{IsCoefficient, is_coefficient}
pub use Rattle.coef_int.specs.declared.Overflow.{Overflow}
pub use Rattle.word_core.proofs.Order.{word_cmp-cases, word_cmp-length, word_cmp-less_trans}
pub use Rattle.word_core.specs.Canonical.{word_cmp}
pub use Rattle.word_core.specs.Letters.{IsOver}
pub use Rattle.word_core.specs.Occurrence.{IsFirstPlace, OccursAt}
pub use Rattle.word_core.specs.Overlap.{OverlapsAt, overlap_places}
pub use Rattle.traced_rows.proofs.Between.{between-nothing}
pub use Rattle.traced_rows.proofs.Lists.{all_two}
pub use Rattle.traced_rows.specs.LemmaRows.{IsEvidenceOf, IsShareOf}
pub use Rattle.traced_rows.specs.Rows.{rows_of}
pub use Rattle.traced_rows.specs.Traces.{traced_sum}
pub use Rattle.traced_rows.specs.declared.Made.{Made}
pub use Rattle.traced_rows.specs.declared.Origin.{Origin}
pub use Rattle.traced_rows.specs.declared.Row.{Row}
pub use Rattle.traced_rows.specs.declared.certificate.CertRow.{CertRow}
pub use Rattle.traced_rows.specs.declared.certificate.Certificate.{Certificate}
pub use Rattle.traced_rows.specs.declared.certificate.Cofactors.{Cofactors}
pub use Rattle.traced_rows.specs.declared.evidence.Evidence.{Evidence}
pub use Rattle.traced_rows.specs.declared.evidence.Format.{Format}
pub use Rattle.traced_rows.specs.declared.evidence.Lemma.{Lemma}
pub use Rattle.traced_rows.specs.declared.evidence.LemmaCertificate.{LemmaCertificate}
pub use Rattle.traced_rows.specs.declared.evidence.LemmaRow.{LemmaRow}
pub use Rattle.cofactor_trace.proofs.Divisors.{common_multiple-positive, content-first, content-positive, product_positive, quotient_positive}
pub use Rattle.cofactor_trace.proofs.GatheredParts.{each_part, gatherings_are_ranged, gatherings_fit, lemma_record_each, lemmas_have_rows, parts}
pub use Rattle.cofactor_trace.proofs.Kept.{Each, each_append, each_primitive}
pub use Rattle.cofactor_trace.proofs.LemmaBalance.{gatherings_add_up}
pub use Rattle.cofactor_trace.proofs.LemmaNames.{lemmas_are_named}
pub use Rattle.cofactor_trace.proofs.Limits.{expansions_fit}
pub use Rattle.cofactor_trace.proofs.NamedGenerators.{generators_are_named}
pub use Rattle.cofactor_trace.proofs.NeededLaws.{records_of}
pub use Rattle.cofactor_trace.proofs.Passes.{each_with, expansions_balance}
pub use Rattle.cofactor_trace.proofs.RecordLaws.{primitive_is}
pub use Rattle.cofactor_trace.specs.Expansion.{Known, common_denominator, content_of, denominator_products, denominators, divided_row, joined, joined_products, joined_row, joined_rows, limit_fault, multiple_products, overflow_in, primitive, record_expansion, share, unless}
pub use Rattle.cofactor_trace.specs.Gathered.{coefficients_at, gathered, kept_row, multiples_of, running_sums, sums_of_gathering, total_at}
pub use Rattle.cofactor_trace.specs.GatheringLaws.{IsRangedLemma, lemma_polys, parts_of}
pub use Rattle.cofactor_trace.specs.Laws.{IsUpTo, NamesUpTo, Traces}
pub use Rattle.cofactor_trace.specs.Lemmas.{gathered_of, lemma_row, naming_of, row_count, scale_fault}
pub use Rattle.cofactor_trace.specs.Limits.{letter_limit, row_limit}
pub use Rattle.cofactor_trace.specs.Needed.{AreRecords, Expansions, IsAmongFirst, IsRecord, Numbered, expansion_from, expansion_of, is_named, known_from, needed_from, needed_rules, none}
pub use Rattle.cofactor_trace.specs.Ranges.{IsRanged}
pub use Rattle.cofactor_trace.specs.declared.fault.ExpandFault.{ExpandFault}
pub use Rattle.cofactor_trace.specs.declared.fault.GatherFault.{GatherFault}
pub use Rattle.cofactor_trace.specs.declared.halt.Cause.{Cause}
pub use Rattle.cofactor_trace.specs.declared.halt.Halt.{Halt}
pub use Rattle.cofactor_trace.specs.declared.halt.Place.{Place}
pub use Rattle.nc_polynomial.proofs.Around.{shaped-between}
pub use Rattle.nc_polynomial.proofs.Chains.{first-fits, no_error, ranged_multiply, shaped_add, shaped_scale, sized-value}
pub use Rattle.nc_polynomial.proofs.CoefficientLaws.{coefficient_of-added, coefficient_of-lefts, coefficient_of-rights, coefficient_of-scaled}
pub use Rattle.nc_polynomial.proofs.Distinct.{AreDistinct, distinct-descending, first_coefficient, words_listed}
pub use Rattle.nc_polynomial.proofs.Divisors.{abs_positive, canonical_back, content-zero, quotient_times}
pub use Rattle.nc_polynomial.proofs.Products.{scaled-between, shaped_shift}
pub use Rattle.nc_polynomial.proofs.Shapes.{Descends, IsBelow, IsDescending-from_recursion, IsFalling, descending-scaled, falling-aligned, in_range-added, nonzero-scaled, recursion_from_IsDescending, shaped-negated}
pub use Rattle.nc_polynomial.proofs.Words.{word_eq-turned}
pub use Rattle.nc_polynomial.specs.Arithmetic.{combined}
pub use Rattle.nc_polynomial.specs.Content.{DividesEach, IsContent}
pub use Rattle.nc_polynomial.specs.Faults.{checked, finished, has_long_word, size_fault, sized, unless_overflow}
pub use Rattle.nc_polynomial.specs.Limits.{term_limit, word_limit}
pub use Rattle.nc_polynomial.specs.Shape.{IsCanonical, IsShaped}
pub use Rattle.nc_polynomial.specs.Terms.{IsDescending, Pair, added, aligned, keep, multiplications, multiplied, negated, products, scaled, shifted, sums}
pub use Rattle.nc_polynomial.specs.declared.fault.PolyFault.{PolyFault}
pub use Rattle.nc_polynomial.specs.declared.poly.Poly.{Poly}
pub use Rattle.cofactor_checker.proofs.Words.{word_eq_equivalence}
pub use Rattle.cofactor_checker.specs.ProvedMeans.{EvidenceAddsUp}
pub use Rattle.word_orders.proofs.AskedOrders.{asked_cmp-admissible, asked_rank}
pub use Rattle.word_orders.specs.Admissible.{Compare, IsAdmissible}
pub use Rattle.word_orders.specs.Specified.{asked_cmp}
pub use Rattle.rule_reduce.proofs.AtMost.{leading-all}
pub use Rattle.rule_reduce.proofs.Chosen.{choices_are_exact, found}
pub use Rattle.rule_reduce.proofs.Irreducible.{irreducible_where_none}
pub use Rattle.rule_reduce.proofs.Matched.{Matched}
pub use Rattle.rule_reduce.proofs.Numbers.{rule_at-all, rule_at-polynomial}
pub use Rattle.rule_reduce.proofs.RowsByRules.{rows_are_by_rules}
pub use Rattle.rule_reduce.proofs.WordsKept.{words_with_coefficients}
pub use Rattle.rule_reduce.specs.Choices.{IsChoice, choice_of}
pub use Rattle.rule_reduce.specs.KeptWords.{IsInPlay as AreInPlay}
pub use Rattle.rule_reduce.specs.Laws.{IsByRule}
pub use Rattle.rule_reduce.specs.Leading.{greatest_from, leading_term}
pub use Rattle.rule_reduce.specs.NormalForms.{IsMemory, at_limit, halt_of, normal_form_of, one_step, reduction, start_of, then_next}
pub use Rattle.rule_reduce.specs.RuleLists.{IsRule, entries_of, polynomials_of, rule_at}
pub use Rattle.rule_reduce.specs.Steps.{Move, if_sized, less_operations, move_of, move_operations, move_result, move_row, moved, multiplied_row, row_operations, state_operations, step_by, step_result}
pub use Rattle.rule_reduce.specs.declared.fault.ReduceFault.{ReduceFault}
pub use Rattle.rule_reduce.specs.declared.rule.Rule.{Rule}
pub use Rattle.rule_reduce.specs.declared.state.Choice.{Choice}
pub use Rattle.rule_reduce.specs.declared.state.State.{State}
pub use Rattle.ambiguities.proofs.Ascending.{contains-cases, contains-first, contains-map, contains-none, contains-rest, first-before, pairs-map, rest-pairs}
pub use Rattle.ambiguities.proofs.Balance.{s_polynomials_balance}
pub use Rattle.ambiguities.proofs.Bounds.{over_terms}
pub use Rattle.ambiguities.proofs.Candidates.{ambiguity_decided, candidates, in_candidates}
pub use Rattle.ambiguities.proofs.Comparing.{before_compared, before_trans, not_before_itself}
pub use Rattle.ambiguities.proofs.Joined.{lead_at-is, leading_at-is, overlap_word-is}
pub use Rattle.ambiguities.proofs.Multiples.{passed}
pub use Rattle.ambiguities.proofs.OverLetters.{AreOver, IsOverRow, reduced_over, s_rows_over}
pub use Rattle.ambiguities.proofs.Sorted.{Decided, listing}
pub use Rattle.ambiguities.proofs.Words.{s_words, words_over}
pub use Rattle.ambiguities.specs.Ambiguities.{IsAmbiguity, MeetsAs, joined_word, lead_at, overlap_word_of}
pub use Rattle.ambiguities.specs.Order.{IsWaitingBefore, waiting_of}
pub use Rattle.ambiguities.specs.Resolved.{ComesBelow, is_below, s_sum}
pub use Rattle.ambiguities.specs.SPolynomials.{first_row, leading_at, row_multiple, s_polynomial_of, s_rows_of, second_row, shared_divisor}
pub use Rattle.ambiguities.specs.declared.ambiguity.Ambiguity.{Ambiguity}
pub use Rattle.ambiguities.specs.declared.ambiguity.Kind.{Kind}
pub use Rattle.ambiguities.specs.declared.ambiguity.Kind.TheVariants.{Inclusion, Overlap}
pub use Rattle.ambiguities.specs.declared.waiting.Waiting.{Waiting}
pub use Rattle.quiver.proofs.Counts.{letters-quiver_of}
pub use Rattle.quiver.specs.Declarations.{Declaration, letter_count, quiver_of}
pub use Rattle.quiver.specs.Over.{IsPolyOver}
pub use Rattle.adjoint_rules.proofs.Counted.{few_units_closed}
pub use Rattle.adjoint_rules.proofs.Generators.{claims_have_signatures, generators_have_signatures}
pub use Rattle.adjoint_rules.proofs.LettersInPlay.{Words, generator_words}
pub use Rattle.adjoint_rules.specs.Claims.{claim_at, claim_numbers}
pub use Rattle.adjoint_rules.specs.Parts.{units_in}
pub use Rattle.adjoint_rules.specs.Problem.{generators_in, is_in_play, numbers, polynomials}
pub use Rattle.adjoint_rules.specs.declared.problem.Problem.{Problem}
pub use Rattle.certificate_text.specs.Evidence.{IsLemmaRowOver, IsRowOver}
pub use Rattle.certificate_text.specs.Written.{IsEvidenceOver, IsLemmaOver}
pub use Rattle.report_text.specs.Report.{IsLeastOver}
pub use Rattle.confluence.proofs.Contents.{HasContent, has_content, multiple_of_quotient, positive_content, quotient}
pub use Rattle.confluence.proofs.Ideals.{generator_decided}
pub use Rattle.confluence.proofs.Inside.{rules_are_inside, zero_is_inside}
pub use Rattle.confluence.proofs.MakingLaws.{pushed_rules_are_made, scale_positive}
pub use Rattle.confluence.proofs.MoreAmbiguities.{ambiguity_more, overlap_word-more}
pub use Rattle.confluence.proofs.OutsideIdeals.{listed_or_not, nonzero_is_not_below, nonzero_is_outside, resolved_below_pending, resolved_where_closed}
pub use Rattle.confluence.proofs.RestLaws.{normal_forms_are_reduced}
pub use Rattle.confluence.proofs.RowSums.{traced_sum-by_rules}
pub use Rattle.confluence.proofs.ShapeLaws.{Gives, Makes, normal_form_gives, normal_forms_are_shaped, rests_have_letters_below, s_polynomial_makes, s_polynomials_are_shaped}
pub use Rattle.confluence.proofs.Steps.{ambiguities_are_kept, generators_are_kept, resolved_at_once_is_kept, start_is_kept}
pub use Rattle.confluence.proofs.TypedLaws.{normal_forms_stay_typed, overlap_in_play, rules_stay_typed, s_polynomials_stay_typed, typed_has_no_empty_word}
pub use Rattle.confluence.specs.Conclusions.{AreAllDone, NothingPending, NothingPendingBelow}
pub use Rattle.confluence.specs.Kept.{AreApart, HaveLettersBelow, IsReached, IsRecorded, Kept}
pub use Rattle.confluence.specs.Reductions.{HasLettersBelow, IsNonzero, IsReduced}
pub use Rattle.confluence.specs.Rests.{IsAppended, IsEarlier, IsMadeOf, nothing_left, rule_made}
pub use Rattle.confluence.specs.Typed.{AreTypedInPlay, IsTypedInPlay}
pub use Rattle.rule_making.proofs.Quotients.{leading_positive, negative_divides, quotient_primitive, quotient_words, signed, signed_nonzero}
pub use Rattle.rule_making.specs.Making.{Adds, IsMadeFrom, Recorded, Rest, leads_negative, negated_row, negated_rows, rest_with}
pub use Rattle.traced_completion.proofs.RunStates.{states_bounded}
pub use Rattle.traced_completion.proofs.StoreLemmas.{pending-all, pending-over}
pub use Rattle.traced_completion.specs.Limits.{round_limit}
pub use Rattle.traced_completion.specs.Pending.{AreAllPending, IsPending, ambiguities_of}
pub use Rattle.traced_completion.specs.PlainRun.{Ends, IsCauseOf, IsLaterRound, IsRound, IsRoundZero, IsRunState, IsTreated, Outcome as RoundOutcome, RunState, Setting, TreatsFirst, TreatsPending, closed, recorded, setting_of, start, stopped, taken_count, went}
pub use Rattle.traced_completion.specs.Results.{and_then, each_in_turn, halted}
pub use Rattle.traced_completion.specs.UnitsFirst.{units_first}
pub use Rattle.traced_completion.specs.Works.{First, Goes, InTurn, InTwoPasses, Work, first_of, first_rows, generator_rows, generator_work, less_rows, rows_operations, second_reduction, second_rest, second_rows, second_work}
pub use Rattle.traced_completion.specs.declared.budget.Budget.{Budget}
pub use Rattle.claim_decider.proofs.Judging.{claim_record}
pub use Rattle.claim_decider.proofs.UniqueOutcomes.{open_claim, open_run}
pub use Rattle.claim_decider.specs.Decided.{AreOutcomesOf, GetsOutcomeBy, OneGetsOutcomeAt, polynomials_in}
pub use Rattle.claim_decider.specs.Outcomes.{Expands, Gathers, GetsOutcome, IsCauseOfExpansion, IsCauseOfGathering, IsClosedWith, IsDone, IsDoneBy, IsDoneWith, IsHalted, IsLeft, IsOpen, IsProved, after_round, at_once, by_closing, by_stop, certificate_of, evidence_of_zero, halted_at, record_of}
pub use Rattle.claim_decider.specs.declared.outcome.Outcome.{Outcome}
pub use Rattle.outcome_laws.specs.Causes.{AreMade, AreRulesOf, CauseMeans, ClaimRecord, IsClaim, IsFirstReduction, IsLeftBy, IsOfRows, PairsAreSpent, Reduction, StepsAreSpent, after_step, from_ambiguity, from_generator, in_certificate, in_making, in_multiple, in_reduction, in_rows, in_s_polynomial, in_sum, no_rule, of_ambiguity, of_claim, of_first, of_first_rest, of_generator, of_second, one_more}
pub use Rattle.outcome_laws.specs.Certificates.{HasLongRow, HasManyRows, HasTurn, IsOfCertificate, PassesLimit, Turn, joined_at, lemmas_and_goal, of_denominator, of_expansion, of_lemmas, of_rows, of_scales, of_sums}
pub use Rattle.outcome_laws.specs.Counts.{short_ambiguities}
pub use Rattle.outcome_laws.specs.Enough.{HasEnough, IsShownBelow, OpenRunsTreatFew, PairsAreEnough, PairsAreEnoughForEach, PairsSuffice, enough_pairs, letters_in_play}
pub use Rattle.outcome_laws.specs.EvidenceLimits.{EvidenceFits, IsLemmaRowWithin, IsLemmaWithin, IsRowWithin, IsWithinLimits}
pub use Rattle.outcome_laws.specs.Existence.{EachClaimHasAnOutcome, EachProblemHasOutcomes, EachStateHasARound, HasRound}
pub use Rattle.outcome_laws.specs.Halts.{Follows}
pub use Rattle.outcome_laws.specs.KeptRuns.{ClosedIsNothingPending, EachGeneratorHasItsTurn, FirstIsLeastPending, IsGenerator, IsKeptState, RunsAreKept, done_after}
pub use Rattle.outcome_laws.specs.Meanings.{ClosedClaimsAreOutside, DerivedClaimsAddUp, HaltedCertificatesAreInside, IsOutcomeAt, LeastWordsBoundDerivations, OutcomeMeans, OutcomesMeanWhatTheySay}
pub use Rattle.outcome_laws.specs.OutcomeLetters.{IsOutcomeOver, LastRulesHaveLetters, OutcomesHaveLetters}
pub use Rattle.outcome_laws.specs.ProblemStates.{GeneratorsAreReached, IsTreatedOrPending, StatesAreKept}
pub use Rattle.outcome_laws.specs.ReductionSteps.{GetsTooLarge, HasOneMore, IsOfReduction, IsOfStep, IsOfSum, IsStep, IsTooLarge, Leaves, Next, Reduced, of_both, of_difference, of_left, of_multiplier, of_rest, of_right, of_rule, of_taken, row_words, unreduced}
