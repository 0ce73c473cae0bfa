-- What the proofs here take from std, from the crates below and from this crate's definitions, each name once.
pub use Rattle.clap.specs.Words.{subcommand_of}
pub use Rattle.std.proofs.Common.{Bool, Contains, Err, Global, IfOk, IsSomeAnd, IsTrue, List, None, Ok, Option, Result, Some, String, [], ap, arith, codes, cond, drop, false, get_or, inl, inr, length, map, not, option_to_list, pos, refl, rules, slice_get, string_bytes, subst, suc, sym, take, true, zero, ℕ, ℤ, ◌++◌, ◌+◌, ◌<ℤ◌, ◌<◌, ◌==◌, ◌∙◌, ◌∷◌, ◌≡◌, ◌≢◌, ◌≤◌, ◌⊎◌}
pub use Rattle.std.proofs.lemmas.Bool.{and_parts, cases_lt}
pub use Rattle.std.proofs.lemmas.Fmt.{decimal_injective}
pub use Rattle.std.proofs.lemmas.List.{append-nil, append_assoc, length-append, length-map, map-append, nil_from_length, take_all}
pub use Rattle.std.proofs.lemmas.List.Elements.{All-cons, All-contains, All-head, All-map, All-nil, All-tail, All-weaker, recursion_from_All}
pub use Rattle.std.proofs.lemmas.List.FromFn.{get_or-range_with_len, length-range_with_len}
pub use Rattle.std.proofs.lemmas.Result.{IfOk-weaker}
pub use Rattle.std.proofs.lemmas.Slice.Zip.{AllZip-long}
pub use Rattle.std.specs.Fmt.{signed_decimal}
pub use Rattle.std.specs.Io.KnownBytes.{Appends, Keeps}
pub use Rattle.std.specs.List.{All, AllByRecursion, AllZip, list_all, range_with_len}
pub use Rattle.std.specs.Option.{option_map}
pub use Rattle.std.specs.Prelude.{decimal}
pub use Rattle.definitions.specs.Category.{PreadditiveLaws, Structure}
pub use Rattle.definitions.specs.Combination.{InRationalIdeal, generator_at}
pub use Rattle.definitions.specs.Generators.{generators_of}
pub use Rattle.definitions.specs.Poly.{SamePolynomial, Term, coefficient_of, poly_between}
pub use Rattle.definitions.specs.Representation.{Representation, Represents, StarRepresents}
pub use Rattle.definitions.specs.Soundness.{HasValueZero, IsSound}
pub use Rattle.lists.proofs.Zips.{zip_length}
pub use Rattle.lists.specs.declared.stop.Stop.{Stop}
pub use Rattle.lists.specs.declared.stop.Stop.TheVariants.{Fault}
pub use Rattle.word_core.specs.Letters.{IsOver}
pub use Rattle.word_core.specs.declared.letter.Letter.{Letter}
pub use Rattle.representations.specs.Evidence.{IsEvidenceSound}
pub use Rattle.traced_rows.specs.LemmaRows.{denominator_of}
pub use Rattle.traced_rows.specs.declared.Made.{Made}
pub use Rattle.traced_rows.specs.declared.certificate.Cofactors.{Cofactors}
pub use Rattle.traced_rows.specs.declared.evidence.Evidence.{Evidence}
pub use Rattle.traced_rows.specs.declared.evidence.Format.{Format}
pub use Rattle.traced_rows.specs.declared.evidence.LemmaCertificate.{LemmaCertificate}
pub use Rattle.cofactor_trace.specs.Lemmas.{gathered_of}
pub use Rattle.cofactor_trace.specs.Needed.{expansion_of}
pub use Rattle.cofactor_trace.specs.declared.fault.ExpandFault.{ExpandFault}
pub use Rattle.cofactor_trace.specs.declared.fault.GatherFault.{GatherFault}
pub use Rattle.cofactor_trace.specs.declared.halt.Cause.{Cause}
pub use Rattle.cofactor_trace.specs.declared.halt.Halt.{Halt}
pub use Rattle.cofactor_trace.specs.declared.halt.Place.{Place}
pub use Rattle.flow_io.specs.Causes.{Rose}
pub use Rattle.flow_io.specs.Shelf.{LoadAnswers}
pub use Rattle.flow_io.specs.Sink.{written_of}
pub use Rattle.flow_io.specs.Told.{Absent, Holds, MayExceed, Told}
pub use Rattle.nc_polynomial.proofs.Distinct.{distinct-descending, words_listed}
pub use Rattle.nc_polynomial.proofs.Shapes.{recursion_from_IsDescending}
pub use Rattle.nc_polynomial.specs.Content.{IsContent}
pub use Rattle.nc_polynomial.specs.Shape.{IsShaped}
pub use Rattle.nc_polynomial.specs.declared.fault.PolyFault.{PolyFault}
pub use Rattle.nc_polynomial.specs.declared.poly.Poly.{Poly}
pub use Rattle.cofactor_checker.specs.Acceptance.{IsMemory}
pub use Rattle.cofactor_checker.specs.ProvedMeans.{ProvedMeans}
pub use Rattle.cofactor_checker.specs.declared.refusal.Refusal.{Refusal}
pub use Rattle.cancel_rules.specs.Meaning.{IsCancellationSound}
pub use Rattle.word_orders.proofs.AskedOrders.{asked_rank}
pub use Rattle.word_orders.specs.Admissible.{Compare, IsAdmissible}
pub use Rattle.rule_reduce.proofs.WordsKept.{words_with_coefficients}
pub use Rattle.rule_reduce.specs.Choices.{choice_of}
pub use Rattle.rule_reduce.specs.NormalForms.{at_limit, halt_of, normal_form_of, one_step, reduction, start_of, then_next}
pub use Rattle.rule_reduce.specs.RuleLists.{IsRule, entries_of, polynomials_of}
pub use Rattle.rule_reduce.specs.Steps.{step_result}
pub use Rattle.rule_reduce.specs.declared.fault.ReduceFault.{ReduceFault}
pub use Rattle.rule_reduce.specs.declared.rule.Rule.{Rule}
pub use Rattle.rule_reduce.specs.declared.state.Choice.{Choice}
pub use Rattle.rule_reduce.specs.declared.state.State.{State}
pub use Rattle.ambiguities.proofs.Balance.{s_polynomials_balance}
pub use Rattle.ambiguities.proofs.Bounds.{over_terms}
pub use Rattle.ambiguities.proofs.Words.{AreWords, normal_words, words_from, words_nonempty}
pub use Rattle.ambiguities.specs.Ambiguities.{IsAmbiguity}
pub use Rattle.ambiguities.specs.Resolved.{Resolved, s_sum}
pub use Rattle.ambiguities.specs.SPolynomials.{s_polynomial_of}
pub use Rattle.ambiguities.specs.declared.ambiguity.Ambiguity.{Ambiguity}
pub use Rattle.matrix_models.specs.declared.model.Model.{Model}
pub use Rattle.quiver.specs.Declarations.{Declaration, IsDeclared, letter_count, quiver_of}
pub use Rattle.command_shape.proofs.BlockTexts.{passing_answered, text_answered_once}
pub use Rattle.command_shape.proofs.Places.{splits-at, take-at}
pub use Rattle.command_shape.proofs.Stops.{ended_as, ended_by, ends_weaker, handed_on, memory_ends, stops_weaker}
pub use Rattle.command_shape.proofs.Unique.{one_call}
pub use Rattle.command_shape.specs.Blocks.{AcceptsBlock, JudgesFrom, RefusesBlock, accepted, block_text as on_block, faulty, read, refused, refused_text}
pub use Rattle.command_shape.specs.Calls.{IsInRange}
pub use Rattle.command_shape.specs.CommandSet.{command_set}
pub use Rattle.command_shape.specs.Ending.{Ending, line, load_failed, too_long, usage}
pub use Rattle.command_shape.specs.FileWords.{evidence_limit, pair_files, statement_file, statement_limit}
pub use Rattle.command_shape.specs.Stop.{EndsAs, StopsBy}
pub use Rattle.command_shape.specs.Texts.{evidence_fault, limit_text, line_text}
pub use Rattle.command_shape.specs.Usage.{usage_text}
pub use Rattle.command_shape.specs.declared.call.BenchCall.{BenchCall}
pub use Rattle.command_shape.specs.declared.call.Call.{Call}
pub use Rattle.command_shape.specs.declared.call.Call.TheVariants.{Bench, Prove, Refute}
pub use Rattle.command_shape.specs.declared.evidence.EvidenceCommand.{EvidenceCommand}
pub use Rattle.command_shape.specs.declared.files.FileWord.{FileWord}
pub use Rattle.stated_problem.proofs.Over.{refused_statement_ends, stated_ends}
pub use Rattle.stated_problem.proofs.Owed.{IsOwn, OwesEnding}
pub use Rattle.stated_problem.proofs.Statements.{stated_leads}
pub use Rattle.stated_problem.specs.Stated.{IsStated}
pub use Rattle.stated_problem.specs.Statement.{OverStatement, stated}
pub use Rattle.refute_command.proofs.Answered.{search_is_evidence, search_owes}
pub use Rattle.refute_command.specs.Says.{PrintsSearched, SearchMeans}
pub use Rattle.prove_command.proofs.Answered.{claims_are_evidence, claims_owe, reports_owe}
pub use Rattle.prove_command.proofs.BenchSize.{bench_fits}
pub use Rattle.prove_command.specs.Answers.{AnswersClaims, AreVerdictsOn, IsVerdictOn, Print, asked_by, asked_by_bench, not_derivable, proved, refuted, undecided}
pub use Rattle.prove_command.specs.Says.{PrintsMeant, VerdictMeans}
pub use Rattle.prove_command.specs.declared.prove.Asked.{Asked}
pub use Rattle.evidence_commands.proofs.Causes.{told}
pub use Rattle.evidence_commands.proofs.Certificates.{certificates_are_judged, positive_denominator}
pub use Rattle.evidence_commands.proofs.EachCommand.{answers_judged, are_judged, evidence_owes}
pub use Rattle.evidence_commands.proofs.Models.{models_are_judged}
pub use Rattle.evidence_commands.proofs.Owed.{IsJudged}
pub use Rattle.evidence_commands.proofs.Parts.{told_is_part}
pub use Rattle.evidence_commands.proofs.QuietBlocks.{AreQuiet, basis_is_quiet, cause_is_part, decimal_lacks, evidence_is_quiet, integer_is_part, lacks-append, model_is_quiet, number_is_part, word_is_part}
pub use Rattle.evidence_commands.proofs.QuietTexts.{LineAt, cut, ends_line, first_or_later, lacks, no_line, past_quiet}
pub use Rattle.evidence_commands.proofs.Said.{AcceptedSaid, ClosedSaid, IsTold, Said, SaidMeans, said_text, says_accepted, says_another, says_closed, says_confirmed, says_explained}
pub use Rattle.evidence_commands.specs.CalledLetters.{letters_text}
pub use Rattle.evidence_commands.specs.Check.{certificates, named_text}
pub use Rattle.evidence_commands.specs.Commands.{AnswersEvidence, judged_by}
pub use Rattle.evidence_commands.specs.Confirm.{claim_closed, sharp_ending}
pub use Rattle.evidence_commands.specs.Kind.{Accepts, AnswersText, Kind, Refuses, accepted_lines}
pub use Rattle.evidence_commands.specs.Model.{models}
pub use Rattle.statement_syntax.specs.declared.tree.Statement.{Statement}
pub use Rattle.adjoint_rules.specs.Claims.{claim_at, claim_numbers}
pub use Rattle.adjoint_rules.specs.Limits.{rule_limit}
pub use Rattle.adjoint_rules.specs.Problem.{generators_in, numbers, polynomials}
pub use Rattle.adjoint_rules.specs.declared.basis.Basis.{Basis}
pub use Rattle.adjoint_rules.specs.declared.problem.Problem.{Problem}
pub use Rattle.block_text.proofs.ContentBack.{no_text, whole_append}
pub use Rattle.block_text.proofs.PartsBack.{comment_is_text, inside_is_before_end, joined, other_is_text, text_of_block, text_of_other, text_without_blocks}
pub use Rattle.block_text.specs.Back.{comment, is_named, is_whole, other}
pub use Rattle.block_text.specs.Blocks.{is_other_head, on_count, own_in}
pub use Rattle.block_text.specs.Fault.{no_block}
pub use Rattle.block_text.specs.Lines.{block_limit, content}
pub use Rattle.block_text.specs.Texts.{HasBlocks, none}
pub use Rattle.block_text.specs.Tokens.{tokens_of}
pub use Rattle.block_text.specs.Written.{word_text}
pub use Rattle.certificate_text.specs.Back.{part_text}
pub use Rattle.certificate_text.specs.Blocks.{head_line as certificate_head}
pub use Rattle.model_text.specs.Models.{model_kind}
pub use Rattle.model_text.specs.Written.{model_text}
pub use Rattle.block_lines.proofs.BasesBack.{basis_written}
pub use Rattle.block_lines.proofs.Reader.{reader}
pub use Rattle.block_lines.specs.Back.{HasLetters, IsWritableBasis, text_of}
pub use Rattle.block_lines.specs.Bases.{HasBases, IsFirstFault, basis_kind, by_terms}
pub use Rattle.closed_checker.proofs.ByNumber.{canonical_at, claim_over, generator_over}
pub use Rattle.closed_checker.proofs.ClosedMeaning.{no_rest, reduction_of, zero_is_empty}
pub use Rattle.closed_checker.proofs.Judged.{each_basis_is_judged, has_all}
pub use Rattle.closed_checker.proofs.PartOrder.{order_laws}
pub use Rattle.closed_checker.specs.Closed.{IsClosedBasis, IsNumberUpTo, NamesClaim}
pub use Rattle.closed_checker.specs.Limits.{step_limit}
pub use Rattle.closed_checker.specs.Rests.{MayBeRule, claim_of, order_of, rest_by, rest_in, rest_of, rules_from, rules_of}
pub use Rattle.closed_checker.specs.declared.refusal.ClosedRefusal.{ClosedRefusal}
pub use Rattle.abbreviations.specs.Written.{assumptions_of, claims_in, claims_of, equations_of}
pub use Rattle.abbreviations.specs.declared.written.Equation.{Equation}
pub use Rattle.statement_names.specs.Marked.{marked_of}
pub use Rattle.statement_names.specs.Numbered.{declarations_of}
pub use Rattle.statement_names.specs.Starred.{is_starred}
pub use Rattle.signature_typing.proofs.EachStatement.{none_wrong}
pub use Rattle.signature_typing.proofs.Values.{AreValues, IsValue, all_values}
pub use Rattle.signature_typing.specs.Fault.{told_polynomial}
pub use Rattle.signature_typing.specs.Typing.{polynomial_in, value_in}
pub use Rattle.report_text.specs.Bench.{bench_statement}
pub use Rattle.report_text.specs.Heads.{cause_text, denominator_text, head_line, least_text, place_text, row_count, said_of}
pub use Rattle.report_text.specs.Report.{block_text, heads_from, heads_of, report_from, report_of}
pub use Rattle.report_text.specs.declared.verdict.Verdict.{Verdict}
pub use Rattle.confluence.proofs.FreeRows.{Free, ideal_span, in_ideal}
pub use Rattle.confluence.proofs.Ideals.{all_from_numbers, generator_decided, ideals_stay_inside}
pub use Rattle.confluence.proofs.OutsideIdeals.{resolved_where_closed}
pub use Rattle.confluence.proofs.RestLaws.{normal_forms_are_reduced, rests_of_ideal_are_zero}
pub use Rattle.confluence.proofs.ShapeLaws.{s_polynomials_are_shaped}
pub use Rattle.confluence.proofs.Spans.{single, span_same}
pub use Rattle.confluence.proofs.SumRows.{Numbered}
pub use Rattle.confluence.proofs.TypedLaws.{typed_has_no_empty_word}
pub use Rattle.confluence.specs.Reductions.{HasLettersBelow, IsZero}
pub use Rattle.rule_making.specs.Making.{Recorded}
pub use Rattle.traced_completion.proofs.UniqueRuns.{rounds_unique, states_unique}
pub use Rattle.traced_completion.specs.PlainRun.{Ends, IsCauseOf, IsRound, IsRunState, RunState, Setting, closed, setting_of, stopped, went}
pub use Rattle.traced_completion.specs.declared.budget.Budget.{Budget}
pub use Rattle.claim_decider.proofs.UniqueOutcomes.{gets_once, open_claim, open_run}
pub use Rattle.claim_decider.specs.Decided.{AreLastRules, AreOutcomesOf, GetsOutcomeBy, polynomials_in}
pub use Rattle.claim_decider.specs.Outcomes.{Expands, Gathers, GetsOutcome, IsCauseOfExpansion, IsCauseOfGathering, IsDoneBy, IsDoneWith, IsHalted, IsLeft, IsOpen, after_round, at_once, by_closing, by_stop, record_of}
pub use Rattle.claim_decider.specs.declared.outcome.Outcome.{Outcome}
pub use Rattle.outcome_laws.proofs.OutcomeLetters.{last_rules_have_letters, outcomes_have_letters}
pub use Rattle.outcome_laws.proofs.PrimitiveRules.{runs_are_primitive}
pub use Rattle.outcome_laws.proofs.ProblemPolynomials.{any_letter, claim_is}
pub use Rattle.outcome_laws.proofs.ProblemStates.{generators_are_reached, state_kept}
pub use Rattle.outcome_laws.proofs.WholeRuns.{closed_is_nothing_pending}
pub use Rattle.outcome_laws.specs.KeptRuns.{done_after}
pub use Rattle.outcome_laws.specs.Meanings.{IsOutcomeAt}
pub use Rattle.model_checker.specs.Models.{Refutes}
pub use Rattle.model_checker.specs.RefutedMeans.{RefutedMeans}
pub use Rattle.statement_meaning.proofs.Claims.{claim_there}
pub use Rattle.statement_meaning.proofs.Meanings.{claim_is_read, zeros_from_held}
pub use Rattle.statement_meaning.specs.Claims.{AssumptionsHold, ClaimHolds, IsClaim, quiver_in, read_in}
pub use Rattle.statement_meaning.specs.Laws.{IsRead, reading}
pub use Rattle.statement_meaning.specs.Meanings.{SaysEquations}
pub use Rattle.report_readback.proofs.Declared.{declared_names_are_names}
pub use Rattle.report_readback.proofs.Heads.{told_is_line, told_of}
pub use Rattle.report_readback.proofs.Models.{model_head, model_is, model_is_part, model_lines}
pub use Rattle.report_readback.proofs.Outcomes.{few_verdicts, verdicts_writable}
pub use Rattle.report_readback.proofs.SkippedEvidence.{IsSkipped, evidence_is_skipped, lines_go_on}
pub use Rattle.report_readback.specs.Answered.{IsAnsweredWithinLimits, PassesLimit}
pub use Rattle.report_readback.specs.ModelsReadBack.{IsReadAsModels, refuted_in}
pub use Rattle.report_readback.specs.OwnEvidence.{IsItsOwnEvidence}
pub use Rattle.report_readback.specs.ReadBack.{AreVerdictsOf, IsReadAs, IsVerdictOfHalt, IsWritableVerdict, proved_in}
pub use Rattle.normal_forms.proofs.StarSharp.{star_sharp_means}
pub use Rattle.normal_forms.specs.SharpMeans.{SharpMeans, StarSharpMeans}
pub use Rattle.normal_category.proofs.Problems.{problem_is_sharp}
pub use Rattle.normal_category.proofs.Tested.{sharp_rules_are_told}
pub use Rattle.normal_category.specs.Faults.{AreSharp}
pub use Rattle.normal_category.specs.Tests.{is_sharp}
pub use Rattle.command_runs.specs.Answers.{Answers, AnswersOver}
pub use Rattle.command_runs.specs.BasesReadBack.{IsReadAsBases, ReportedBasesAreConfirmed, ReportsReadBackAsBases, StatementReportsReadBackAsBases, bases_from, basis_by, closed_from}
pub use Rattle.command_runs.specs.Call.{IsCalled, IsTaken}
pub use Rattle.command_runs.specs.CallFiles.{AreContents, evidence_of, files_of, statement_of, written_by}
pub use Rattle.command_runs.specs.Ends.{EndsBy, MayEnd, called, other_words}
pub use Rattle.command_runs.specs.Files.{AfterFiles, AreHeld, AreLoaded, EndsAtFile, IsFirstTooLong, IsMissing, IsReached, RoseAt, WereLoaded}
pub use Rattle.command_runs.specs.Headline.{HasMeaning}
pub use Rattle.command_runs.specs.Laws.{AnswersOnce, EachCallHasAnEnding}
pub use Rattle.command_runs.specs.OwnReports.{ChecksReport, ConfirmsReport, IsReportOn, ReportsAreChecked, ReportsAreConfirmed, no_blocks, of_prove, of_refute}
pub use Rattle.command_runs.specs.Printed.{IsConfirmedWithinLimits, IsPrinted, IsStop, PrintedBasesAreConfirmed}
pub use Rattle.command_runs.specs.Promises.{IsMeant, LinesAreMeant, PutsWhatIsMeant}
pub use Rattle.command_runs.specs.Promises.Accepted.{ProvesClaimWith, SaysAccepted}
pub use Rattle.command_runs.specs.Promises.Confirmed.{IsBlock, SaysConfirmed}
pub use Rattle.command_runs.specs.Promises.Faultless.{IsFaultlessFile}
pub use Rattle.command_runs.specs.Promises.Lines.{AreLines, HasLine, HasLineBefore, block_line, claim_line, number_limit}
pub use Rattle.command_runs.specs.Promises.NotDerivable.{IsNotDerivable, IsPolynomialOf, SaysClosed}
pub use Rattle.command_runs.specs.Promises.Proved.{IsProved, SaysExplained, SaysProved}
pub use Rattle.command_runs.specs.Promises.Refuted.{IsNext, IsRefuted}
pub use Rattle.command_runs.specs.Promises.Sharp.{IsSharp}
pub use Rattle.command_runs.specs.Promises.Undecided.{IsUndecided, budget_of}
pub use Rattle.command_runs.specs.Put.{IsPut, in_part, whole}
pub use Rattle.command_runs.specs.Run.{SaysAnswer, SaysLoadFailed, SaysTooLong}
pub use Rattle.command_runs.specs.Says.{Says, SaysOver}
pub use Rattle.command_runs.specs.Seen.{Run, seen}
pub use Rattle.command_runs.specs.SharpBases.{PrintedBasesAreSharp, PrintedBasesMeanSharp, PrintedBasesMeanStarSharp}
