-- What the proofs here take from std, from the crates below and from this crate's definitions, each name once.
pub use Rattle.std.proofs.Common.{Bool, Err, IfErr, IfOk, IsTrue, List, MatchResult, None, Ok, OnOk, Option, Result, Some, [], ap, append_assoc, arith, codes, cond, false, flat_map, get_or, inl, inr, length, map, nat_eq, negsuc, not, pos, refl, rules, slice_get, subst, suc, sym, take, true, zero, ℕ, ℤ, ◌%◌, ◌&&◌, ◌++◌, ◌+◌, ◌/◌, ◌<ℤ◌, ◌<◌, ◌==◌, ◌∙◌, ◌∷◌, ◌≡◌, ◌≤◌, ◌⊎◌}
pub use Rattle.std.proofs.lemmas.Bool.{and_parts, eq-eqb, lt-ltb, ne_eqb}
pub use Rattle.std.proofs.lemmas.List.{append-nil, length-append, take_all}
pub use Rattle.std.proofs.lemmas.List.Elements.{All-head, All-map, All-tail, All-weaker}
pub use Rattle.std.proofs.lemmas.List.Folds.{list_all-append}
pub use Rattle.std.specs.Fmt.{digit_glyph, digits_onto, signed_decimal}
unfoldable pub use Rattle.std.specs.Fmt.{digits}
pub use Rattle.std.specs.Int.{is_negative}
pub use Rattle.std.specs.Int.RustNames.{unsigned_abs}
pub use Rattle.std.specs.List.{All, AllByRecursion, list_all, range_with_len}
pub use Rattle.std.specs.Option.{IfSome}
pub use Rattle.std.specs.Prelude.{decimal, zip}
pub use Rattle.std.specs.Result.{is_ok}
pub use Rattle.definitions.proofs.StarSound.{star_sound}
pub use Rattle.definitions.specs.Category.{InvolutionLaws, PreadditiveLaws, Structure}
pub use Rattle.definitions.specs.Combination.{InRationalIdeal, Row, generator_at, row_sum}
pub use Rattle.definitions.specs.Poly.{Term}
pub use Rattle.definitions.specs.Quiver.{Quiver, letters}
pub use Rattle.definitions.specs.Representation.{Cancels, Representation, Represents, StarRepresents}
pub use Rattle.definitions.specs.Soundness.{HasSignature, HasValueZero, IsSound, MakesZero}
pub use Rattle.coef_int.specs.declared.Overflow.{Overflow}
pub use Rattle.word_core.specs.Letters.{IsOver}
pub use Rattle.word_core.specs.declared.letter.Letter.{Letter}
pub use Rattle.representations.specs.Evidence.{IsEvidenceSound}
pub use Rattle.traced_rows.specs.LemmaRows.{denominator_of}
pub use Rattle.traced_rows.specs.Rows.{row_of, rows_of}
pub use Rattle.traced_rows.specs.declared.certificate.CertRow.{CertRow}
pub use Rattle.traced_rows.specs.declared.certificate.Certificate.{Certificate}
pub use Rattle.traced_rows.specs.declared.evidence.CertFrom.{CertFrom}
pub use Rattle.traced_rows.specs.declared.evidence.Evidence.{Evidence}
pub use Rattle.traced_rows.specs.declared.evidence.Evidence.TheVariants.{Lemmas, Plain}
pub use Rattle.traced_rows.specs.declared.evidence.Lemma.{Lemma}
pub use Rattle.traced_rows.specs.declared.evidence.LemmaCertificate.{LemmaCertificate}
pub use Rattle.traced_rows.specs.declared.evidence.LemmaRow.{LemmaRow}
pub use Rattle.cofactor_trace.specs.Limits.{row_limit}
pub use Rattle.cofactor_trace.specs.declared.halt.Cause.{Cause}
pub use Rattle.nc_polynomial.specs.Limits.{term_limit, word_limit}
pub use Rattle.nc_polynomial.specs.declared.fault.PolyFault.{PolyFault}
pub use Rattle.nc_polynomial.specs.declared.poly.Poly.{Poly}
pub use Rattle.cofactor_checker.proofs.Judged.{accepted_evidence_is_not_refused, evidence_is_judged, evidence_refusal_is_unique}
pub use Rattle.cofactor_checker.proofs.LetterSums.{AreOver, IsLemmaOver, Stays, claim_stays, difference_is_over, drawn, generators_stay, indivisible_is_over, is_over, lemmas_stay, over_word, plain_stays, sum_stays, word_over}
pub use Rattle.cofactor_checker.proofs.ProvedMeans.{claim_typed, means_zero, plain_generators, proved_means}
pub use Rattle.cofactor_checker.proofs.Shown.{accepted_evidence_adds_up}
pub use Rattle.cofactor_checker.specs.Acceptance.{IsMemory}
pub use Rattle.cofactor_checker.specs.Evidence.{IsReadableEvidence, RefusesEvidence, ShowsClaim}
pub use Rattle.cofactor_checker.specs.LemmaAcceptance.{IsRanged, RefusesBlock, RefusesLemmaCertificate, all_polynomials}
pub use Rattle.cofactor_checker.specs.Lemmas.{kept_limit, row_count}
pub use Rattle.cofactor_checker.specs.PlainRows.{plain_sum}
pub use Rattle.cofactor_checker.specs.ProvedMeans.{EvidenceAddsUp, MeansZero}
pub use Rattle.cofactor_checker.specs.Rows.{IsNumberUpTo, sum_limit}
pub use Rattle.cofactor_checker.specs.declared.refusal.Refusal.{Refusal}
pub use Rattle.cancel_rules.proofs.Judged.{accepted_cancellation_is_not_refused, cancellation_is_judged, cancellation_refusal_is_unique}
pub use Rattle.cancel_rules.proofs.Letters.{difference_over, indivisible_over}
pub use Rattle.cancel_rules.proofs.Shown.{accepted_cancellation_leads}
pub use Rattle.cancel_rules.specs.Acceptance.{IsLetterOf, IsReadableCancellation, all_items}
pub use Rattle.cancel_rules.specs.Cancellations.{IsCancellationOf, declared_for}
pub use Rattle.cancel_rules.specs.Meaning.{AreEpic, AreMonic, IsCancellationSound, MakesZeroByCancelling}
pub use Rattle.cancel_rules.specs.declared.cancellation.Cancellation.{Cancellation}
pub use Rattle.cancel_rules.specs.declared.cancellation.Side.{Side}
pub use Rattle.cancel_rules.specs.declared.refusal.CancelRefusal.{CancelRefusal}
pub use Rattle.word_orders.specs.Specified.{asked_cmp}
pub use Rattle.rule_reduce.specs.NormalForms.{halt_of, normal_form_of}
pub use Rattle.rule_reduce.specs.RuleLists.{IsRule, polynomials_of}
pub use Rattle.rule_reduce.specs.declared.fault.ReduceFault.{ReduceFault}
pub use Rattle.rule_reduce.specs.declared.rule.Rule.{Rule}
pub use Rattle.rule_reduce.specs.declared.state.State.{State}
pub use Rattle.ambiguities.proofs.OverLetters.{reduced_over}
pub use Rattle.ambiguities.proofs.Words.{s_words, words_over}
pub use Rattle.ambiguities.specs.Ambiguities.{IsAmbiguity}
pub use Rattle.ambiguities.specs.Resolved.{Resolved}
pub use Rattle.ambiguities.specs.SPolynomials.{s_polynomial_of}
pub use Rattle.ambiguities.specs.declared.ambiguity.Ambiguity.{Ambiguity}
pub use Rattle.ambiguities.specs.declared.ambiguity.Kind.TheVariants.{Inclusion, Overlap}
pub use Rattle.matrix_models.specs.Matrix.{Matrix, entry_at}
pub use Rattle.matrix_models.specs.declared.model.Model.{Model}
pub use Rattle.quiver.proofs.Counts.{letters-quiver_of}
pub use Rattle.quiver.specs.Declarations.{Declaration, letter_count, letter_name, name_at, name_of, named_in, object_name, quiver_of}
pub use Rattle.quiver.specs.declared.named.Named.{Named}
pub use Rattle.quiver.specs.declared.named.Named.TheVariants.{Map, Object}
pub use Rattle.command_shape.proofs.BlockTexts.{IsKind, all_first, first_answered, passing_answered, text_answered, text_answered_once, text_status, zero_answered}
pub use Rattle.command_shape.proofs.Stops.{read_ends, refused_evidence_ends}
pub use Rattle.command_shape.proofs.Told.{two_put}
pub use Rattle.command_shape.specs.Blocks.{Judges}
pub use Rattle.command_shape.specs.Ending.{Ending, refused_evidence}
pub use Rattle.command_shape.specs.Stop.{EndsAs}
pub use Rattle.command_shape.specs.Texts.{evidence_fault}
pub use Rattle.command_shape.specs.declared.evidence.EvidenceCommand.{EvidenceCommand}
pub use Rattle.command_shape.specs.declared.evidence.EvidenceCommand.TheVariants.{Cancel, Check, Confirm, Explain}
pub use Rattle.stated_problem.proofs.Owed.{OwesEnding, owed_over, zero_or_past}
pub use Rattle.stated_problem.proofs.Statements.{over_problem, stated_leads}
pub use Rattle.stated_problem.specs.Statement.{OverStatement, faulty, stated}
pub use Rattle.adjoint_rules.proofs.Generators.{generators_are_zero, generators_have_signatures, posed_quiver, zero_along}
pub use Rattle.adjoint_rules.specs.Bases.{IsBasisOver}
pub use Rattle.adjoint_rules.specs.Claims.{claim_at}
pub use Rattle.adjoint_rules.specs.Limits.{rule_limit}
pub use Rattle.adjoint_rules.specs.Problem.{generators_in, polynomials}
pub use Rattle.adjoint_rules.specs.declared.basis.Basis.{Basis}
pub use Rattle.adjoint_rules.specs.declared.problem.Problem.{Problem}
pub use Rattle.block_text.proofs.NameBytes.{name_text}
pub use Rattle.block_text.proofs.NumbersBack.{bytes_inside}
pub use Rattle.block_text.proofs.PartsBack.{inside_is_before_end}
pub use Rattle.block_text.proofs.PolynomialBounds.{all_with}
pub use Rattle.block_text.proofs.Puts.{four_put}
pub use Rattle.block_text.specs.Back.{is_named}
pub use Rattle.block_text.specs.Fault.{ExplainsBy}
pub use Rattle.block_text.specs.Written.{factor_text, first_text, later_text, letter_text, poly_text, spelled_as, term_text, word_text}
pub use Rattle.block_text.specs.declared.fault.CertFault.{CertFault}
pub use Rattle.certificate_text.proofs.EachText.{each_text_is_read, evidence_has_no_fault, evidence_is_unique, first_fault_is_unique}
pub use Rattle.certificate_text.specs.Evidence.{IsCheckable, IsCheckableByLemmas, IsCheckableEvidence, IsCheckableLemma, IsRowOver}
pub use Rattle.certificate_text.specs.Written.{evidence_text, lemmas_text, opening_text}
pub use Rattle.model_text.proofs.EachText.{models_are_unique, models_have_no_fault}
pub use Rattle.model_text.proofs.ModelValues.{models_are_models}
pub use Rattle.model_text.specs.Models.{IsModel, IsModels}
pub use Rattle.model_text.specs.Written.{maps_text, model_text, numbered_text, sides_text}
pub use Rattle.cancellation_text.proofs.Readable.{proofs_are_readable}
pub use Rattle.block_lines.proofs.BasisValues.{are_few, are_over}
pub use Rattle.block_lines.proofs.EachText.{bases_are_unique, bases_have_no_fault}
pub use Rattle.block_lines.specs.Bases.{IsBases, IsFirstFault}
pub use Rattle.block_lines.specs.Written.{basis_text, rule_line}
pub use Rattle.closed_checker.proofs.BasisRules.{rules_from-are}
pub use Rattle.closed_checker.proofs.ByNumber.{claim_over, generator_over}
pub use Rattle.closed_checker.proofs.ClosedMeaning.{closed_bases_mean_outside, no_rest}
pub use Rattle.closed_checker.proofs.Judged.{basis_refusal_is_unique, closed_basis_is_not_refused, each_basis_is_judged}
pub use Rattle.closed_checker.specs.Closed.{HasRules, IsClosedBasis, IsReadableBasis}
pub use Rattle.closed_checker.specs.Laws.{ClosedMeans}
pub use Rattle.closed_checker.specs.Limits.{step_limit}
pub use Rattle.closed_checker.specs.Rests.{claim_of, order_of, rest_by, rest_in, rest_of, rules_of}
pub use Rattle.closed_checker.specs.declared.part.Part.{Part}
pub use Rattle.closed_checker.specs.declared.refusal.ClosedRefusal.{ClosedRefusal}
pub use Rattle.report_text.specs.Heads.{cause_text, overflow_text}
pub use Rattle.equation_chain.proofs.Chains.{lines_are_a_chain}
pub use Rattle.equation_chain.proofs.Going.{all_there, none_before, some_before}
pub use Rattle.equation_chain.proofs.Letters.{line_over, lines_have_signatures}
pub use Rattle.equation_chain.proofs.Lines.{lines_long, lines_more}
pub use Rattle.equation_chain.proofs.Making.{fewer, line_stays}
pub use Rattle.equation_chain.proofs.Spelled.{line_is_text, line_spelled, lines_text_more, step_spelled, use_is_text}
pub use Rattle.equation_chain.proofs.Sums.{steps_add_up}
pub use Rattle.equation_chain.proofs.Typed.{steps_typed}
pub use Rattle.equation_chain.proofs.Vanishing.{lines_vanish}
pub use Rattle.equation_chain.specs.Faults.{StepsPass, line_before, steps_before}
pub use Rattle.equation_chain.specs.Limits.{letter_limit}
pub use Rattle.equation_chain.specs.Lines.{line_less, lines_by, lines_of}
pub use Rattle.equation_chain.specs.Made.{GoesOn, IsLineBefore}
pub use Rattle.equation_chain.specs.Spelled.{IsLineSpelled, IsStepSpelled, line_by, use_by}
pub use Rattle.equation_chain.specs.Steps.{is_step, steps_in, steps_of}
pub use Rattle.equation_chain.specs.Written.{chain_text, line_text, lines_text, steps_text, use_text}
pub use Rattle.equation_chain.specs.declared.fault.ChainFault.{ChainFault}
pub use Rattle.model_checker.proofs.Judged.{each_model_is_judged, model_refusal_is_unique, refuting_model_is_not_refused}
pub use Rattle.model_checker.proofs.RefutedMeans.{refuted_means}
pub use Rattle.model_checker.specs.Models.{IsClaimNumber, Refutes}
pub use Rattle.model_checker.specs.Refusals.{RefusesModel}
pub use Rattle.model_checker.specs.RefutedMeans.{RefutedMeans}
pub use Rattle.model_checker.specs.declared.refusal.ModelRefusal.{ModelRefusal}
pub use Rattle.normal_forms.proofs.StarSharp.{star_sharp_means}
pub use Rattle.normal_forms.specs.SharpMeans.{SharpMeans, StarSharpMeans}
pub use Rattle.normal_category.proofs.Problems.{problem_is_sharp}
pub use Rattle.normal_category.proofs.Tested.{sharp_rules_are_told}
pub use Rattle.normal_category.specs.Faults.{AreSharp}
pub use Rattle.normal_category.specs.Tests.{is_sharp}
pub use Rattle.evidence_commands.specs.CalledLetters.{called_text, letters_text, names_text}
pub use Rattle.evidence_commands.specs.Cancel.{CancelledMeans, MakesZeroByStar, accepted_text, cancellations}
pub use Rattle.evidence_commands.specs.Causes.{HasLetters, claim_text, operation_text}
pub use Rattle.evidence_commands.specs.Check.{AcceptedMeans, IsAccepted, certificates, claim_number, named_text}
pub use Rattle.evidence_commands.specs.Commands.{AnswersEvidence, SaysEvidence, judged_by}
pub use Rattle.evidence_commands.specs.Confirm.{BasisMeans, HasRefusalLetters, ambiguity_text, bases, claim_closed, closed_text, kind_text, left_text, part_text, sharp_ending}
pub use Rattle.evidence_commands.specs.Explain.{BlockMeans, ExplainedMeans, HasFaultLetters, IsChained, IsExplained, IsRefused, chains, explained_text, fault_text, head_text, refusal_text, text_before}
pub use Rattle.evidence_commands.specs.Kind.{Accepts, AnswersBoth, AnswersText, Kind, Refuses, Says}
pub use Rattle.evidence_commands.specs.Laws.{FaultsAreAnswered, PassingAreAnswered, ReadBasesAreReadable, ThreeIsFaulty, ZeroIsPassing, ZeroMeans}
pub use Rattle.evidence_commands.specs.Model.{ConfirmedMeans, HasModelLetter, claim_confirmed, map_cause, model_cause, models}
