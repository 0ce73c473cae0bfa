-- What the proofs here take from std, from the crates below and from this crate's definitions, each name once.
pub use Rattle.std.proofs.Common.{Bool, Err, IsTrue, List, None, Ok, Option, Result, Some, [], ap, ap₂, arith, codes, cond, drop, false, get_or, if◌then◌else◌, inl, inr, int_div, length, map, nat_eq, nat_le, nat_lt, negsuc, not, pos, refl, slice_get, subst, suc, sym, true, zero, ℕ, ℤ, ◌%◌, ◌&&◌, ◌*ℤ◌, ◌++◌, ◌+◌, ◌/◌, ◌<ℤ◌, ◌<◌, ◌==◌, ◌^◌, ◌∙◌, ◌∷◌, ◌≡◌, ◌≢◌, ◌≤◌, ◌⊎◌}
pub use Rattle.std.proofs.Math.Nat.{dvd-mul_right}
pub use Rattle.std.proofs.Math.Utf8.{scalars}
pub use Rattle.std.proofs.lemmas.Bool.{and_parts, le-leb, leb-true, lt-ltb, ne_eqb}
pub use Rattle.std.proofs.lemmas.Bool.Decides.{nat_tests}
pub use Rattle.std.proofs.lemmas.Grind.{flat_map-append}
pub use Rattle.std.proofs.lemmas.Int.{ints, unsigned_abs-mul}
pub use Rattle.std.proofs.lemmas.List.{append-nil, append_assoc, length-append, length-map, nil_from_length}
pub use Rattle.std.proofs.lemmas.List.Elements.{All-append, All-cons, All-filter, All-head, All-map, All-nil, All-pop, All-tail, All-weaker}
pub use Rattle.std.proofs.lemmas.List.Folds.{flat_map-map, list_all-append}
pub use Rattle.std.proofs.lemmas.List.FromFn.{get_or-map-range_with_len, get_or-range_with_len, length-range_with_len}
pub use Rattle.std.proofs.lemmas.Option.{get_or_from_slice_get, slice_get_within}
pub use Rattle.std.proofs.lemmas.Slice.Zip.{AllZip-long}
pub use Rattle.std.proofs.lemmas.Str.{IsUtf8-from_is_utf8, chars-encodes, is_utf8-from_IsUtf8, scalars-chars}
pub use Rattle.std.specs.Fmt.{digit_glyph, digits_onto, signed_decimal}
pub use Rattle.std.specs.Int.{◌∣◌}
pub use Rattle.std.specs.Int.RustNames.{unsigned_abs}
pub use Rattle.std.specs.List.{All, flat_map, list_all, range_with_len}
pub use Rattle.std.specs.Prelude.{decimal}
pub use Rattle.std.specs.Str.{IsUtf8, chars, encode_utf8_all, is_utf8}
pub use Rattle.unicode_ident.specs.Ident.{is_xid_continue}
pub use Rattle.definitions.specs.Combination.{IsCombination, Row, generator_at}
pub use Rattle.definitions.specs.Poly.{SamePolynomial, Term, coefficient_of, poly_multiple}
pub use Rattle.definitions.specs.Quiver.{IsQuiver, letters, star}
pub use Rattle.lists.proofs.Zips.{zip_length}
pub use Rattle.coef_int.specs.Range.{IsCoefficient}
pub use Rattle.coef_int.specs.declared.Overflow.{Overflow}
pub use Rattle.traced_rows.specs.LemmaRows.{AddsUpTo, AreOfLemmas, IsEvidenceOf, IsShareOf, denominator_of}
pub use Rattle.traced_rows.specs.Rows.{row_of, rows_of}
pub use Rattle.traced_rows.specs.declared.Made.{Made}
pub use Rattle.traced_rows.specs.declared.certificate.Certificate.{Certificate}
pub use Rattle.traced_rows.specs.declared.evidence.CertFrom.{CertFrom}
pub use Rattle.traced_rows.specs.declared.evidence.Evidence.{Evidence}
pub use Rattle.traced_rows.specs.declared.evidence.Format.{Format}
pub use Rattle.traced_rows.specs.declared.evidence.Format.TheVariants.{Lemmas}
pub use Rattle.traced_rows.specs.declared.evidence.Lemma.{Lemma}
pub use Rattle.traced_rows.specs.declared.evidence.LemmaCertificate.{LemmaCertificate}
pub use Rattle.traced_rows.specs.declared.evidence.LemmaRow.{LemmaRow}
pub use Rattle.cofactor_trace.specs.GatheringLaws.{IsWithin, NameEarlier, NamesWithin, lemma_polys}
pub use Rattle.cofactor_trace.specs.Lemmas.{lemma_rules}
pub use Rattle.cofactor_trace.specs.Limits.{letter_limit, row_limit}
pub use Rattle.cofactor_trace.specs.declared.halt.Cause.{Cause}
pub use Rattle.cofactor_trace.specs.declared.halt.Halt.{Halt}
pub use Rattle.cofactor_trace.specs.declared.halt.Place.{Place}
pub use Rattle.nc_polynomial.proofs.CollectedTerms.{coefficient_of-collected, descending-collected, nonzero-collected}
pub use Rattle.nc_polynomial.proofs.Kept.{scaled_by_nonzero}
pub use Rattle.nc_polynomial.proofs.Shapes.{Descends, IsDescending-from_recursion, descending-scaled, nonzero-scaled, recursion_from_IsDescending}
pub use Rattle.nc_polynomial.proofs.Unique.{descending_unique}
pub use Rattle.nc_polynomial.specs.Collected.{collected}
pub use Rattle.nc_polynomial.specs.Content.{DividesEach}
pub use Rattle.nc_polynomial.specs.Faults.{has_long_word, sized}
pub use Rattle.nc_polynomial.specs.Limits.{term_limit, word_limit}
pub use Rattle.nc_polynomial.specs.Shape.{IsCanonical}
pub use Rattle.nc_polynomial.specs.declared.fault.SizeFault.{SizeFault}
pub use Rattle.nc_polynomial.specs.declared.poly.Poly.{Poly}
pub use Rattle.cofactor_checker.proofs.Judged.{evidence_is_judged}
pub use Rattle.cofactor_checker.proofs.LemmaSums.{sums_agree}
pub use Rattle.cofactor_checker.proofs.LemmaTests.{no_rest}
pub use Rattle.cofactor_checker.proofs.Places.{place-generator, place-lemma}
pub use Rattle.cofactor_checker.proofs.RowSums.{length-polynomials}
pub use Rattle.cofactor_checker.proofs.Terms.{quotient_back}
pub use Rattle.cofactor_checker.specs.Acceptance.{IsMemory, Refuses, claim_of}
pub use Rattle.cofactor_checker.specs.Difference.{IsLeastDifference}
pub use Rattle.cofactor_checker.specs.LemmaAcceptance.{HasLooseGoal, IsFirstLoose, IsPositive, RefusesBlock, RefusesLemmaCertificate, all_polynomials, goal_claim}
pub use Rattle.cofactor_checker.specs.Lemmas.{IsLeastIndivisible, RefusesLemma, RefusesLemmaRows, RefusesLemmas, lemma_polynomial, lemma_polynomials}
pub use Rattle.cofactor_checker.specs.PlainRows.{place_of, plain_row, plain_rows, plain_sum}
pub use Rattle.cofactor_checker.specs.ProvedMeans.{LemmaCertificateAddsUp}
pub use Rattle.cofactor_checker.specs.Rows.{IsNumberUpTo, LacksGenerator}
pub use Rattle.cofactor_checker.specs.declared.refusal.Refusal.{Refusal}
pub use Rattle.rule_reduce.specs.RuleLists.{polynomials_of}
pub use Rattle.rule_reduce.specs.declared.rule.Rule.{Rule}
pub use Rattle.matrix_models.specs.Matrix.{Matrix, entry_at}
pub use Rattle.matrix_models.specs.declared.model.Model.{Model}
pub use Rattle.quiver.proofs.Counts.{letters-quiver_of}
pub use Rattle.quiver.proofs.Found.{is_named as is_found}
pub use Rattle.quiver.proofs.Identities.{identity_is}
pub use Rattle.quiver.specs.Declarations.{Declaration, IsDeclared, ObjectsFirst, arrow, letter_count, letter_name, named_in, object, object_count, object_name, quiver_of}
pub use Rattle.quiver.specs.Over.{IsPolyOver}
pub use Rattle.quiver.specs.declared.named.Named.{Named}
pub use Rattle.quiver.specs.declared.named.Named.TheVariants.{Map}
pub use Rattle.statement_tokens.proofs.EachCharacter.{EachIs}
pub use Rattle.statement_tokens.proofs.Reading.{◌>>=◌}
unfoldable pub use Rattle.statement_tokens.proofs.Reading.{tokens_from}
pub use Rattle.statement_tokens.proofs.Rescan.{name_back, one_token}
pub use Rattle.statement_tokens.proofs.Scanning.{spot}
pub use Rattle.statement_tokens.proofs.TokenLaws.{are_read, read_are}
pub use Rattle.statement_tokens.specs.Items.{item_at, name_of}
pub use Rattle.statement_tokens.specs.Language.{language_of}
pub use Rattle.statement_tokens.specs.Limits.{name_limit}
pub use Rattle.statement_tokens.specs.Tokens.{end_of}
pub use Rattle.statement_tokens.specs.declared.fault.Fault.TheVariants.{BadToken}
pub use Rattle.statement_tokens.specs.declared.fault.Placed.{Placed}
pub use Rattle.statement_tokens.specs.declared.language.Language.{Language}
pub use Rattle.statement_tokens.specs.declared.token.Token.{Token}
pub use Rattle.statement_syntax.proofs.BareTokens.{AllSpelled, AreTokensOf, file_are}
pub use Rattle.statement_syntax.proofs.Moved.{kinds}
pub use Rattle.statement_syntax.proofs.Spelled.{AllKinds, AllKinds-split, IsFileToken, IsToken, SpellsName, tokens_are}
pub use Rattle.statement_syntax.proofs.StatedKinds.{kinds-append}
pub use Rattle.statement_syntax.specs.Grammar.{Stated, StatedLine, by_degree, by_weight, file_tokens, listed, mapped, modelled, name_token, names_tokens, paired, projected, second_language, sides, stated_tokens}
pub use Rattle.statement_syntax.specs.Places.{bare_names, bare_stated}
pub use Rattle.statement_syntax.specs.Tree.{file_tree, is_self, stated_kind}
pub use Rattle.statement_syntax.specs.declared.line.ListWord.TheVariants.{Eliminate, Object, Solve}
pub use Rattle.statement_syntax.specs.declared.line.PairWord.TheVariants.{Inner, Inverse, Pinv}
pub use Rattle.statement_syntax.specs.declared.line.SidesWord.TheVariants.{Assume, Claim}
pub use Rattle.statement_syntax.specs.declared.tree.Name.{Name}
pub use Rattle.statement_syntax.specs.declared.tree.Statement.{Statement}
pub use Rattle.statement_syntax.specs.declared.tree.StatementKind.{StatementKind}
pub use Rattle.adjoint_rules.proofs.Generators.{posed_quiver}
pub use Rattle.adjoint_rules.specs.Claims.{claim_at, claim_numbers}
pub use Rattle.adjoint_rules.specs.Limits.{generator_limit}
pub use Rattle.adjoint_rules.specs.Problem.{polynomials}
pub use Rattle.adjoint_rules.specs.declared.parts.Shape.{Shape}
pub use Rattle.adjoint_rules.specs.declared.problem.Problem.{Problem}
pub use Rattle.block_text.proofs.ContentBack.{IsTextOf, no_text, text-append, text_of_line, whole_append}
pub use Rattle.block_text.proofs.LetterNames.{letter_is_spelled}
pub use Rattle.block_text.proofs.LettersBack.{Comes}
pub use Rattle.block_text.proofs.NameBytes.{name_text}
pub use Rattle.block_text.proofs.NumberLines.{end_is_text}
pub use Rattle.block_text.proofs.PartsBack.{begins_no_end, comment_is_text, inside_is_before_end, joined, other_is_text, text_of_other, text_without_blocks}
pub use Rattle.block_text.proofs.PolysBack.{nothing_is_line, poly_is_line, word_is_line}
pub use Rattle.block_text.proofs.TextsBack.{are_low, line_text-append, literal, plain_name}
pub use Rattle.block_text.specs.Back.{IsBodyLine, IsLineText, block as certificate, comment, ended, is_inside, is_named, is_whole, other}
pub use Rattle.block_text.specs.Blocks.{IsOtherBlock, is_other_head, own_in}
pub use Rattle.block_text.specs.Fault.{no_block}
pub use Rattle.block_text.specs.Letters.{begins_name, is_name}
pub use Rattle.block_text.specs.Lines.{Line, OtherTokens, block_limit, claim_line, content, end_line, is_end}
pub use Rattle.block_text.specs.Texts.{none}
pub use Rattle.block_text.specs.Tokens.{is_skipped, tokens_of}
pub use Rattle.block_text.specs.Written.{poly_text}
pub use Rattle.certificate_text.proofs.BlocksBack.{rows_written}
pub use Rattle.certificate_text.proofs.LemmasBack.{IsWrittenLemma, lemmas_written}
pub use Rattle.certificate_text.proofs.ReadBack.{are_parts_read_back}
pub use Rattle.certificate_text.proofs.RowsBack.{IsWrittenRow, over_generator, rows_are_text, trees}
pub use Rattle.certificate_text.proofs.SizesBack.{IsSize, head_text, opening_is_text, size_written}
pub use Rattle.certificate_text.specs.Back.{IsOfFormat, IsPart, IsWritable, IsWritableByLemmas, IsWritableEvidence, IsWritableInteger, IsWritableLemma, IsWritableRow, Part, evidence_in, number_of, part_text}
pub use Rattle.certificate_text.specs.Blocks.{denominator_line, row_line}
pub use Rattle.certificate_text.specs.Bounds.{IsCertificateOf}
pub use Rattle.certificate_text.specs.Evidence.{HasCertificates, IsRowOver}
pub use Rattle.certificate_text.specs.Written.{IsEvidenceOver, IsLemmaOver, evidence_text, lemma_row_text, lemmas_text, opening_text, scaled_text}
pub use Rattle.model_text.proofs.ModelsBack.{model_has, model_is_whole}
pub use Rattle.model_text.proofs.ObjectNames.{object_is_named}
pub use Rattle.model_text.proofs.Reader.{reader}
pub use Rattle.model_text.specs.Back.{IsWritableModel}
pub use Rattle.model_text.specs.ModelBounds.{model_value}
pub use Rattle.model_text.specs.Models.{HasMap, HasModels, IsFirstFault, IsPlaced, model_kind, other_words}
pub use Rattle.model_text.specs.Written.{between, entry_text, is_map, map_text, maps_text, model_text, part_text as row_part, row_text, rows_text, sides_text}
pub use Rattle.block_lines.specs.Written.{basis_text, rule_line}
pub use Rattle.abbreviations.specs.Names.{object_of}
pub use Rattle.statement_names.specs.Numbered.{declarations_of, declared_objects, maps_in, objects_in}
pub use Rattle.expressions.proofs.Maps.{map_after_objects, map_before_adjoint}
pub use Rattle.report_text.specs.Heads.{cause_text, denominator_text, head_line, least_text, overflow_text, place_text, proved_text, row_count, said_of, undecided_text}
pub use Rattle.report_text.specs.Report.{IsLeastOver, block_text, report_from, report_of}
pub use Rattle.report_text.specs.declared.verdict.Verdict.{Verdict}
pub use Rattle.traced_completion.specs.PlainRun.{setting_of}
pub use Rattle.traced_completion.specs.declared.budget.Budget.{Budget}
pub use Rattle.claim_decider.specs.Decided.{AreLastRules, AreOutcomesOf}
pub use Rattle.claim_decider.specs.Outcomes.{IsOutcomeOf, evidence_of_zero, record_of}
pub use Rattle.claim_decider.specs.declared.outcome.Outcome.{Outcome}
pub use Rattle.outcome_laws.proofs.Derivations.{gathering_adds_up}
pub use Rattle.outcome_laws.proofs.DerivedClaims.{certificate_adds_up}
pub use Rattle.outcome_laws.proofs.EvidenceFits.{evidence_fits}
pub use Rattle.outcome_laws.proofs.Meanings.{derived_claims_add_up}
pub use Rattle.outcome_laws.proofs.OutcomeLetters.{last_rules_have_letters, outcomes_have_letters}
pub use Rattle.outcome_laws.proofs.OutcomeWays.{Way, expanded, gathered, given_up, left_over, no_terms, way, with_run}
pub use Rattle.outcome_laws.specs.EvidenceLimits.{IsCertificateWithin, IsLemmaCertificateWithin, IsLemmaWithin, IsRowWithin, IsWithinLimits}
pub use Rattle.outcome_laws.specs.Meanings.{IsOutcomeAt}
pub use Rattle.model_checker.specs.Models.{HaveMatrices, Refutes}
pub use Rattle.model_checker.specs.Representations.{map_at}
pub use Rattle.model_candidates.specs.Candidates.{Breaks, IsCandidate, digits, is_declared_map, matrix_by, model_by, naming, place_by}
pub use Rattle.model_search.proofs.SearchAnswers.{breaking_candidates_refute}
pub use Rattle.report_readback.specs.Answered.{AcceptsOf, DerivedEvidenceIsAnswered, IsAnsweredWithinLimits, PassesLimit, RefusesOf, ReportedEvidenceIsAnswered}
pub use Rattle.report_readback.specs.ModelsReadBack.{IsReadAsModels, ReportsReadBackAsModels, refuted_in}
pub use Rattle.report_readback.specs.Names.{DeclaredNamesAreNames, IsNameToken, NamesAreNameTokens}
pub use Rattle.report_readback.specs.OwnEvidence.{IsItsOwnEvidence}
pub use Rattle.report_readback.specs.ReadBack.{AreVerdictsOf, IsReadAs, IsVerdictOf, IsVerdictOfHalt, IsWritableVerdict, OutcomeReportsReadBack, ReportsReadBack, derived_in, proved_in}
