-- What the proofs here take from std, from the crates below and from this crate's definitions, each name once.
pub use Rattle.std.proofs.Common.{Bool, Err, IfErr, IfOk, IsTrue, List, MatchResult, None, Ok, OnOk, Option, Result, Some, [], ap, ap₂, arith, codes, cond, drop, eq-eqb, eqb, eqb-true, false, filter, get_or, inl, inr, length, lt-ltb, ltb, ltb-true, map, neg_ℤ, negsuc, of_z, pos, refl, rules, slice_get, subst, suc, sym, take, to_z, true, true≢false, zero, ℕ, ℤ, ◌&&◌, ◌*ℤ◌, ◌*◌, ◌++◌, ◌+ℤ◌, ◌+◌, ◌-◌, ◌<◌, ◌^◌, ◌||◌, ◌∙◌, ◌∷◌, ◌≡◌, ◌≢◌, ◌≤ℤ◌, ◌≤◌, ◌⊎◌}
pub use Rattle.std.proofs.Math.IntN.{*ℤ-zero, *ℤ_comm, +ℤ_idl, zero-*ℤ, ℤ_discrete}
pub use Rattle.std.proofs.Math.Seq.{drop-cons, take-append-add, take-append_seam}
pub use Rattle.std.proofs.lemmas.Bool.{and_from, and_parts, cases_lt, cases_order, false_from_ne_true, or_cases, or_left, or_right}
pub use Rattle.std.proofs.lemmas.Bool.Decides.{Decides-int_eq}
pub use Rattle.std.proofs.lemmas.Fmt.{decimal_digit}
pub use Rattle.std.proofs.lemmas.Grind.{flat_map-append}
pub use Rattle.std.proofs.lemmas.Int.{ints}
pub use Rattle.std.proofs.lemmas.List.{append-nil, append_assoc, drop_all, get_or-map, length-append, length-map, take-append-drop, take-append-le, take_all, take_more}
pub use Rattle.std.proofs.lemmas.List.Elements.{All-cons, All-filter, All-get_or, All-head, All-map, All-nil, All-tail, All-take, All-weaker, filter-append, filter_passes, recursion_from_All}
pub use Rattle.std.proofs.lemmas.List.FromFn.{get_or-map-range_with_len, length-map-range_with_len, map-range_with_len_more}
pub use Rattle.std.proofs.lemmas.List.Sums.{sum_by-append, sum_by-cons}
pub use Rattle.std.proofs.lemmas.Option.{get_or_from_slice_get, slice_get_within}
pub use Rattle.std.proofs.lemmas.Slice.Zip.{AllZip-long, get_or-zip, length-zip, zip_end, zip_turn}
pub use Rattle.std.specs.Fmt.{signed_decimal}
pub use Rattle.std.specs.Iterator.Adapters.{zip_first, zip_second}
pub use Rattle.std.specs.List.{All, AllByRecursion, AllZip, flat_map, list_all, range_with_len, zip}
pub use Rattle.std.specs.Ordering.{int_eq}
pub use Rattle.std.specs.Prelude.{IfNone, IfSome, decimal, if◌then◌else◌, nat_eq, nat_lt, not}
pub use Rattle.std.specs.Slice.Iter.{iter_rest}
pub use Rattle.std.specs.Str.Lines.{lines}
pub use Rattle.definitions.proofs.Coefficients.{at_word, coefficient_of-append, coefficient_of-multiple}
pub use Rattle.definitions.proofs.Integers.{*ℤ-neg_ℤ}
pub use Rattle.definitions.proofs.Linear.{word_eq-true}
pub use Rattle.definitions.proofs.Paths.{Fits, fits_from_path, path_from_fits, step}
pub use Rattle.definitions.proofs.Projection.{coefficient_of-between_zero, typed_rows_suffice}
pub use Rattle.definitions.proofs.Sound.{sound}
pub use Rattle.definitions.specs.Category.{PreadditiveLaws, Structure}
pub use Rattle.definitions.specs.Combination.{IsCombination, Row, generator_at, is_typed_row, row_poly, row_sum}
pub use Rattle.definitions.specs.Poly.{SamePolynomial, Term, coefficient_of, poly_between, poly_multiple, poly_sum, word_eq}
pub use Rattle.definitions.specs.Quiver.{IsPath, IsTyped, Quiver, is_path, leads, letters, source, target}
pub use Rattle.definitions.specs.Soundness.{HasSignature, MakesZero}
pub use Rattle.lists.proofs.Zips.{AllZip-unique}
pub use Rattle.coef_int.specs.Operations.{first_overflow}
pub use Rattle.coef_int.specs.Range.{IsCoefficient}
pub use Rattle.coef_int.specs.declared.Overflow.{Overflow}
pub use Rattle.word_core.specs.Letters.{IsOver}
pub use Rattle.word_core.specs.declared.letter.Object.{Object}
pub use Rattle.traced_rows.specs.Rows.{row_of, rows_of}
pub use Rattle.traced_rows.specs.declared.certificate.CertRow.{CertRow}
pub use Rattle.traced_rows.specs.declared.certificate.Certificate.{Certificate}
pub use Rattle.nc_polynomial.proofs.Around.{shaped-between}
pub use Rattle.nc_polynomial.proofs.Chains.{finished-value, first-append, no_error, or_first, sized-value}
pub use Rattle.nc_polynomial.proofs.CollectedTerms.{coefficient_of-collected, descending-collected, nonzero-collected}
pub use Rattle.nc_polynomial.proofs.Distinct.{AreDistinct, distinct-descending, first_coefficient, words_listed}
pub use Rattle.nc_polynomial.proofs.Products.{canonical_sized}
pub use Rattle.nc_polynomial.proofs.RunningSums.{not_long}
pub use Rattle.nc_polynomial.proofs.Shapes.{Descends, IsDescending-from_recursion, IsNonzero, all-scaled, descending-added, descending-scaled, in_range-added, nonzero-added, nonzero-scaled, recursion_from_IsDescending, shaped-scaled}
pub use Rattle.nc_polynomial.proofs.Unique.{descending_unique}
pub use Rattle.nc_polynomial.proofs.Values.{SamePolynomial-added, SamePolynomial-scaled}
pub use Rattle.nc_polynomial.specs.Arithmetic.{combined, multiple_result}
pub use Rattle.nc_polynomial.specs.Faults.{Explains, IsMemory as IsMemoryFault, finished, has_long_word, size_fault, sized, unless_overflow}
pub use Rattle.nc_polynomial.specs.Limits.{term_limit}
pub use Rattle.nc_polynomial.specs.Product.{and_then, moved_result}
pub use Rattle.nc_polynomial.specs.Shape.{IsCanonical, IsShaped}
pub use Rattle.nc_polynomial.specs.Terms.{added, keep, products, scaled, sums}
pub use Rattle.nc_polynomial.specs.declared.fault.PolyFault.{PolyFault}
pub use Rattle.nc_polynomial.specs.declared.poly.Poly.{Poly, Poly as Polynomial}
pub use Rattle.cofactor_checker.proofs.Judged.{accepted_is_not_refused, each_certificate_is_judged, refusal_is_unique}
pub use Rattle.cofactor_checker.proofs.Outcomes.{combination_from_accepts}
pub use Rattle.cofactor_checker.proofs.RowSums.{length-polynomials}
pub use Rattle.cofactor_checker.specs.Acceptance.{IsMemory as IsMemoryRefusal, Refuses}
pub use Rattle.cofactor_checker.specs.Rows.{IsNumberUpTo}
pub use Rattle.cofactor_checker.specs.declared.refusal.Refusal.{Refusal}
pub use Rattle.quiver.proofs.Counts.{letters-quiver_of}
pub use Rattle.quiver.specs.Declarations.{Declaration, IsDeclared, arrow, letter_count, object, object_count, quiver_of}
pub use Rattle.quiver.specs.Signatures.{ends_of}
pub use Rattle.quiver.specs.declared.named.Sig.{Sig}
pub use Rattle.adjoint_rules.proofs.Generators.{generators_have_signatures, posed_quiver}
pub use Rattle.adjoint_rules.specs.Problem.{IsTypedOf, polynomials}
pub use Rattle.adjoint_rules.specs.declared.problem.Problem.{Problem}
pub use Rattle.block_text.proofs.ContentBack.{IsTextOf, no_text, text-append, text_of_tokens}
pub use Rattle.block_text.proofs.Joins.{polys_agree, words_agree}
pub use Rattle.block_text.proofs.NumberLines.{end_is_text}
pub use Rattle.block_text.proofs.NumbersBack.{IsInteger, decimal_number, decimal_text, decimal_within, integer_read}
pub use Rattle.block_text.proofs.PartsBack.{IsWritten, text_of_block}
pub use Rattle.block_text.proofs.PolynomialLaws.{polynomial_there}
pub use Rattle.block_text.proofs.PolynomialsBack.{is_written_line}
pub use Rattle.block_text.proofs.PolysBack.{poly_is_line}
pub use Rattle.block_text.proofs.Puts.{each_put}
pub use Rattle.block_text.proofs.TextLaws.{are_read_back}
pub use Rattle.block_text.proofs.TextsBack.{IsWrittenWord, letters_written, line_text-append, literal, plain_name, word_written}
pub use Rattle.block_text.proofs.TokensBack.{IsToken, name_token, token_read, tokens_read}
pub use Rattle.block_text.specs.Back.{IsLineText, is_named}
pub use Rattle.block_text.specs.Blocks.{Block, IsBlock, block_lines, other as other_block, own, own_in}
pub use Rattle.block_text.specs.Letters.{number_within}
pub use Rattle.block_text.specs.Lines.{content, end_line, integer_of, is_end, number_limit}
pub use Rattle.block_text.specs.PolynomialBack.{IsPolynomialLine}
pub use Rattle.block_text.specs.Tokens.{tokens_of}
pub use Rattle.block_text.specs.Written.{letter_text, poly_text, word_text}
pub use Rattle.certificate_text.proofs.RowLines.{row_line_read}
pub use Rattle.certificate_text.proofs.RowsBack.{over_generator, row_tree}
pub use Rattle.certificate_text.proofs.SizesBack.{IsSize, headed_is_text, size_written}
pub use Rattle.certificate_text.specs.Back.{IsWritableInteger}
pub use Rattle.certificate_text.specs.Blocks.{IsPlainRow, row_line}
pub use Rattle.certificate_text.specs.Evidence.{IsCheckable, IsRowOver}
pub use Rattle.certificate_text.specs.Lines.{RowTokens, row_values}
pub use Rattle.certificate_text.specs.Written.{opening_text}
pub use Rattle.equation_chain.specs.Back.{ChainsAreReadBack, ChainsAreUnique, ExplainedIsReadable, IsReadable, IsReadableLine, IsReadableStep, TextsTellChains, text_of}
pub use Rattle.equation_chain.specs.Blocks.{ChainTerms, ChainTokens, HasChains, IsChainBlock, SaysChain, StepTokens, chain_kind, chain_lines, lines_in, said_line, step_lines, use_line}
pub use Rattle.equation_chain.specs.Chains.{IsChain, IsLess, LeadsToZero, less_step, next_line}
pub use Rattle.equation_chain.specs.Faults.{IsAccepted, IsExplained, IsFirstFault, IsMemory, Reaches, StepPasses, StepsPass, letters_before, line_before, result_at, steps_before}
pub use Rattle.equation_chain.specs.Laws.{EachCertificateIsExplained, ExplainedHasNoFault, FirstFaultIsUnique, LinesAreAChain, LinesAreTyped, LinesVanish, StepsAddUp, StepsAreTyped}
pub use Rattle.equation_chain.specs.Limits.{letter_limit}
pub use Rattle.equation_chain.specs.Lines.{claim_in, letters_in, letters_of, line_less, lines_by, lines_of}
pub use Rattle.equation_chain.specs.Made.{GoesOn, IsChainOf, IsLineBefore, IsLineBehind, IsMaking, IsWritable, StopsLine, Tells}
pub use Rattle.equation_chain.specs.Spelled.{AreTexts, IsLineSpelled, IsStepSpelled, line_by, lines_spelled, steps_by, text_in, use_by}
pub use Rattle.equation_chain.specs.Steps.{IsTypedStep, claim_ends, counts, generator_of, is_empty, is_step, is_typed, steps_in, steps_of}
pub use Rattle.equation_chain.specs.Written.{chain_text, line_text, lines_text, steps_text, use_text}
pub use Rattle.equation_chain.specs.declared.chain.Chain.{Chain}
pub use Rattle.equation_chain.specs.declared.chain.Making.{Making}
pub use Rattle.equation_chain.specs.declared.fault.ChainFault.{ChainFault}
pub use Rattle.equation_chain.specs.declared.line.Line.{Line}
