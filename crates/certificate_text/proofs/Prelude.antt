-- What the proofs here take from std, from the crates below and from this crate's definitions, each name once.
pub use Rattle.std.proofs.Common.{Bool, Err, IfOk, IsTrue, List, None, Ok, OnOk, Option, Result, Some, [], add-zero, ap, ap₂, arith, codes, cond, eq-eqb, false, get_or, if◌then◌else◌, inl, inr, leb-false, length, ltb-false, map, nat_le, nat_lt, negsuc, not, pos, refl, rules, subst, suc, sym, take, true, zero, ℕ, ℤ, ◌&&◌, ◌++◌, ◌+◌, ◌<◌, ◌^◌, ◌||◌, ◌∙◌, ◌∷◌, ◌≡◌, ◌≤◌, ◌⊎◌}
pub use Rattle.std.proofs.lemmas.Bool.{and_parts, le-ltb, lt-leb, or_from, or_parts}
pub use Rattle.std.proofs.lemmas.Fmt.{decimal_digit, decimal_is_IsNumeral_wide}
pub use Rattle.std.proofs.lemmas.Grind.{flat_map-append}
pub use Rattle.std.proofs.lemmas.List.{append-nil, append_assoc, get_or-map, length-append, length-map, length-take-le, map-append, take_more}
pub use Rattle.std.proofs.lemmas.List.Elements.{All-append, All-cons, All-get_or, All-head, All-map, All-nil, All-push, All-replicate, All-rest, All-tail, All-weaker}
pub use Rattle.std.proofs.lemmas.List.Sums.{sum_by-cons, sum_by_push}
pub use Rattle.std.proofs.lemmas.Option.{cond_some, option_and_then_some}
pub use Rattle.std.specs.Bool.{⊤}
pub use Rattle.std.specs.Fmt.{signed_decimal}
pub use Rattle.std.specs.List.{All, AllByRecursion, AllZip, flat_map, list_all, sum_by}
pub use Rattle.std.specs.Option.{option_and_then, option_map}
pub use Rattle.std.specs.Prelude.{decimal}
pub use Rattle.std.specs.Result.{IsErrAnd}
unfoldable pub use Rattle.std.specs.Str.{chars, is_utf8}
pub use Rattle.std.specs.Str.Lines.{lines}
pub use Rattle.std.specs.Str.Parse.{digits_value}
pub use Rattle.std.specs.Vec.Iter.{into_iter_items, into_iter_len}
pub use Rattle.unicode_ident.proofs.IdentLemmas.{is_xid_start-ascii}
pub use Rattle.lists.proofs.Zips.{AllZip-unique, AllZip-weaker, zip_length, zip_push, zip_right}
pub use Rattle.lists.specs.Stop.{Gives, IsMemory}
pub use Rattle.lists.specs.declared.stop.Stop.{Stop}
pub use Rattle.coef_int.specs.Range.{IsCoefficient}
pub use Rattle.traced_rows.specs.declared.certificate.CertRow.{CertRow}
pub use Rattle.traced_rows.specs.declared.certificate.Certificate.{Certificate}
pub use Rattle.traced_rows.specs.declared.evidence.CertFrom.{CertFrom}
pub use Rattle.traced_rows.specs.declared.evidence.CertFrom.TheVariants.{Generator}
pub use Rattle.traced_rows.specs.declared.evidence.Evidence.{Evidence}
pub use Rattle.traced_rows.specs.declared.evidence.Format.{Format}
pub use Rattle.traced_rows.specs.declared.evidence.Format.TheVariants.{Lemmas, Plain}
pub use Rattle.traced_rows.specs.declared.evidence.Lemma.{Lemma}
pub use Rattle.traced_rows.specs.declared.evidence.LemmaCertificate.{LemmaCertificate}
pub use Rattle.traced_rows.specs.declared.evidence.LemmaRow.{LemmaRow}
pub use Rattle.cofactor_trace.specs.Lemmas.{letter_count as letters_of_lemmas, row_count}
pub use Rattle.nc_polynomial.specs.Limits.{word_limit}
pub use Rattle.quiver.specs.Declarations.{Declaration, IsDeclared, arrow, object}
pub use Rattle.block_text.proofs.Bounds.{bound_of}
pub use Rattle.block_text.proofs.Closing.{closed_behind}
pub use Rattle.block_text.proofs.ContentBack.{IsTextOf, no_text, text-append, text_of_tokens}
pub use Rattle.block_text.proofs.EachText.{fault_told, read_values_are, values_are, values_read, values_told}
pub use Rattle.block_text.proofs.Fronts.{behind}
pub use Rattle.block_text.proofs.LetterRange.{word_is_over}
pub use Rattle.block_text.proofs.LineTrees.{Parts, bracketed_is, is_word, number_is, other_word, pair_is}
pub use Rattle.block_text.proofs.Meets.{Meets, asked_meets, meets-weaker, reads, then_meets, unless_meets}
pub use Rattle.block_text.proofs.NameBytes.{IsNameText}
pub use Rattle.block_text.proofs.NumberLines.{end_is_text, text_of_number}
pub use Rattle.block_text.proofs.NumberedLines.{run, run-append}
pub use Rattle.block_text.proofs.NumbersBack.{IsInteger, decimal_number, decimal_text, decimal_within, integer_read}
pub use Rattle.block_text.proofs.Owed.{Begins, IsReader, IsStopped, IsWhole, misfit, passes, read_block, read_inside, read_inside-run, stopped_by}
pub use Rattle.block_text.proofs.PartsBack.{IsWritten}
pub use Rattle.block_text.proofs.Puts.{four_put, three_put}
pub use Rattle.block_text.proofs.Results.{asked_err, asked_ok, bind_assoc, bind_err, bind_ok, by_test, cond_option, ok_has, option_map_some}
pub use Rattle.block_text.proofs.SaidLines.{IsNumberLine, number_said, number_unsaid, within_limit}
pub use Rattle.block_text.proofs.Standing.{everywhere}
pub use Rattle.block_text.proofs.TextLaws.{are_read_back, are_told}
pub use Rattle.block_text.proofs.TextsBack.{IsWrittenWord, letters_written, line_text-append, literal, plain_name, word_written}
pub use Rattle.block_text.proofs.TokensBack.{IsToken, name_token, token_read, tokens_read}
pub use Rattle.block_text.specs.Back.{IsLineText, is_named}
pub use Rattle.block_text.specs.Blocks.{is_other_head}
pub use Rattle.block_text.specs.Fault.{Fault, ReadsText, asked, no_block, truncated, ◌>>=◌}
pub use Rattle.block_text.specs.Laws.{AreReadBack, AreReadInParts, AreTold, EachIsRead, FaultIsUnique, IsReadBetween, ValuesAreUnique, ValuesHaveNoFault}
pub use Rattle.block_text.specs.Letters.{digits_of, integer_within, is_integer, is_letter, is_negative, is_number, letter_of, number_within, signed, word_of}
pub use Rattle.block_text.specs.Lines.{Line, begins, bracketed, claim_line, claim_of, end_line, integer_limit, integer_of, is, is_close, is_end, number_limit}
pub use Rattle.block_text.specs.Steps.{all_values}
pub use Rattle.block_text.specs.Tokens.{goes_on, is_skipped, tokens_of}
pub use Rattle.block_text.specs.Written.{letter_text, poly_text, word_text}
pub use Rattle.block_text.specs.declared.fault.CertFault.{CertFault}
pub use Rattle.block_text.specs.declared.fault.Flaw.{Flaw}
pub use Rattle.block_text.specs.declared.fault.Flaw.TheVariants.{BadLine, NumberTooLarge, TooMany, UnknownName}
pub use Rattle.certificate_text.specs.Back.{IsGood, IsOfFormat, IsWritable, IsWritableByLemmas, IsWritableEvidence, IsWritableInteger, IsWritableLemma, IsWritableLemmaRow, IsWritableRow, number_of}
pub use Rattle.certificate_text.specs.Blocks.{AreLemmas, BlockTokens, IsBlock, IsLemmasBlock, IsPlainBlock, IsPlainRow, IsScaled, LemmaTokens, LemmasTokens, PlainTokens, ScaledTokens, certificate_lines, denominator_line, goal_lines, head_line, lemma_lines, lemmas, origin_tokens, plain, row_line}
pub use Rattle.certificate_text.specs.Bounds.{Bound, HasNames, HasNumbers, HasNumbersOutside, HasShortWords, IsCertificateOf, IsLemmaRowOf, IsLemmasOf, IsPlainOf, IsScaledOf, IsWithin, KeepsOne, bounds, flaw_of, lemmas_in, letters, letters_in, names, numbers, rows, rows_in, words}
pub use Rattle.certificate_text.specs.Evidence.{HasCertificates, IsCheckable, IsCheckableByLemmas, IsCheckableEvidence, IsCheckableLemma, IsEvidence, IsFirstFault, IsLemmaRowOver, IsRowOver, certificate_kind, other_words}
pub use Rattle.certificate_text.specs.Lines.{RowTokens, denominator_of, from, goal_digits, goal_scale_of, grown, is_lemmas_head, is_plain_head, is_row, is_value, lemma_digits, lemma_row_of, lemma_scale_of, letter_limit, no_rows, number_part, origin_part, over_lemma, row_end, row_limit, row_of, row_parts, row_tokens, row_values, scale_digits}
pub use Rattle.certificate_text.specs.Reading.{IsPlain, begin, begun, certificate_of, certificate_steps, closed_by, finish, lemma_certificate_of, lemma_of, lemma_row, lemmas_headed, next, next as step, opened_of, resized, scaled}
pub use Rattle.certificate_text.specs.Views.{parts_of}
pub use Rattle.certificate_text.specs.Written.{IsLemmaOver, certificate_text, evidence_text, goal_text, lemma_certificate_text, lemma_row_text, lemma_text, lemmas_text, numbered_texts, opening_text, origin_text, row_text, scaled_text}
pub use Rattle.certificate_text.specs.declared.place.Opened.{Opened}
pub use Rattle.certificate_text.specs.declared.place.Size.{Size}
pub use Rattle.certificate_text.specs.declared.place.Stage.{Stage}
