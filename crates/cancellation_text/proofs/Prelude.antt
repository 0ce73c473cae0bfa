-- What the proofs here take from std, from the crates below and from this crate's definitions, each name once.
pub use Rattle.std.proofs.Common.{Bool, IfOk, IsTrue, List, None, Ok, OnOk, Option, Result, Some, [], add-zero, ap, ap₂, arith, codes, cond, eq-eqb, false, get_or, if◌then◌else◌, inl, inr, leb-false, length, length-append, map, nat_eq, nat_le, of_z, pos, refl, rules, subst, suc, sym, take, to_z, true, ℕ, ℤ, ◌&&◌, ◌++◌, ◌+◌, ◌<◌, ◌^◌, ◌∙◌, ◌∷◌, ◌≡◌, ◌≤◌, ◌⊎◌}
pub use Rattle.std.proofs.lemmas.Bool.{and_parts, eqb-true, lt-leb}
pub use Rattle.std.proofs.lemmas.Grind.{flat_map-append}
pub use Rattle.std.proofs.lemmas.List.{append-nil, append_assoc, length-map, map-append, take_all}
pub use Rattle.std.proofs.lemmas.List.Elements.{All-append, All-cons, All-head, All-map, All-nil, All-push, All-replicate, All-tail, All-weaker, filter_map-append}
pub use Rattle.std.proofs.lemmas.List.Sums.{sum_by-cons, sum_by_push}
pub use Rattle.std.proofs.lemmas.Option.{option_and_then_some}
pub use Rattle.std.specs.Bool.{⊤}
pub use Rattle.std.specs.Fmt.{signed_decimal}
pub use Rattle.std.specs.Int.{w128}
pub use Rattle.std.specs.List.{All, AllZip, cons_option, flat_map, list_all, sum_by}
pub use Rattle.std.specs.Option.{option_map}
pub use Rattle.std.specs.Prelude.{decimal}
pub use Rattle.lists.proofs.Zips.{AllZip-unique, zip_length, zip_push, zip_right}
pub use Rattle.word_core.specs.declared.letter.Letter.{Letter}
pub use Rattle.traced_rows.specs.declared.certificate.CertRow.{CertRow}
pub use Rattle.traced_rows.specs.declared.evidence.Lemma.{Lemma}
pub use Rattle.traced_rows.specs.declared.evidence.LemmaRow.{LemmaRow}
pub use Rattle.cofactor_trace.specs.Lemmas.{letter_count as letters_of_lemmas, row_count}
pub use Rattle.cancel_rules.specs.Acceptance.{IsLetterOf, IsReadableCancellation, IsReadableItem, IsReadableLemma, IsRowOver}
pub use Rattle.cancel_rules.specs.Items.{row_total}
pub use Rattle.cancel_rules.specs.declared.cancellation.Cancellation.{Cancellation}
pub use Rattle.cancel_rules.specs.declared.cancellation.Item.{Item}
pub use Rattle.cancel_rules.specs.declared.cancellation.Side.{Side}
pub use Rattle.cancel_rules.specs.declared.cancellation.Side.TheVariants.{Left, Right}
pub use Rattle.quiver.specs.Declarations.{Declaration, IsDeclared, letter_name}
pub use Rattle.block_text.proofs.Bounds.{bound_of}
pub use Rattle.block_text.proofs.ContentBack.{IsTextOf, no_text, text-append, text_of_tokens}
pub use Rattle.block_text.proofs.EachText.{read_values_are, values_are, values_told}
pub use Rattle.block_text.proofs.LetterNames.{IsSpelled, letter_is_spelled}
pub use Rattle.block_text.proofs.LetterRange.{letter_in_range}
pub use Rattle.block_text.proofs.LettersBack.{ended_by, not_ended, without_last}
pub use Rattle.block_text.proofs.LineTrees.{is_word}
pub use Rattle.block_text.proofs.Meets.{Meets, asked_meets, meets-weaker, reads, then_meets, unless_meets}
pub use Rattle.block_text.proofs.NameBytes.{name_text}
pub use Rattle.block_text.proofs.NumberedLines.{run, run-append}
pub use Rattle.block_text.proofs.NumbersBack.{decimal_number, decimal_text, decimal_within}
pub use Rattle.block_text.proofs.Owed.{Begins, IsReader, IsStopped, IsWhole, misfit, passes, read_block, read_inside-run, reader_by_head, stopped_by}
pub use Rattle.block_text.proofs.PartsBack.{IsWritten}
pub use Rattle.block_text.proofs.Results.{by_test, cond_option, option_map_some}
pub use Rattle.block_text.proofs.SaidLines.{IsNumberLine, number_said, number_unsaid}
pub use Rattle.block_text.proofs.Standing.{everywhere}
pub use Rattle.block_text.proofs.TextLaws.{are_read_back, are_told}
pub use Rattle.block_text.proofs.TextsBack.{IsWrittenLetter, are_low, letter_written, line_text-append, literal, plain_name}
pub use Rattle.block_text.proofs.TokensBack.{IsToken, name_token, plain_token, token_read}
pub use Rattle.block_text.specs.Back.{IsLineText, is_inside, is_named}
pub use Rattle.block_text.specs.Fault.{ReadsText, asked, ◌>>=◌}
pub use Rattle.block_text.specs.Laws.{AreReadBack, AreTold}
pub use Rattle.block_text.specs.Letters.{is_name, is_number, letter_of, number_within}
pub use Rattle.block_text.specs.Lines.{Line, begins, claim_line, end_line, integer_limit, integer_of, is, number_behind, number_limit, said}
pub use Rattle.block_text.specs.Steps.{all_values}
pub use Rattle.block_text.specs.Texts.{HasBlocks}
pub use Rattle.block_text.specs.Tokens.{is_plain, is_skipped, tokens_of, two_tokens}
pub use Rattle.block_text.specs.Written.{letter_text}
pub use Rattle.block_text.specs.declared.fault.CertFault.{CertFault}
pub use Rattle.block_text.specs.declared.fault.Flaw.{Flaw}
pub use Rattle.block_text.specs.declared.fault.Flaw.TheVariants.{BadLine, NumberTooLarge, TooMany, UnknownName}
pub use Rattle.certificate_text.proofs.BlockLines.{GoesOn, behind_rows, integer_meets, lemma_row_takes, rows_go_on, scale_meets}
pub use Rattle.certificate_text.proofs.Checkable.{positive_in_range, scaled_checkable}
pub use Rattle.certificate_text.proofs.FlawedLines.{IsLemmaPast, RowPasses, goal_unread, lemma_unread, row_passes}
pub use Rattle.certificate_text.proofs.LemmaTexts.{holds_there, next_put}
pub use Rattle.certificate_text.proofs.LemmasBack.{IsWrittenLemma, goal_is_text, is_scaled, lemma_is_text, lemma_tree, lemma_written, of_rows, says as lemma_says, scaled_tree}
pub use Rattle.certificate_text.proofs.NextLines.{behind, goal_read, integer_in, lead_push, led_first, led_more, lemma_read, row_more, scaled_more, scaled_push}
pub use Rattle.certificate_text.proofs.OneCertificate.{same_result, same_scaled, same_value}
pub use Rattle.certificate_text.proofs.OpenBlocks.{IsLed, Lead, lead_lines, lemma_tokens, unit_goal, unit_scaled, unit_within}
pub use Rattle.certificate_text.proofs.RowTrees.{HaveSize, RowsWithin, before, integer_is_within, no_rows_size}
pub use Rattle.certificate_text.proofs.RowValues.{RowsFit, TakesRow, rows_fit_parts, rows_meet, with_rows, with_rows-append}
pub use Rattle.certificate_text.proofs.RowsBack.{AreRows, letters_in-append, letters_in-trees, rows-append}
pub use Rattle.certificate_text.proofs.SizesBack.{IsSize, headed_is_text, number_is_value, size_written}
pub use Rattle.certificate_text.specs.Blocks.{IsScaled, ScaledTokens, denominator_line, goal_lines, row_line}
pub use Rattle.certificate_text.specs.Bounds.{IsLemmaRowOf, IsScaledOf, IsWithin, letters_in}
pub use Rattle.certificate_text.specs.Evidence.{IsLemmaRowOver}
pub use Rattle.certificate_text.specs.Lines.{RowTokens, goal_scale_of, is_row, is_value, lemma_scale_of, no_rows, over_lemma, row_limit}
pub use Rattle.certificate_text.specs.Reading.{lemma_of, lemma_row}
pub use Rattle.certificate_text.specs.Written.{goal_text, opening_text}
pub use Rattle.certificate_text.specs.declared.place.Size.{Size}
pub use Rattle.block_lines.proofs.Names.{AreDistinct, distinct_apart, distinct_push}
pub use Rattle.block_lines.proofs.Outcomes.{Told, asked_told, gives, refuses, result_told, test_told, then_told, told_given, told_refused}
pub use Rattle.cancellation_text.specs.Back.{AreCalledOnce, IsMapLetter, IsWritable, IsWritableItem, lemmas_in}
pub use Rattle.cancellation_text.specs.Blocks.{AreItems, CalledTokens, CancelTokens, CancellationTokens, IsCancellationBlock, IsItem, ItemTokens, called_letters, called_line, called_on, called_word, cancel, cancel_line, cancellation_lines, head_line, is_map_letter, item_lines, known_letter, lemma, on_side, side_word}
pub use Rattle.cancellation_text.specs.Bounds.{Bound, HasItemName, HasItemNumber, IsCancelOf, IsCancellationOf, IsItemOf, IsKnown, KeepsOne, bounds, flaw_of, item_rows, letters, names, numbers, rows, rows_in, words}
pub use Rattle.cancellation_text.specs.Cancellations.{IsCancellations, IsFirstFault, cancellation_kind, other_words}
pub use Rattle.cancellation_text.specs.Reading.{begun, called, called_of, called_pair, called_side, called_tokens, calling, cancel_by, cancel_of, cancel_pair, cancel_tokens, cancellation_steps, cancelled, finish, goal_begun, is_called, item_or_goal, lemma_begun, letters_on, next, on_left, on_right, proof_of, resized, side_of, with_item, with_letters}
pub use Rattle.cancellation_text.specs.Written.{IsItemOver, called_text, cancel_text, cancellation_text, item_text, items_text, steps_text}
pub use Rattle.cancellation_text.specs.declared.place.Opened.{Opened}
pub use Rattle.cancellation_text.specs.declared.place.Stage.{Stage}
