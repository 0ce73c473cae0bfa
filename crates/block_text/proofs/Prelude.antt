-- What the proofs here take from std, from the crates below and from this crate's definitions, each name once.
pub use Rattle.std.proofs.Common.{Bool, Err, IfOk, IsTrue, List, MatchResult, None, Ok, OnOk, Option, Result, Some, [], ap, ap₂, arith, codes, cond, drop, eq-eqb, eqb-true, false, get_or, if◌then◌else◌, inl, inr, length, ltb-true, map, nat_eq, nat_le, nat_lt, negsuc, not, pos, refl, rules, subst, suc, sym, take, true, zero, zero-add, ℕ, ℤ, ◌%◌, ◌&&◌, ◌*◌, ◌++◌, ◌+◌, ◌-◌, ◌<◌, ◌==◌, ◌^◌, ◌||◌, ◌∙◌, ◌∷◌, ◌≡◌, ◌≢◌, ◌≤◌, ◌⊎◌}
pub use Rattle.std.proofs.Math.Seq.{take-append_seam}
pub use Rattle.std.proofs.lemmas.Bool.{and_parts, false_from_ne_true, le-leb, leb-false, leb-true, lt-leb, lt-ltb, ltb-false, ne_eqb, or_parts, true_from_ne_false}
pub use Rattle.std.proofs.lemmas.Bool.Decides.{nat_tests}
pub use Rattle.std.proofs.lemmas.Fmt.{IsAscii-decimal_wide, decimal_by_steps_wide, decimal_is_IsNumeral_wide}
pub use Rattle.std.proofs.lemmas.Grind.{flat_map-append}
pub use Rattle.std.proofs.lemmas.List.{append-nil, append_assoc, drop_all, drop_at, drop_more, length-append, length-map, length-take-le, map-append, nil_from_length, take_at, take_more, take_rest}
pub use Rattle.std.proofs.lemmas.List.Elements.{All-append, All-cons, All-contains, All-filter, All-from_recursion, All-get_or, All-head, All-map, All-nil, All-push, All-tail, All-take, All-weaker, Contains-push, filter-append}
pub use Rattle.std.proofs.lemmas.List.Folds.{list_all-append, list_all_at}
pub use Rattle.std.proofs.lemmas.List.Splits.{slice_split_at, slice_split_first}
pub use Rattle.std.proofs.lemmas.List.Sums.{AllPass-from_list_all}
pub use Rattle.std.proofs.lemmas.Option.{cond_some, option_and_then_some, same_Some}
pub use Rattle.std.proofs.lemmas.Slice.Eq.{bytes_eq-Decides}
pub use Rattle.std.proofs.lemmas.Str.{IsUtf8-append, IsUtf8-from_ascii, IsUtf8-from_is_utf8, IsUtf8-nil, chars-IsAscii, chars-encodes, inside_one, is_utf8-from_IsUtf8, len_utf8_bounds, length-encode}
pub use Rattle.std.specs.Bool.{⊤}
pub use Rattle.std.specs.Char.{digit_value, encode_utf8, is_ascii_alphanumeric, is_ascii_digit}
pub use Rattle.std.specs.Cmp.Lexicographic.{slice_cmp}
pub use Rattle.std.specs.Fmt.{signed_decimal}
pub use Rattle.std.specs.Int.{is_in_range, is_negative}
pub use Rattle.std.specs.Int.RustNames.{unsigned_abs}
pub use Rattle.std.specs.List.{All, AllByRecursion, AllPairs, AllZip, ends_with, find, flat_map, join_with_byte, list_all, list_any, onto_first, position, position_or_len, prefix_len, slice_split, starts_with}
pub use Rattle.std.specs.Map.{lookup}
pub use Rattle.std.specs.Option.{option_and_then, option_map}
pub use Rattle.std.specs.Ordering.{nat_cmp, ordering_index, ordering_then}
pub use Rattle.std.specs.Prelude.{decimal, filter, is_some}
pub use Rattle.std.specs.Str.{IsAscii, IsUtf8, bytes_eq, encode_utf8_all}
unfoldable pub use Rattle.std.specs.Str.{chars, is_utf8}
pub use Rattle.std.specs.Str.Lines.{lines, lines_of_parts, strip_carriage_return}
pub use Rattle.std.specs.Str.Parse.{digits_value, digits_value_after}
pub use Rattle.std.specs.declared.cmp.Ordering.{Ordering}
pub use Rattle.std.specs.declared.cmp.Ordering.TheVariants.{Equal, Greater, Less}
pub use Rattle.unicode_ident.proofs.IdentLemmas.{is_xid_continue-ascii, is_xid_start-ascii, is_xid_start-is_xid_continue}
pub use Rattle.unicode_ident.specs.Ident.{is_xid_continue, is_xid_start}
pub use Rattle.definitions.specs.Poly.{Poly, Term}
pub use Rattle.definitions.specs.Quiver.{star}
pub use Rattle.lists.proofs.Zips.{AllZip-append, AllZip-unique, AllZip-weaker, zip_left, zip_length, zip_right}
pub use Rattle.coef_int.specs.Range.{IsCoefficient}
pub use Rattle.word_core.proofs.Order.{word_cmp-trans}
pub use Rattle.word_core.specs.Canonical.{word_cmp}
pub use Rattle.word_core.specs.Letters.{IsOver}
pub use Rattle.nc_polynomial.proofs.Shapes.{Descends, IsBelow, IsDescending-from_recursion, descends_one, higher, recursion_from_IsDescending}
pub use Rattle.nc_polynomial.specs.Limits.{term_limit, word_limit}
pub use Rattle.nc_polynomial.specs.Shape.{IsCanonical}
pub use Rattle.nc_polynomial.specs.Terms.{IsDescending}
pub use Rattle.quiver.proofs.Counts.{length-letter_table, letter_count-append}
pub use Rattle.quiver.proofs.Found.{letter_at-split, letter_name-split, name_at-split, object_at-split, object_name-split, plus_zero}
pub use Rattle.quiver.proofs.Growth.{names_from, turn}
pub use Rattle.quiver.proofs.Identities.{identity_in_range}
pub use Rattle.quiver.proofs.Letters.{star-quiver_of}
pub use Rattle.quiver.specs.Declarations.{Declaration, IsDeclared, IsNamed, LetterEntry, arrow, identity_in, letter_at, letter_count, letter_name, letter_table, letters_made, letters_of, name_of, named_by, named_in, no_letter, object, object_count, object_name, objects_of, quiver_of, turns_from}
pub use Rattle.quiver.specs.declared.named.Named.{Named}
pub use Rattle.quiver.specs.declared.named.Named.TheVariants.{Map, Object}
pub use Rattle.statement_tokens.specs.Limits.{name_limit}
pub use Rattle.block_text.specs.Back.{IsBodyLine, IsLineText, IsPart, Part, block, comment, is_inside, is_named, is_whole, part_text, values_in}
pub use Rattle.block_text.specs.Blocks.{AreBlocks, Block, IsBlock, IsOtherBlock, Keeps, TextBound, block_lines, bounds, flaw_of, is_other_head, on_block, on_count, other, other as other_block, own, own_in, told_for}
pub use Rattle.block_text.specs.Fault.{Explains, ExplainsBy, Fault, ReadsText, asked, at_line, in_line, limit_of, truncated, ◌>>=◌}
pub use Rattle.block_text.specs.Kind.{Kind}
pub use Rattle.block_text.specs.Kinds.{is_of}
pub use Rattle.block_text.specs.Laws.{AreReadBack, AreTold}
pub use Rattle.block_text.specs.Letters.{Spelled, begins_name, integer_within, is_integer, is_letter, is_name, is_number, letter_named, letter_of, name_in, number_within, signed, spelled_by, starred, starts_name, without_brackets, word_of}
pub use Rattle.block_text.specs.Lines.{Line, OtherTokens, begins, block_limit, bracketed, closed, content, end_line, integer_limit, is, is_close, is_end, is_open, is_pair, number_behind, number_of, said}
pub use Rattle.block_text.specs.PolynomialBack.{IsPolynomialLine, PolynomialsAreReadBack}
pub use Rattle.block_text.specs.PolynomialFlaws.{Fits, IsPolynomialFlaw, PolynomialFlawsAreTold, PolynomialLinesAreRead, large, long, many, unknown, unwritten}
pub use Rattle.block_text.specs.PolynomialLines.{HasFewTerms, HasKnownLetters, HasNumbersWithin, HasShortWords, IsAsWritten, IsFactor, IsPolynomialOf, IsPolynomialTokens, IsTerm, IsTermOf, IsWrittenLetter, PolynomialTokens, TermTokens, coefficient_value, factor_line, factor_value, first_line, is_term_letter, later_line, polynomial_line, term_line, terms, terms_in, zero as zero_line}
pub use Rattle.block_text.specs.PolynomialReading.{at_most, descend, descend_behind, first_flaw, is_above_one, is_adjoint, is_bracketed, is_greater, is_minus, is_some_token, is_spelling, is_term_sign, is_written_as, is_zero, later_in, letters_cmp, may_follow, part_in, pass_letters, passes, passes_letter, passes_number, poly_behind, polynomial_of, some_word, term_in, term_of, term_value, terms_behind, terms_from, terms_left, terms_of, value_within, word_behind, words_cmp, written_letter}
pub use Rattle.block_text.specs.Sound.{IsSound}
pub use Rattle.block_text.specs.Steps.{Steps, all_values, beginning, ended, finished, headed, inside, one_or_more, progress, read_lines, read_tokens, step, values_of}
pub use Rattle.block_text.specs.Texts.{GoesOn, HasBlocks, IsBlocks, IsCutOff, IsFirstFault, IsFlawed, misfit}
pub use Rattle.block_text.specs.Tokens.{begins_comment, goes_on, is_closing, is_gap, is_line_end, is_plain, is_sign, is_skipped, token_len, tokens_of}
pub use Rattle.block_text.specs.Written.{factor_text, gap_text, later_by, later_text, letter_text, poly_by, poly_text, spelled_as, term_text, word_by, word_text}
pub use Rattle.block_text.specs.WrittenLetters.{marked, written_by}
pub use Rattle.block_text.specs.declared.fault.CertFault.{CertFault}
pub use Rattle.block_text.specs.declared.fault.Flaw.{Flaw}
pub use Rattle.block_text.specs.declared.fault.Flaw.TheVariants.{BadLine, NotAsWritten, NumberTooLarge, TooMany, UnknownName}
pub use Rattle.block_text.specs.declared.place.Place.{Place}
pub use Rattle.block_text.specs.declared.place.Progress.{Progress}
pub use Rattle.block_text.specs.declared.polynomial.Asked.{Asked}
pub use Rattle.block_text.specs.declared.polynomial.Asked.TheVariants.{Form, Known, Within, Written}
pub use Rattle.block_text.specs.declared.polynomial.TermText.{TermText}
