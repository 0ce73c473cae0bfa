-- What the proofs here take from std, from the crates below and from this crate's definitions, each name once.
pub use Rattle.std.proofs.Common.{Bool, Bor, Err, IfOk, IsTrue, List, None, Ok, Option, Result, Some, [], ap, ap₂, arith, codes, cond, drop, eq-eqb, false, get_or, length, map, nat_eq, nat_le, nat_lt, refl, rules, subst, suc, sym, take, true, zero, zero-add, ℕ, ◌&&◌, ◌*◌, ◌++◌, ◌+◌, ◌-◌, ◌<◌, ◌==◌, ◌^◌, ◌∙◌, ◌∷◌, ◌≡◌, ◌≢◌, ◌≤◌}
pub use Rattle.std.proofs.Math.Nat.{mul-le-mul_left}
pub use Rattle.std.proofs.lemmas.Bool.{and_parts, le-leb, lt-ltb, ne_eqb}
pub use Rattle.std.proofs.lemmas.Bool.Decides.{nat_tests}
pub use Rattle.std.proofs.lemmas.Fmt.{decimal_digit, decimal_is_IsNumeral_wide}
pub use Rattle.std.proofs.lemmas.Grind.{flat_map-append}
pub use Rattle.std.proofs.lemmas.List.{append-nil, append_assoc, get_or_default, get_or_read_under, length-append, length-map, map-append, take_rest}
pub use Rattle.std.proofs.lemmas.List.Elements.{All-append, All-cons, All-head, All-map, All-nil, All-replicate, All-tail, All-weaker}
pub use Rattle.std.proofs.lemmas.List.Folds.{list_all-append}
pub use Rattle.std.proofs.lemmas.List.FromFn.{fill_by_all, get_or-map-range_with_len, length-map-range_with_len, map-range_with_len_more}
pub use Rattle.std.proofs.lemmas.List.Kept.{AllPairs-cons}
pub use Rattle.std.proofs.lemmas.List.Quantifiers.{position-Some}
pub use Rattle.std.proofs.lemmas.Option.{cond_some, option_and_then_some}
pub use Rattle.std.specs.List.{All, AllByRecursion, AllPairs, AllZip, flat_map, list_all, position, position_or_len, range_with_len}
pub use Rattle.std.specs.Option.{option_and_then, option_map}
pub use Rattle.std.specs.Prelude.{decimal, ⊤}
unfoldable pub use Rattle.std.specs.Str.{chars, is_utf8}
pub use Rattle.matrix_models.specs.Limits.{modulus_limit, side_limit}
pub use Rattle.matrix_models.specs.Matrix.{IsMatrix, IsModulus, IsSide, Matrix, entry_at}
pub use Rattle.matrix_models.specs.declared.model.Model.{Model}
pub use Rattle.quiver.proofs.Found.{is_named as is_found, object_name-split}
pub use Rattle.quiver.specs.Declarations.{Declaration, IsDeclared, arrow, letter_count, letter_name, named_in, object, object_count, object_name}
pub use Rattle.quiver.specs.declared.named.Named.{Named}
pub use Rattle.quiver.specs.declared.named.Named.TheVariants.{Map, Object}
pub use Rattle.block_text.proofs.Bounds.{bound_of}
pub use Rattle.block_text.proofs.Closing.{IsSign, all_without, front_without, others, split_at_sign, tokens_around}
pub use Rattle.block_text.proofs.ContentBack.{IsTextOf, no_text, text-append, text_of_tokens}
pub use Rattle.block_text.proofs.EachText.{read_values_are, values_are, values_told}
pub use Rattle.block_text.proofs.LetterNames.{apart, found, letter_is_spelled, named_between, object_placed}
pub use Rattle.block_text.proofs.LineTrees.{is_word, other_word}
pub use Rattle.block_text.proofs.NameBytes.{name_text}
pub use Rattle.block_text.proofs.NumberLines.{end_is_text, text_of_number}
pub use Rattle.block_text.proofs.NumbersBack.{decimal_number, decimal_text}
pub use Rattle.block_text.proofs.Owed.{IsReader}
pub use Rattle.block_text.proofs.PartsBack.{IsWritten, text_of_block}
pub use Rattle.block_text.proofs.Results.{asked_ok, by_test, option_map_some}
pub use Rattle.block_text.proofs.SaidLines.{number_found, within_limit}
pub use Rattle.block_text.proofs.Standing.{everywhere}
pub use Rattle.block_text.proofs.TextLaws.{are_read_back, are_told}
pub use Rattle.block_text.proofs.TextsBack.{line_text-append, literal, plain_name}
pub use Rattle.block_text.proofs.TokensBack.{IsToken, name_token, token_read}
pub use Rattle.block_text.specs.Back.{IsLineText, is_named, is_whole}
pub use Rattle.block_text.specs.Fault.{Fault, ReadsText, asked, no_block, truncated}
pub use Rattle.block_text.specs.Laws.{AreTold, EachIsRead, FaultIsUnique, ValuesAreUnique, ValuesHaveNoFault}
pub use Rattle.block_text.specs.Letters.{is_name, is_number, number_within}
pub use Rattle.block_text.specs.Lines.{Line, begins, claim_line, end_line, is, is_end, number_limit}
pub use Rattle.block_text.specs.Steps.{all_values}
pub use Rattle.block_text.specs.Tokens.{goes_on, tokens_of}
pub use Rattle.block_text.specs.declared.fault.CertFault.{CertFault}
pub use Rattle.block_text.specs.declared.fault.Flaw.{Flaw}
pub use Rattle.block_text.specs.declared.fault.Flaw.TheVariants.{NumberTooLarge}
pub use Rattle.block_lines.proofs.NamedLines.{AreTokens, IsJudged, fails, fine, named_fit, named_read}
pub use Rattle.block_lines.proofs.SectionBlocks.{block_read, number_read}
pub use Rattle.block_lines.proofs.SectionReaders.{IsLineReader, IsSectionReader, line_read, line_read_by, said_as_read, said_reader}
pub use Rattle.block_lines.specs.LineKinds.{said_line}
pub use Rattle.block_lines.specs.Sections.{named_lines}
pub use Rattle.model_text.specs.Back.{IsWritableModel, ModelsAreReadBack}
pub use Rattle.model_text.specs.ModelBlocks.{EntryTokens, entry_line, is_entry, is_modulus, is_row, is_row_of, matrix, modulus_line, more_rows, name_of, side}
pub use Rattle.model_text.specs.ModelBounds.{Bound, HasName, IsBelow, IsSmall, KeepsEntry, ModelTokens, SaysEntry, bounds, entry_kind, flaw_of, is_object_named, matrix_of, matrix_value, model_value, names, numbers, side_of, sizes, value_of}
pub use Rattle.model_text.specs.Models.{HasMap, HasModels, IsFirstFault, IsModel, IsModels, IsPlaced, model_kind, other_words}
pub use Rattle.model_text.specs.Reading.{AreRows, after, entry_steps, entry_tokens, entry_value, if_entry, map_tokens, maps_in, matrix_in, model_of, model_steps, modulus_digits, modulus_of, rows_behind, rows_in, side_in, side_tokens, sides_in, values_below, values_in}
pub use Rattle.model_text.specs.Views.{ends_row, line_in}
pub use Rattle.model_text.specs.Written.{between, entry_text, head_text, is_map_named, map_text, maps_text, model_text, part_text, row_text, rows_text, side_text, sides_text}
pub use Rattle.model_text.specs.declared.place.Entry.{Entry}
