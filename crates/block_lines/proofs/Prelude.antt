-- What the proofs here take from std, from the crates below and from this crate's definitions, each name once.
pub use Rattle.std.proofs.Common.{Bool, Err, IfSome, IsTrue, List, None, Ok, OnOk, Option, Result, Some, [], ap, append-nil, append_assoc, ap₂, arith, codes, cond, false, get_or, inl, inr, length, map, nat_le, not, refl, rules, subst, suc, sym, take, true, ℕ, ◌&&◌, ◌++◌, ◌+◌, ◌<◌, ◌^◌, ◌∙◌, ◌∷◌, ◌≡◌, ◌≢◌, ◌≤◌, ◌⊎◌}
pub use Rattle.std.proofs.Math.ListN.{get_or-append}
pub use Rattle.std.proofs.Math.Seq.{get_or-append_seam}
pub use Rattle.std.proofs.lemmas.Bool.{and_parts, false_from_ne_true}
pub use Rattle.std.proofs.lemmas.Bool.Decides.{nat_tests}
pub use Rattle.std.proofs.lemmas.List.{get_or-map, length-append, length-map, map-append, take_all}
pub use Rattle.std.proofs.lemmas.List.Elements.{All-append, All-cons, All-head, All-map, All-nil, All-push, All-replicate, All-rest, All-tail, All-weaker}
pub use Rattle.std.proofs.lemmas.List.Folds.{list_any_at, list_any_none}
pub use Rattle.std.proofs.lemmas.List.Quantifiers.{all_pairs_push}
pub use Rattle.std.proofs.lemmas.Option.{cond_some, same_Some}
pub use Rattle.std.proofs.lemmas.Slice.Eq.{bytes_eq-Decides}
pub use Rattle.std.specs.Bool.{⊤}
pub use Rattle.std.specs.List.{All, AllPairs, AllZip, flat_map, list_all, list_any}
pub use Rattle.std.specs.Option.{option_map}
pub use Rattle.std.specs.Prelude.{decimal}
pub use Rattle.std.specs.Str.{bytes_eq}
pub use Rattle.std.specs.Vec.Iter.{into_iter_items, into_iter_len}
pub use Rattle.definitions.specs.Poly.{Poly as Terms}
pub use Rattle.lists.proofs.Zips.{AllZip-unique, zip_length, zip_push}
pub use Rattle.word_core.specs.Letters.{IsOver}
pub use Rattle.word_core.specs.declared.letter.Letter.{Letter}
pub use Rattle.nc_polynomial.specs.Shape.{IsCanonical}
pub use Rattle.nc_polynomial.specs.Terms.{IsDescending}
pub use Rattle.nc_polynomial.specs.declared.poly.Poly.{Poly}
pub use Rattle.quiver.specs.Declarations.{Declaration, IsDeclared, letter_count}
pub use Rattle.quiver.specs.Over.{IsPolyOver}
pub use Rattle.adjoint_rules.specs.Bases.{IsBasisOver}
pub use Rattle.adjoint_rules.specs.Limits.{rule_limit}
pub use Rattle.adjoint_rules.specs.declared.basis.Basis.{Basis}
pub use Rattle.block_text.proofs.Bounds.{before, bound_of, same_flaw, until}
pub use Rattle.block_text.proofs.ContentBack.{IsTextOf, no_text, text-append, text_of_tokens}
pub use Rattle.block_text.proofs.EachText.{fault_told, values_are, values_read}
pub use Rattle.block_text.proofs.LetterNames.{letter_is_spelled}
pub use Rattle.block_text.proofs.LetterRange.{letter_in_range}
pub use Rattle.block_text.proofs.LineTrees.{is_word, number_is}
pub use Rattle.block_text.proofs.Meets.{Meets, meets-weaker, passes, reads, then_meets}
pub use Rattle.block_text.proofs.NumberLines.{end_is_text, text_of_number}
pub use Rattle.block_text.proofs.NumbersBack.{decimal_number, decimal_text, decimal_within}
pub use Rattle.block_text.proofs.Owed.{Begins, IsReader, IsStopped, IsWhole, misfit, read_inside, reader_by_head, stopped_by}
pub use Rattle.block_text.proofs.PartsBack.{IsWritten, begins_no_end}
pub use Rattle.block_text.proofs.PolynomialBounds.{all_with, is_same}
pub use Rattle.block_text.proofs.PolynomialFlaws.{tokens_unique}
pub use Rattle.block_text.proofs.PolynomialLaws.{flaw_is, is_canonical, is_over, poly_unique, polynomial_is}
pub use Rattle.block_text.proofs.PolynomialsBack.{polynomials_are_read_back}
pub use Rattle.block_text.proofs.PolysBack.{poly_is_line}
pub use Rattle.block_text.proofs.Results.{bind_assoc, bind_same, by_test, option_map_some}
pub use Rattle.block_text.proofs.SaidLines.{number_found, said_err, said_meets, said_ok}
pub use Rattle.block_text.proofs.Standing.{everywhere}
pub use Rattle.block_text.proofs.TextLaws.{are_read_back, are_told}
pub use Rattle.block_text.proofs.TextsBack.{are_low, letter_written, line_text-append, literal}
pub use Rattle.block_text.proofs.TokensBack.{token_read}
pub use Rattle.block_text.specs.Back.{is_inside, is_named}
pub use Rattle.block_text.specs.Blocks.{is_other_head, own_in}
pub use Rattle.block_text.specs.Fault.{Fault, asked, ◌>>=◌}
pub use Rattle.block_text.specs.Kind.{Kind}
pub use Rattle.block_text.specs.Laws.{AreReadBack, AreTold, EachIsRead, FaultIsUnique, ValuesAreUnique, ValuesHaveNoFault}
pub use Rattle.block_text.specs.Letters.{is_letter, is_number, letter_of, number_within}
pub use Rattle.block_text.specs.Lines.{Line, begins, block_limit, end_line, is, is_end, number_behind, number_limit, number_of, said}
pub use Rattle.block_text.specs.PolynomialBack.{IsPolynomialLine}
pub use Rattle.block_text.specs.PolynomialFlaws.{Fits, IsPolynomialFlaw}
pub use Rattle.block_text.specs.PolynomialLines.{IsPolynomialOf, IsPolynomialTokens, PolynomialTokens, polynomial_line, terms_in}
pub use Rattle.block_text.specs.PolynomialReading.{polynomial_of}
pub use Rattle.block_text.specs.Steps.{Steps, all_values}
pub use Rattle.block_text.specs.Texts.{HasBlocks, IsBlocks}
pub use Rattle.block_text.specs.Tokens.{begins_comment, is_skipped, tokens_of}
pub use Rattle.block_text.specs.Written.{letter_text, poly_text}
pub use Rattle.block_text.specs.declared.fault.Flaw.{Flaw}
pub use Rattle.block_text.specs.declared.fault.Flaw.TheVariants.{BadLine, NumberTooLarge, TooMany, UnknownName}
pub use Rattle.block_lines.specs.Back.{HasLetters, IsWritableBasis, text_of}
pub use Rattle.block_lines.specs.Bases.{AreCanonical, HasBases, IsBases, IsFirstFault, basis_kind, by_terms, other_words}
pub use Rattle.block_lines.specs.BasisLines.{BasisTerms, Bound, basis_lines, bounds, flaw_of, on_polynomial, part}
pub use Rattle.block_lines.specs.LineKinds.{KeepsPolynomial, LineKind, PolynomialBound, letter_behind, letter_line, letter_said, may_be_letter, names, number_line, numbers, polynomial_before, polynomial_behind, polynomial_flaw, said_line, terms, words, writing}
pub use Rattle.block_lines.specs.LineReadings.{Reading, letter_read, letter_token, polynomial_read}
pub use Rattle.block_lines.specs.Reading.{basis_steps}
pub use Rattle.block_lines.specs.SectionSteps.{SectionSteps, block_steps, grown, line_next, line_steps, line_steps_by, lines_next, lines_place, lines_steps, named_steps, no_steps, steps_as}
pub use Rattle.block_lines.specs.Sections.{Section, block_kind, line_by, line_then, lines_then, named_lines, no_lines, said_as}
pub use Rattle.block_lines.specs.Written.{letter_line_text, rule_line}
pub use Rattle.block_lines.specs.declared.section.LinePlace.{LinePlace}
pub use Rattle.block_lines.specs.declared.section.LinesPlace.{LinesPlace}
