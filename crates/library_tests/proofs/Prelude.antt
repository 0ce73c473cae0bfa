-- What the proofs here take from std, from the crates below and from this crate's definitions, each name once.
pub use Rattle.std.proofs.Common.{IfOk, IsTrue, List, Some, [], arith, codes, get_or, length, refl, rules, slice_get, subst, sym, take, ℕ, ◌++◌, ◌+◌, ◌<◌, ◌↔◌, ◌∷◌, ◌≡◌, ◌≤◌}
pub use Rattle.std.proofs.lemmas.List.{take_all}
pub use Rattle.std.proofs.lemmas.List.Elements.{All-push, All-take, All-weaker}
pub use Rattle.std.proofs.lemmas.Option.{get_or_from_slice_get, slice_get_within}
pub use Rattle.std.specs.List.{All, Contains, list_all}
pub use Rattle.definitions.specs.Poly.{Term}
pub use Rattle.coef_int.specs.Range.{IsCoefficient}
pub use Rattle.word_core.specs.Letters.{IsOver}
pub use Rattle.nc_polynomial.proofs.Steps.{take_next}
pub use Rattle.ambiguities.specs.Listed.{IsAmbiguityFrom}
pub use Rattle.ambiguities.specs.declared.ambiguity.Ambiguity.{Ambiguity}
pub use Rattle.quiver.specs.Declarations.{Declaration, IsDeclared}
pub use Rattle.block_text.proofs.Bounds.{bound_of}
pub use Rattle.block_text.proofs.EachText.{read_values_are, values_told}
pub use Rattle.block_text.proofs.Owed.{IsReader}
pub use Rattle.block_text.proofs.TextLaws.{are_read_back, are_told}
pub use Rattle.block_text.specs.Back.{is_named}
pub use Rattle.block_text.specs.Laws.{AreReadBack}
pub use Rattle.block_text.specs.Lines.{number_limit}
pub use Rattle.block_text.specs.Texts.{HasBlocks}
pub use Rattle.block_lines.proofs.LetterReader.{letter_known, letter_line_written, letter_reader}
pub use Rattle.block_lines.proofs.SectionBlocks.{block_read, block_written, line_written, none_written, number_read, number_written}
pub use Rattle.block_lines.proofs.SectionReaders.{line_read, none_read}
pub use Rattle.library_tests.specs.Shifts.{Bound, HasLetter, IsWritable, flaw_of, names, numbers, other_words, shift_kind, shift_lines, shift_steps, shift_text}
