-- Shifts are read, and read back where they are written.
use Rattle.library_tests.proofs.Prelude.{arith, ◌≡◌, List, [], ◌∷◌, Some, IsTrue, refl, codes, list_all, Declaration, IsDeclared, is_named, AreReadBack, number_limit, HasBlocks, bound_of, IsReader, are_read_back, letter_reader, letter_line_written, none_read, line_read, number_read, block_read, number_written, none_written, line_written, block_written, Bound, names, numbers, flaw_of, shift_lines, other_words, shift_kind, shift_steps, shift_text, IsWritable}

abbrev bounds : List Bound
bounds = names ∷ numbers ∷ []

-- each has a bound of its own
told : (b : Bound) → bound_of flaw_of bounds (flaw_of b) ≡ Some b
told names = refl
told numbers = refl

module _ (ds : List Declaration) where
  pub reader : IsReader (shift_kind ds) (shift_steps ds)
  reader =
      block_read flaw_of bounds (codes "shift") (codes "1") other_words
      (line_read flaw_of bounds (letter_reader (codes "letter") flaw_of bounds names ds refl refl)
      (line_read flaw_of bounds (number_read flaw_of bounds numbers (codes "by") number_limit refl) (none_read flaw_of bounds)))
      told (refl, refl) refl refl

  pub shifts_are_read_back : IsDeclared ds → IsTrue (list_all is_named ds) → AreReadBack (HasBlocks (shift_kind ds)) (shift_text ds) (IsWritable ds) other_words
  shifts_are_read_back declared known = are_read_back (shift_kind ds) (shift_text ds) (IsWritable ds) reader.words (λ s good.
      let letter = letter_line_written names ds (codes "letter") refl refl refl (λ token. refl) (λ line. refl) declared known s.0 good.letter in
      let by = number_written numbers (codes "by") (codes "by ") number_limit s.1.0 refl refl refl refl (omega (arith, good.by)) (omega arith) in
      block_written (codes "shift") (codes "1") (codes "shift 1") other_words bounds flaw_of (shift_lines ds) refl refl refl refl (line_written letter (line_written by none_written)))
