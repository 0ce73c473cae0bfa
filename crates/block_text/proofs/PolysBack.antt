-- Numbers, words and polynomials that are written are text without line ends.
use Rattle.block_text.proofs.Prelude.{◌<◌, ◌^◌, ◌==◌, ℕ, ℤ, Bool, true, false, cond, List, [], ◌∷◌, ◌++◌, arith, refl, codes, IsTrue, decimal, is_negative, unsigned_abs, All, list_all, flat_map, All-head, All-tail, IsUtf8-nil, IsCoefficient, IsOver, Declaration, letter_count, IsDeclared, word_text, factor_text, term_text, later_text, poly_text, is_named, IsLineText}
use Rattle.block_text.proofs.TextsBack.{letters_written, line_text-append, literal, plain_name, word_written}
use Rattle.block_text.proofs.NumbersBack.{decimal_text}

pub nothing_is_line : IsLineText []
nothing_is_line = record { utf8 = IsUtf8-nil; inside = refl }

pub number_is_line : (n : ℕ) → n < 10 ^ 64 → IsLineText (decimal n)
number_is_line n below = (plain_name (decimal n) (decimal_text n below)).line

-- one of two texts
either_is_line : (b : Bool) (xs ys : List ℕ) → IsLineText xs → IsLineText ys → IsLineText (cond b xs ys)
either_is_line true xs ys left right = left
either_is_line false xs ys left right = right

factor_is_line : (n : ℕ) → n < 2 ^ 127 → IsLineText (factor_text n)
factor_is_line n within =
    either_is_line (n == 1) [] (decimal n ++ codes " ") nothing_is_line (line_text-append (decimal n) (codes " ") (number_is_line n (omega (arith, within))) (literal (codes " ") refl refl))

module _ (ds : List Declaration) (declared : IsDeclared ds) (known : IsTrue (list_all is_named ds)) where
  pub word_is_line : (w : List ℕ) → IsOver (letter_count ds) w → IsLineText (word_text ds w)
  word_is_line w over = (word_written ds w (letters_written ds declared known w over)).line

  -- the coefficient is in range, and the letters are letters of the quiver
  abbrev pub IsWritableTerm : ℤ × List ℕ → Type 0
  IsWritableTerm t = IsCoefficient t.0 × IsOver (letter_count ds) t.1

  term_is_line : (t : ℤ × List ℕ) → IsWritableTerm t → IsLineText (term_text ds t)
  term_is_line t is = line_text-append (factor_text (unsigned_abs t.0)) (word_text ds t.1) (factor_is_line (unsigned_abs t.0) is.0) (word_is_line t.1 is.1)

  later_are_lines : (terms : List (ℤ × List ℕ)) → All IsWritableTerm terms → IsLineText (flat_map (later_text ds) terms)
  later_are_lines [] each = nothing_is_line
  later_are_lines (t ∷ terms) each =
      let sign = either_is_line (is_negative t.0) (codes " - ") (codes " + ") (literal (codes " - ") refl refl) (literal (codes " + ") refl refl) in
      let here = line_text-append _ (term_text ds t) sign (term_is_line t (All-head IsWritableTerm t terms each)) in
      line_text-append _ (flat_map (later_text ds) terms) here (later_are_lines terms (All-tail IsWritableTerm t terms each))

  pub poly_is_line : (terms : List (ℤ × List ℕ)) → All IsWritableTerm terms → IsLineText (poly_text ds terms)
  poly_is_line [] each = literal (codes "0") refl refl
  poly_is_line (t ∷ terms) each =
      let sign = either_is_line (is_negative t.0) (codes "- ") [] (literal (codes "- ") refl refl) nothing_is_line in
      let first = line_text-append _ (term_text ds t) sign (term_is_line t (All-head IsWritableTerm t terms each)) in
      line_text-append _ (flat_map (later_text ds) terms) first (later_are_lines terms (All-tail IsWritableTerm t terms each))
