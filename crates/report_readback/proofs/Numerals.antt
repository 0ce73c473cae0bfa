-- Numbers of whatever size are written as text without line ends.
use Rattle.report_readback.proofs.Prelude.{◌≡◌, ◌<◌, ◌+◌, ◌/◌, ◌%◌, ◌==◌, ℕ, zero, suc, ℤ, pos, negsuc, Bool, true, false, cond, List, [], ◌∷◌, arith, refl, codes, decimal, signed_decimal, digits_onto, digit_glyph, list_all, lt-ltb, ne_eqb, is_inside, IsLineText, are_low, literal, line_text-append}
use Rattle.std.specs.Fmt.{digits}

-- low characters and no line ends
record IsLow (text : List ℕ) : Type 0 where
  low : are_low text ≡ true
  inside : list_all is_inside text ≡ true

digit_low : (d : ℕ) → d < 10 → (text : List ℕ) → IsLow text → IsLow (digit_glyph false d ∷ text)
digit_low d below text is = rw (lt-ltb d 10 below) (record {
  low = rw (lt-ltb (48 + d) 128 (omega (arith, below)), is.low) refl;
  inside = rw (ne_eqb (48 + d) 10 (λ e. omega (arith, e)), ne_eqb (48 + d) 13 (λ e. omega (arith, e)), is.inside) refl;
})

-- one of two texts
pub either : (P : List ℕ → Type 0) (b : Bool) (xs ys : List ℕ) → P xs → P ys → P (cond b xs ys)
either P true xs ys left right = left
either P false xs ys left right = right

digits_low : (k n : ℕ) (text : List ℕ) → IsLow text → IsLow (digits_onto k 10 false n text)
digits_low zero n text is = is
digits_low (suc k) n text is =
    let here = digit_low (n % 10) (omega arith) text is in
    either IsLow (n / 10 == 0) _ _ here (digits_low k (n / 10) (digit_glyph false (n % 10) ∷ text) here)

decimal_low : (n : ℕ) → IsLow (decimal n)
unfolding digits
decimal_low n = digits_low 64 n [] (record { low = refl; inside = refl })

pub decimal_is_line : (n : ℕ) → IsLineText (decimal n)
decimal_is_line n = let is = decimal_low n in literal (decimal n) is.low is.inside

pub signed_is_line : (z : ℤ) → IsLineText (signed_decimal z)
signed_is_line (pos n) = decimal_is_line n
signed_is_line (negsuc n) = line_text-append (codes "-") (decimal (suc n)) (literal (codes "-") refl refl) (decimal_is_line (suc n))
