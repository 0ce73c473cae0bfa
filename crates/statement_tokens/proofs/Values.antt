-- A value only grows as its digits are read.
use Rattle.statement_tokens.proofs.Prelude.{◌≡◌, ℕ, ◌+◌, ◌*◌, ◌-◌, ◌≤◌, ◌<◌, List, [], ◌∷◌, length, drop, get_or, arith, ap, sym, ◌∙◌, subst, drop_more, IsUtf8, chars, chars_from_encodes, length-le-encodes, value_from}

pub value_grows : (n : ℕ) (ds : List ℕ) → n ≤ value_from n ds
value_grows n [] = omega arith
value_grows n (d ∷ ds) = let more = value_grows (n * 10 + (d - 48)) ds in omega (arith, more)

-- the next digit is part of the value
pub digit_more : (ds : List ℕ) (i d n : ℕ) → i < length ds → d ≡ get_or ds i d → n * 10 + (d - 48) ≤ value_from n (drop i ds)
digit_more ds i d n given e =
    let split : drop i ds ≡ d ∷ drop (i + 1) ds = drop_more ds i d given ∙ ap (λ x. x ∷ drop (i + 1) ds) (sym e) in
    subst (λ xs. n * 10 + (d - 48) ≤ value_from n xs) (sym split) (value_grows (n * 10 + (d - 48)) (drop (i + 1) ds))

-- a text has no more characters than bytes
pub chars_short : (bs : List ℕ) → IsUtf8 bs → length (chars bs) ≤ length bs
chars_short bs utf8 =
    let is : utf8.0 ≡ chars bs = chars_from_encodes utf8.0 bs utf8 utf8.1.1 in
    omega (arith, length-le-encodes utf8.0, ap length is, ap length utf8.1.1)
