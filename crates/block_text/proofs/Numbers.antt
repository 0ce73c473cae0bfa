-- The value of digits, read from the left.
use Rattle.block_text.proofs.Prelude.{◌≡◌, ◌<◌, ◌≤◌, ◌+◌, ◌*◌, ℕ, List, [], ◌∷◌, None, arith, refl, length, drop, get_or, lt-leb, drop_more, digit_value, digits_value, digits_value_after, number_within}

value_grows : (n : ℕ) (ds : List ℕ) → n ≤ digits_value_after 10 n ds
value_grows n [] = omega arith
value_grows n (d ∷ ds) = let more = value_grows (n * 10 + digit_value d) ds in omega (arith, more)

value_grows_more : (n : ℕ) (ds : List ℕ) (i : ℕ) → i < length ds → n * 10 ≤ digits_value_after 10 n (drop i ds)
value_grows_more n ds i within =
    let more = value_grows (n * 10 + digit_value (get_or ds i 0)) (drop (i + 1) ds) in
    rw (drop_more ds i 0 within) (omega (arith, more))

-- with a digit more the number passes the limit
pub value_is_large : (ds : List ℕ) (i n most : ℕ) → i < length ds → digits_value_after 10 n (drop i ds) ≡ digits_value 10 ds → most < n * 10 → number_within most ds ≡ None
value_is_large ds i n most within same small = rw (lt-leb (digits_value 10 ds) most (omega (arith, value_grows_more n ds i within, same, small))) refl
