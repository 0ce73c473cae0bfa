-- Numbers that are written are read.
use Rattle.block_text.proofs.Prelude.{◌≡◌, ◌<◌, ◌≤◌, ◌+◌, ◌%◌, ◌^◌, ◌==◌, ℕ, suc, ℤ, pos, negsuc, Bool, true, false, ◌||◌, List, [], ◌∷◌, Some, arith, refl, subst, length, decimal, nat_le, is_ascii_digit, is_in_range, signed_decimal, list_all, IsUtf8, is_utf8, chars, digits_value, and_parts, le-leb, lt-ltb, ne_eqb, decimal_by_steps_wide, decimal_is_IsNumeral_wide, IsAscii-decimal_wide, length-append, list_all-append, IsUtf8-from_ascii, IsUtf8-append, IsUtf8-from_is_utf8, IsCoefficient, is_number, number_within, is_integer, integer_within, integer_limit, is_inside}
use lib.Utf8.{encode}
use Rattle.block_text.specs.Letters.{is_negative}
use Rattle.block_text.proofs.NameBytes.{is_name_byte, IsNameText, differs}
use Rattle.block_text.proofs.TokensBack.{IsToken, bytes_plain, plain_token}

-- one or more digits
record AreDigits (ds : List ℕ) : Type 0 where
  some : 0 < length ds
  all : list_all is_ascii_digit ds ≡ true

digit_is : (n : ℕ) → n < 10 → is_ascii_digit (48 + n) ≡ true
digit_is n below = rw (le-leb 48 (48 + n) (omega arith), le-leb (48 + n) 57 (omega (arith, below))) refl

decimal_digits : (n : ℕ) → n < 10 ^ 64 → AreDigits (decimal n)
decimal_digits n below = decimal_by_steps_wide (λ _ ds. AreDigits ds)
    (λ n small. record { some = omega arith; all = rw (digit_is n small) refl })
    (λ n ds large digits. record {
      some = omega (arith, digits.some, length-append ds ((48 + n % 10) ∷ []));
      all = rw (list_all-append is_ascii_digit ds ((48 + n % 10) ∷ []), digits.all, digit_is (n % 10) (omega arith)) refl;
    })
    n below

either : (a b c d e : Bool) → b ≡ true → (a || (((b || c) || d) || e)) ≡ true
either true b c d e known = refl
either false true c d e known = refl
either false false c d e known = absurd (cc)

digit_byte : (d : ℕ) → is_ascii_digit d ≡ true → is_name_byte d ≡ true
digit_byte d digit = either (nat_le 128 d) (is_ascii_digit d) (is_in_range 65 90 d) (is_in_range 97 122 d) (d == 95) digit

pub digits_bytes : (ds : List ℕ) → list_all is_ascii_digit ds ≡ true → list_all is_name_byte ds ≡ true
digits_bytes [] all = refl
digits_bytes (d ∷ ds) all =
    let parts : (is_ascii_digit d ≡ true) × (list_all is_ascii_digit ds ≡ true) = and_parts _ _ all in
    rw (digit_byte d parts.0, digits_bytes ds parts.1) refl

-- a number is text like a name
pub decimal_text : (n : ℕ) → n < 10 ^ 64 → IsNameText (decimal n)
decimal_text n below =
    let digits = decimal_digits n below in
    record { utf8 = IsUtf8-from_ascii (decimal n) (IsAscii-decimal_wide n below); bytes = digits_bytes (decimal n) digits.all; some = digits.some }

pub decimal_number : (n : ℕ) → n < 10 ^ 64 → is_number (decimal n) ≡ true
decimal_number n below = let digits = decimal_digits n below in rw (lt-ltb 0 (length (decimal n)) digits.some, digits.all) refl

pub decimal_within : (most n : ℕ) → n ≤ most → n < 10 ^ 64 → number_within most (decimal n) ≡ Some n
decimal_within most n within below =
    let value : digits_value 10 (decimal n) ≡ n = (decimal_is_IsNumeral_wide n below).1 in
    rw (value, le-leb n most within) refl

-- integers
minus_is_text : is_utf8 (45 ∷ []) ≡ true
unfolding is_utf8 chars encode
minus_is_text = refl

not_negative : (ds : List ℕ) → list_all is_ascii_digit ds ≡ true → is_negative ds ≡ false
not_negative [] all = refl
not_negative (d ∷ ds) all =
    let parts : (is_ascii_digit d ≡ true) × (list_all is_ascii_digit ds ≡ true) = and_parts _ _ all in
    ne_eqb d 45 (λ e. absurd (let minus : is_ascii_digit 45 ≡ true = subst (λ (x : ℕ). is_ascii_digit x ≡ true) e parts.0 in cc))

name_byte_inside : (b : ℕ) → is_name_byte b ≡ true → is_inside b ≡ true
name_byte_inside b byte = rw (ne_eqb b 10 (differs b 10 byte refl), ne_eqb b 13 (differs b 13 byte refl)) refl

pub bytes_inside : (bs : List ℕ) → list_all is_name_byte bs ≡ true → list_all is_inside bs ≡ true
bytes_inside [] all = refl
bytes_inside (b ∷ bs) all =
    let parts : (is_name_byte b ≡ true) × (list_all is_name_byte bs ≡ true) = and_parts _ _ all in
    rw (name_byte_inside b parts.0, bytes_inside bs parts.1) refl

-- what is read of an integer that is written
pub record IsInteger (z : ℤ) : Type 0 where
  pub number : is_integer (signed_decimal z) ≡ true
  pub value : integer_within integer_limit (signed_decimal z) ≡ Some z
  pub token : IsToken (signed_decimal z)
  pub utf8 : IsUtf8 (signed_decimal z)
  pub inside : list_all is_inside (signed_decimal z) ≡ true

plain_integer : (n : ℕ) → n ≤ integer_limit → IsInteger (pos n)
plain_integer n within =
    let below : n < 10 ^ 64 = omega (arith, within) in
    let text = decimal_text n below in
    let positive : is_negative (decimal n) ≡ false = not_negative (decimal n) (decimal_digits n below).all in
    record {
      number = rw (positive, decimal_number n below) refl;
      value = rw (positive, decimal_within integer_limit n within below) refl;
      token = plain_token (decimal n) (bytes_plain (decimal n) text.bytes) text.some;
      utf8 = text.utf8;
      inside = bytes_inside (decimal n) text.bytes;
    }

minus_integer : (n : ℕ) → suc n ≤ integer_limit → IsInteger (negsuc n)
minus_integer n within =
    let below : suc n < 10 ^ 64 = omega (arith, within) in
    let text = decimal_text (suc n) below in
    record {
      number = decimal_number (suc n) below;
      value = rw (decimal_within integer_limit (suc n) within below) refl;
      token = record { first = 45; more = decimal (suc n); is = refl; plain = refl; all = bytes_plain (decimal (suc n)) text.bytes };
      utf8 = IsUtf8-append (45 ∷ []) (decimal (suc n)) (IsUtf8-from_is_utf8 (45 ∷ []) minus_is_text) text.utf8;
      inside = bytes_inside (decimal (suc n)) text.bytes;
    }

pub integer_read : (z : ℤ) → IsCoefficient z → IsInteger z
integer_read (pos n) within = plain_integer n (omega (arith, within))
integer_read (negsuc n) within = minus_integer n (omega (arith, within))
