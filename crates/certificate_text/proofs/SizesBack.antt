-- Lines of words and numbers that are written are lines of tokens.
use Rattle.certificate_text.proofs.Prelude.{◌≡◌, ◌<◌, ◌^◌, ℕ, ℤ, pos, true, List, [], ◌∷◌, ◌++◌, Ok, arith, refl, sym, subst, codes, eq-eqb, decimal, signed_decimal, digits_value, decimal_is_IsNumeral_wide, append_assoc, Format, Plain, Lemmas, is_number, Line, number_limit, integer_limit, integer_of, claim_line, is_value, head_line, denominator_line, IsWithin, IsWritableInteger, opening_text, IsTextOf, text-append, text_of_tokens, IsNameText, decimal_text, decimal_number, decimal_within, literal, text_of_number}
use Rattle.certificate_text.proofs.OpenBlocks.{IsHead}

-- what is read of an integer that is written and not negative
pub record IsSize (z : ℤ) : Type 0 where
  pub number : is_number (signed_decimal z) ≡ true
  pub value : integer_of (signed_decimal z) ≡ Ok z
  pub within : IsWithin integer_limit (signed_decimal z)
  pub text : IsNameText (signed_decimal z)

size_read : (n : ℕ) → n < 2 ^ 127 → IsSize (pos n)
size_read n small =
    let below : n < 10 ^ 64 = omega (arith, small) in
    let value = decimal_within integer_limit n (omega (arith, small)) below in
    record { number = decimal_number n below; value = rw value refl; within = (n, value); text = decimal_text n below }

pub size_written : (z : ℤ) → IsWritableInteger z → IsSize z
size_written z fits = subst IsSize (sym fits.is) (size_read fits.size fits.in_range)

-- the claim and the denominator
abbrev pub head_written : (n : ℕ) (z : ℤ) → n < 2 ^ 32 → IsSize z → IsHead n z
head_written n z small size = record {
  claim = decimal n;
  denominator = signed_decimal z;
  claim_number = decimal_number n (omega (arith, small));
  denominator_number = size.number;
  claim_value = decimal_within number_limit n (omega (arith, small)) (omega (arith, small));
  denominator_value = size.value;
}

pub number_is_value : (n : ℕ) → n < 10 ^ 64 → is_value n (decimal n) ≡ true
number_is_value n below =
    let value : digits_value 10 (decimal n) ≡ n = (decimal_is_IsNumeral_wide n below).1 in
    rw (decimal_number n below, value) (eq-eqb n n refl)

-- the first lines of a block
opening_is : (head end first claim second denominator : List ℕ) → (head ++ (end ++ first)) ++ claim ++ (end ++ second) ++ denominator ++ end ≡ (head ++ end) ++ (((first ++ claim) ++ end) ++ ((second ++ denominator) ++ end))
opening_is head end first claim second denominator = simp append_assoc refl

-- after a head
pub headed_is_text : (head : List ℕ) (line : Line) (claim : ℕ) (denominator : ℤ) → IsTextOf (head ++ 10 ∷ []) (line ∷ []) → claim < 2 ^ 32 → IsSize denominator
    → IsTextOf (opening_text (head ++ codes "\nclaim ") claim denominator) (line ∷ claim_line (decimal claim) ∷ denominator_line (signed_decimal denominator) ∷ [])
headed_is_text head line claim denominator first small size =
    let number = text_of_number (codes "claim ") (codes "claim" ∷ []) (decimal claim) (literal (codes "claim ") refl refl) (decimal_text claim (omega (arith, small))) refl refl in
    let multiple = text_of_number (codes "denominator ") (codes "denominator" ∷ []) (signed_decimal denominator) (literal (codes "denominator ") refl refl) size.text refl refl in
    let lines = line ∷ claim_line (decimal claim) ∷ denominator_line (signed_decimal denominator) ∷ [] in
    subst (λ (text : List ℕ). IsTextOf text lines) (sym (opening_is head (10 ∷ []) (codes "claim ") (decimal claim) (codes "denominator ") (signed_decimal denominator)))
    (text-append _ _ _ _ first (text-append _ _ _ _ number multiple))

abbrev pub head_text : Format → List ℕ
head_text Plain = codes "certificate 1"
head_text Lemmas = codes "certificate 2"

head_is_text : (form : Format) → IsTextOf (head_text form ++ 10 ∷ []) (head_line form ∷ [])
head_is_text Plain = text_of_tokens (head_text Plain) (head_line Plain) (literal (head_text Plain) refl refl) refl refl
head_is_text Lemmas = text_of_tokens (head_text Lemmas) (head_line Lemmas) (literal (head_text Lemmas) refl refl) refl refl

pub opening_is_text : (form : Format) (claim : ℕ) (denominator : ℤ) → claim < 2 ^ 32 → IsSize denominator
    → IsTextOf (opening_text (head_text form ++ codes "\nclaim ") claim denominator) (head_line form ∷ claim_line (decimal claim) ∷ denominator_line (signed_decimal denominator) ∷ [])
opening_is_text form claim denominator small size = headed_is_text (head_text form) (head_line form) claim denominator (head_is_text form) small size
