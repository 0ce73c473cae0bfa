-- The terms that a reader finds in a line are those that the line spells.
use Rattle.block_text.proofs.Prelude.{◌≡◌, ◌<◌, ◌≤◌, ℕ, Bool, true, false, cond, ◌||◌, ◌&&◌, List, [], ◌∷◌, ◌++◌, Option, Some, None, arith, refl, sym, ap, ap₂, ◌∙◌, subst, length, codes, IsTrue, ltb-true, nat_lt, nat_le, drop, is_ascii_digit, All, AllByRecursion, list_all, flat_map, chars, is_utf8, and_parts, false_from_ne_true, leb-true, lt-leb, lt-ltb, ne_eqb, All-head, All-tail, chars-IsAscii, is_xid_continue, is_xid_start-ascii, name_limit, starts_name, begins_name, is_name, is_number, Line, is, TermTokens, terms, factor_line, term_line, first_line, later_line, polynomial_line, is_term_letter, IsFactor, IsTerm, is_minus, is_term_sign, part_in, term_of, later_in, terms_behind, terms_of, is_zero}
use Rattle.block_text.proofs.NameBytes.{is_name_byte, IsNameText, name_text}
use Rattle.block_text.proofs.NumbersBack.{digits_bytes}
use Rattle.block_text.proofs.LettersBack.{not_ended, not_begun}
use Rattle.block_text.proofs.LineTrees.{is_word}
use Rattle.block_text.proofs.TextsBack.{are_low, ascii, low_is_ascii}

-- a token is a sign, a number or a letter
digit_high : (d : ℕ) → is_ascii_digit d ≡ true → d ≤ 57
digit_high d digit = let parts : (nat_le 48 d ≡ true) × (nat_le d 57 ≡ true) = and_parts _ _ digit in leb-true d 57 parts.1

starts_digit : (d : ℕ) → is_ascii_digit d ≡ true → starts_name d ≡ false
starts_digit d digit =
    let high = digit_high d digit in
    rw (is_xid_start-ascii d (omega (arith, high)), lt-leb 65 d (omega (arith, high)), lt-leb 97 d (omega (arith, high)), ne_eqb d 95 (λ e. omega (arith, e, high))) refl

digits_low : (ds : List ℕ) → list_all is_ascii_digit ds ≡ true → are_low ds ≡ true
digits_low [] all = refl
digits_low (d ∷ ds) all =
    let parts : (is_ascii_digit d ≡ true) × (list_all is_ascii_digit ds ≡ true) = and_parts _ _ all in
    rw (lt-ltb d 128 (omega (arith, digit_high d parts.0)), digits_low ds parts.1) refl

number_text : (token : List ℕ) → is_number token ≡ true → IsNameText token
number_text token number =
    let parts : (nat_lt 0 (length token) ≡ true) × (list_all is_ascii_digit token ≡ true) = and_parts _ _ number in
    record { utf8 = ascii token (digits_low token parts.1); bytes = digits_bytes token parts.1; some = ltb-true 0 (length token) parts.0 }

number_begins : (token : List ℕ) → is_number token ≡ true → begins_name (chars token) ≡ false
number_begins [] number = absurd (cc)
number_begins (d ∷ ds) number =
    let parts : (nat_lt 0 (length (d ∷ ds)) ≡ true) × (list_all is_ascii_digit (d ∷ ds) ≡ true) = and_parts _ _ number in
    let first : (is_ascii_digit d ≡ true) × (list_all is_ascii_digit ds ≡ true) = and_parts _ _ parts.1 in
    rw (chars-IsAscii (d ∷ ds) (low_is_ascii (d ∷ ds) (digits_low (d ∷ ds) parts.1))) (starts_digit d first.0)

no_name : (token : List ℕ) → is_number token ≡ true → is_name token ≡ false
no_name token number = false_from_ne_true (is_name token) (λ name. absurd (
    let parts = and_parts (nat_le (length token) name_limit) (is_utf8 token && (begins_name (chars token) && list_all is_xid_continue (drop 1 (chars token)))) name in
    let inner = and_parts (is_utf8 token) (begins_name (chars token) && list_all is_xid_continue (drop 1 (chars token))) parts.1 in
    let begins = (and_parts (begins_name (chars token)) (list_all is_xid_continue (drop 1 (chars token))) inner.1).0 in
    let none : begins_name (chars token) ≡ false = number_begins token number in cc))

pub number_no_letter : (token : List ℕ) → is_number token ≡ true → is_term_letter token ≡ false
number_no_letter token number =
    let text = number_text token number in
    rw (not_ended token 39 text refl, not_begun token 91 text refl, no_name token number) refl

mark_no_name : (mark : ℕ) → is_name_byte mark ≡ false → is_name (mark ∷ []) ≡ false
mark_no_name mark other = false_from_ne_true (is_name (mark ∷ [])) (λ name. absurd (
    let bytes : list_all is_name_byte (mark ∷ []) ≡ true = (name_text (mark ∷ []) name).bytes in
    let first : (is_name_byte mark ≡ true) × (list_all is_name_byte [] ≡ true) = and_parts _ _ bytes in
    let here = first.0 in cc))

minus_no_letter : is_term_letter (codes "-") ≡ false
minus_no_letter = rw (mark_no_name 45 refl) refl

plus_no_letter : is_term_letter (codes "+") ≡ false
plus_no_letter = rw (mark_no_name 43 refl) refl

-- a sign is one of two tokens
sign_by : (P : List ℕ → Type 0) (token : List ℕ) (m p : Bool) → is_minus token ≡ m → is (codes "+") token ≡ p → (m || p) ≡ true → P (codes "-") → P (codes "+") → P token
sign_by P token true p minus plus sign at_minus at_plus = subst P (sym (is_word (codes "-") token minus)) at_minus
sign_by P token false true minus plus sign at_minus at_plus = subst P (sym (is_word (codes "+") token plus)) at_plus
sign_by P token false false minus plus sign at_minus at_plus = absurd (cc)

sign_is : (P : List ℕ → Type 0) (token : List ℕ) → is_term_sign token ≡ true → P (codes "-") → P (codes "+") → P token
sign_is P token sign at_minus at_plus = sign_by P token _ _ refl refl sign at_minus at_plus

pub letter_no_sign : (token : List ℕ) → is_term_letter token ≡ true → is_term_sign token ≡ false
letter_no_sign token letter = false_from_ne_true (is_term_sign token) (λ sign. absurd (
    let none : is_term_letter token ≡ false = sign_is (λ t. is_term_letter t ≡ false) token sign minus_no_letter plus_no_letter in cc))

number_no_sign : (token : List ℕ) → is_number token ≡ true → is_term_sign token ≡ false
number_no_sign token number = false_from_ne_true (is_term_sign token) (λ sign. absurd (
    let none : is_number token ≡ false = sign_is (λ t. is_number t ≡ false) token sign refl refl in cc))

letter_no_number : (token : List ℕ) → is_term_letter token ≡ true → is_number token ≡ false
letter_no_number token letter = false_from_ne_true (is_number token) (λ number. absurd (
    let none : is_term_letter token ≡ false = number_no_letter token number in cc))

minus_by : (token : List ℕ) (m p : Bool) → is_minus token ≡ m → is (codes "+") token ≡ p → (m || p) ≡ false → is_minus token ≡ false
minus_by token true p minus plus none = absurd (cc)
minus_by token false p minus plus none = minus

no_minus : (token : List ℕ) → is_term_sign token ≡ false → is_minus token ≡ false
no_minus token none = minus_by token _ _ refl refl none

-- the line of terms
abbrev NoSigns : Line → Type 0
NoSigns line = AllByRecursion (λ token. is_term_sign token ≡ false) line

letters_no_signs : (letters : Line) → All (λ token. IsTrue (is_term_letter token)) letters → NoSigns letters
letters_no_signs [] each = tt
letters_no_signs (token ∷ letters) each = (
  letter_no_sign token (All-head (λ t. IsTrue (is_term_letter t)) token letters each),
  letters_no_signs letters (All-tail (λ t. IsTrue (is_term_letter t)) token letters each),
)

factor_no_signs : (factor : Option (List ℕ)) (letters : Line) → IsFactor factor → NoSigns letters → NoSigns (factor_line factor ++ letters)
factor_no_signs None letters is none = none
factor_no_signs (Some digits) letters is none = (number_no_sign digits is.0, none)

term_no_signs : (t : TermTokens) → IsTerm t → NoSigns (term_line t)
term_no_signs t is = factor_no_signs t.factor t.letters is.factor (letters_no_signs t.letters is.letters)

part_passed : (xs rest : Line) → NoSigns xs → part_in rest ≡ [] → part_in (xs ++ rest) ≡ xs
part_passed [] rest none ends = ends
part_passed (x ∷ xs) rest none ends = rw (none.0, part_passed xs rest none.1 ends) refl

later_passed : (xs rest : Line) → NoSigns xs → later_in (xs ++ rest) ≡ later_in rest
later_passed [] rest none = refl
later_passed (x ∷ xs) rest none = rw (none.0) (later_passed xs rest none.1)

factor_back : (negative : Bool) (factor : Option (List ℕ)) (letters : Line) → IsFactor factor → All (λ token. IsTrue (is_term_letter token)) letters
    → term_of negative (factor_line factor ++ letters) ≡ record { negative = negative; factor = factor; letters = letters }
factor_back negative None [] is each = refl
factor_back negative None (token ∷ letters) is each = rw (letter_no_number token (All-head (λ t. IsTrue (is_term_letter t)) token letters each)) refl
factor_back negative (Some digits) letters is each = let number : is_number digits ≡ true = is.0 in rw number refl

term_back : (t : TermTokens) → IsTerm t → term_of t.negative (term_line t) ≡ t
term_back t is = factor_back t.negative t.factor t.letters is.factor is.letters

sign_read : (negative : Bool) → (is_term_sign (cond negative (codes "-") (codes "+")) ≡ true) × (is_minus (cond negative (codes "-") (codes "+")) ≡ negative)
sign_read true = (refl, refl)
sign_read false = (refl, refl)

later_ends : (ts : List TermTokens) → part_in (flat_map later_line ts) ≡ []
later_ends [] = refl
later_ends (t ∷ ts) = rw ((sign_read t.negative).0) refl

behind_back : (t : TermTokens) (ts : List TermTokens) → IsTerm t → later_in (flat_map later_line ts) ≡ ts → terms_behind t.negative (term_line t ++ flat_map later_line ts) ≡ t ∷ ts
behind_back t ts is rest =
    rw (part_passed (term_line t) (flat_map later_line ts) (term_no_signs t is) (later_ends ts), later_passed (term_line t) (flat_map later_line ts) (term_no_signs t is), rest)
    (ap (λ u. u ∷ ts) (term_back t is))

later_back : (ts : List TermTokens) → All IsTerm ts → later_in (flat_map later_line ts) ≡ ts
later_back [] each = refl
later_back (t ∷ ts) each =
    let sign = sign_read t.negative in
    let rest = later_back ts (All-tail IsTerm t ts each) in
    rw (sign.0, sign.1) (behind_back t ts (All-head IsTerm t ts each) rest)

first_by : (negative : Bool) (line rest : Line) → NoSigns line → 0 < length line → terms_of (cond negative (codes "-" ∷ line) line ++ rest) ≡ terms_behind negative (line ++ rest)
first_by true line rest none some = refl
first_by false [] rest none some = absurd (omega (arith, some))
first_by false (x ∷ xs) rest none some = rw (no_minus x none.0) refl

some_tokens : (factor : Option (List ℕ)) (letters : Line) → 0 < length letters → 0 < length (factor_line factor ++ letters)
some_tokens None letters some = some
some_tokens (Some digits) letters some = omega arith

-- the terms of a line that spells terms
pub terms_back : (first : TermTokens) (later : List TermTokens) → IsTerm first → All IsTerm later → terms_of (polynomial_line (terms first later)) ≡ first ∷ later
terms_back first later is each =
    first_by first.negative (term_line first) (flat_map later_line later) (term_no_signs first is) (some_tokens first.factor first.letters is.some)
    ∙ behind_back first later is (later_back later each)

-- the terms of any line spell it
factor_there : (negative : Bool) (part : Line) → term_line (term_of negative part) ≡ part
factor_there negative [] = refl
factor_there negative (token ∷ tokens) = by_number _ refl
  where
    by_number : (b : Bool) → is_number token ≡ b → term_line (term_of negative (token ∷ tokens)) ≡ token ∷ tokens
    by_number true number = rw number refl
    by_number false number = rw number refl

negative_there : (negative : Bool) (part : Line) → (term_of negative part).negative ≡ negative
negative_there negative [] = refl
negative_there negative (token ∷ tokens) = by_number _ refl
  where
    by_number : (b : Bool) → is_number token ≡ b → (term_of negative (token ∷ tokens)).negative ≡ negative
    by_number true number = rw number refl
    by_number false number = rw number refl

sign_there : (token : List ℕ) → is_term_sign token ≡ true → cond (is_minus token) (codes "-") (codes "+") ≡ token
sign_there token sign = sign_is (λ t. cond (is_minus t) (codes "-") (codes "+") ≡ t) token sign refl refl

rest_there : (line : Line) → part_in line ++ flat_map later_line (later_in line) ≡ line
rest_there [] = refl
rest_there (token ∷ tokens) = by_sign _ refl (rest_there tokens)
  where
    by_sign : (b : Bool) → is_term_sign token ≡ b → part_in tokens ++ flat_map later_line (later_in tokens) ≡ tokens → part_in (token ∷ tokens) ++ flat_map later_line (later_in (token ∷ tokens)) ≡ token ∷ tokens
    by_sign true sign rest =
        rw (sign, negative_there (is_minus token) (part_in tokens), factor_there (is_minus token) (part_in tokens)) (ap₂ (λ t ts. t ∷ ts) (sign_there token sign) rest)
    by_sign false sign rest = rw sign (ap (λ ts. token ∷ ts) rest)

-- the terms of a line, and that they spell it
pub record HasTerms (line : Line) : Type 0 where
  pub first : TermTokens
  pub later : List TermTokens
  pub are : terms_of line ≡ first ∷ later
  pub spelled : first_line first ++ flat_map later_line later ≡ line

pub has_terms : (line : Line) → HasTerms line
has_terms [] = record { first = term_of false []; later = []; are = refl; spelled = refl }
has_terms (token ∷ tokens) = by_minus _ refl
  where
    by_minus : (b : Bool) → is_minus token ≡ b → HasTerms (token ∷ tokens)
    by_minus true minus = record {
      first = term_of true (part_in tokens);
      later = later_in tokens;
      are = rw minus refl;
      spelled = rw (negative_there true (part_in tokens), factor_there true (part_in tokens)) (ap₂ (λ t ts. t ∷ ts) (sym (is_word (codes "-") token minus)) (rest_there tokens));
    }
    by_minus false minus = record {
      first = term_of false (part_in (token ∷ tokens));
      later = later_in (token ∷ tokens);
      are = rw minus refl;
      spelled = rw (negative_there false (part_in (token ∷ tokens)), factor_there false (part_in (token ∷ tokens))) (rest_there (token ∷ tokens));
    }

-- a line that is zero has no terms
zero_terms : (digits : List ℕ) → is_number digits ≡ true → terms_of (digits ∷ []) ≡ record { negative = false; factor = Some digits; letters = [] } ∷ []
zero_terms digits number =
    let no_sign = number_no_sign digits number in
    rw (no_sign, no_minus digits no_sign, number) refl

no_zero : (line : Line) (first : TermTokens) (later : List TermTokens) → terms_of line ≡ first ∷ later → 0 < length first.letters → is_zero line ≡ true → ⊥
no_zero [] first later are some nought = absurd (cc)
no_zero (digits ∷ []) first later are some nought =
    let parts = and_parts (is_number digits) _ nought in
    let same : record { negative = false; factor = Some digits; letters = [] } ∷ [] ≡ first ∷ later = sym (zero_terms digits parts.0) ∙ are in
    let letters : ◌≡◌ {A = Line} [] first.letters = ap first_letters same in
    omega (arith, ap length letters, some)
  where
    first_letters : List TermTokens → Line
    first_letters [] = []
    first_letters (t ∷ ts) = t.letters
no_zero (a ∷ b ∷ tokens) first later are some nought = absurd (cc)

pub terms_no_zero : (first : TermTokens) (later : List TermTokens) → IsTerm first → All IsTerm later → is_zero (polynomial_line (terms first later)) ≡ false
terms_no_zero first later is each =
    false_from_ne_true (is_zero (polynomial_line (terms first later))) (λ nought. no_zero (polynomial_line (terms first later)) first later (terms_back first later is each) is.some nought)
