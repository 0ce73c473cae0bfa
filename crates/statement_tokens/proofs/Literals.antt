-- A written literal is read as its value.
use Rattle.statement_tokens.proofs.Prelude.{◌≡◌, ℕ, ◌+◌, ◌-◌, ◌*◌, ◌%◌, ◌<◌, ◌≤◌, ◌^◌, Bool, true, false, List, [], ◌∷◌, ◌++◌, length, Ok, refl, ap, ◌∙◌, arith, nat_le, pos, decimal, prefix_len, decimal_by_steps_wide, and_parts, le-leb, leb-true, lt-leb, lt-ltb, take_at, is_xid_start-ascii, Token, kind, item, is_digit, starts_name, value_from, item_at, item_in, literal_of}
use Rattle.statement_tokens.proofs.EachCharacter.{EachIs, differs}
use Rattle.statement_tokens.proofs.Rescan.{StopsAt, prefix_is}

value_from-append : (k : ℕ) (ds : List ℕ) (d : ℕ) → value_from k (ds ++ d ∷ []) ≡ value_from k ds * 10 + (d - 48)
value_from-append k [] d = refl
value_from-append k (c ∷ ds) d = value_from-append (k * 10 + (c - 48)) ds d

EachIs-append : (p : ℕ → Bool) (ds : List ℕ) (d : ℕ) → EachIs p ds → p d ≡ true → EachIs p (ds ++ d ∷ [])
EachIs-append p [] d known k = (k, tt)
EachIs-append p (c ∷ ds) d known k = (known.0, EachIs-append p ds d known.1 k)

digit_is : (n : ℕ) → n < 10 → is_digit (48 + n) ≡ true
digit_is n known = rw (le-leb 48 (48 + n) (omega arith), le-leb (48 + n) 57 (omega arith)) refl

pub record Digits (n : ℕ) (ds : List ℕ) : Type 0 where
  pub value : value_from 0 ds ≡ n
  pub each : EachIs is_digit ds
  pub first : ℕ
  pub more : List ℕ
  pub is : ds ≡ first ∷ more

pub decimal_digits : (n : ℕ) → n < 10 ^ 64 → Digits n (decimal n)
decimal_digits n below = decimal_by_steps_wide Digits
    (λ n small. record { value = omega arith; each = (digit_is n small, tt); first = 48 + n; more = []; is = refl })
    (λ n ds large digits. record {
      value = value_from-append 0 ds (48 + n % 10) ∙ ap (λ m. m * 10 + (48 + n % 10 - 48)) digits.value ∙ omega arith;
      each = EachIs-append is_digit ds (48 + n % 10) digits.each (digit_is (n % 10) (omega arith));
      first = digits.first;
      more = digits.more ++ (48 + n % 10) ∷ [];
      is = ap (λ x. x ++ (48 + n % 10) ∷ []) digits.is;
    })
    n below

-- a digit begins no name
pub record PlainDigit (c : ℕ) : Type 0 where
  pub name : starts_name c ≡ false
  pub low : c < 128

pub plain_digit : (c : ℕ) → is_digit c ≡ true → PlainDigit c
plain_digit c known =
    let parts = and_parts (nat_le 48 c) (nat_le c 57) known in
    let low : 48 ≤ c = leb-true 48 c parts.0 in
    let high : c ≤ 57 = leb-true c 57 parts.1 in
    record {
      name = rw (is_xid_start-ascii c (omega arith), lt-leb 65 c (omega arith), lt-leb 97 c (omega arith), differs is_digit c 95 known refl) refl;
      low = omega arith;
    }

pub literal_read : (before : List Token) (c : ℕ) (cs rest : List ℕ) → is_digit c ≡ true → prefix_len is_digit (cs ++ rest) ≡ length cs
    → item_at before c (cs ++ rest) ≡ literal_of (value_from 0 (c ∷ cs)) (length cs)
unfolding item_in
literal_read before c cs rest digit ends =
    rw (
      differs is_digit c 10 digit refl,
      differs is_digit c 32 digit refl,
      differs is_digit c 9 digit refl,
      differs is_digit c 13 digit refl,
      differs is_digit c 35 digit refl,
      (plain_digit c digit).name,
      digit,
      ends,
      take_at cs rest (length cs) refl,
    ) refl

pub literal_back : (before : List Token) (n c : ℕ) (cs rest : List ℕ) → n < 2 ^ 127 → value_from 0 (c ∷ cs) ≡ n → is_digit c ≡ true → EachIs is_digit cs
    → StopsAt is_digit rest → item_at before c (cs ++ rest) ≡ Ok (item.Token (kind.Literal (pos n)) (length cs))
literal_back before n c cs rest below value digit each stops =
    literal_read before c cs rest digit (prefix_is is_digit cs rest each stops) ∙ rw (value, lt-ltb n (2 ^ 127) below) refl
