-- A token's text is read as that token, where what follows it begins no longer one.
use Rattle.statement_tokens.proofs.Prelude.{◌≡◌, ℕ, ◌+◌, ◌<◌, ◌==◌, ◌||◌, eqb, get_or, Bool, true, false, List, cond, [], ◌∷◌, ◌++◌, length, Ok, refl, sym, ap, ◌∙◌, length-append, arith, ◌⊎◌, inl, inr, prefix_len, encode_utf8_all, drop_at, take_at, is_ascii_alphabetic, is_ascii_alphanumeric, is_xid_continue, is_xid_start-ascii, is_xid_continue-ascii, Token, TokenKind, kind, item, Second, language_of, starts_name, is_digit, sign_text, item_at, item_in, begins_with, name_of, caret_in}
use Rattle.statement_tokens.proofs.Reading.{◌>>=◌, tokens_from, with_front}
use Rattle.statement_tokens.proofs.Scanning.{spot, turn_token}
use Rattle.statement_tokens.proofs.EachCharacter.{EachIs, differs}

-- what follows does not continue it
abbrev pub StopsAt : (ℕ → Bool) → List ℕ → Type 0
StopsAt p [] = Unit {0}
StopsAt p (c ∷ cs) = p c ≡ false

pub prefix_is : (p : ℕ → Bool) (cs rest : List ℕ) → EachIs p cs → StopsAt p rest → prefix_len p (cs ++ rest) ≡ length cs
prefix_is p [] [] e s = refl
prefix_is p [] (d ∷ ds) e s = ap (λ b. cond b (1 + prefix_len p ds) 0) s
prefix_is p (c ∷ cs) rest e s = ap (λ b. cond b (1 + prefix_len p (cs ++ rest)) 0) e.0 ∙ ap (λ n. 1 + n) (prefix_is p cs rest e.1 s) ∙ omega arith

-- a character that begins a name is none that doesn't
pub no_start : (c n : ℕ) → starts_name c ≡ true → n < 128 → (is_ascii_alphabetic n || (n == 95)) ≡ false → (c == n) ≡ false
no_start c n starts small other = differs starts_name c n starts (rw (is_xid_start-ascii n small) other)

pub one_token : (before : List Token) (c : ℕ) (cs rest : List ℕ) (k : TokenKind) (line column past : ℕ)
    → item_at before c (cs ++ rest) ≡ Ok (item.Token k (length cs)) → tokens_from before (c ∷ (cs ++ rest)) 0 (spot line column) past
    ≡ (tokens_from (before ++ record { at = spot line column; kind = k } ∷ []) rest 0 (spot line (column + 1 + length cs)) (column + 1 + length cs)
    >>= λ ts. Ok (record { at = spot line column; kind = k } ∷ ts))
one_token before c cs rest k line column past given =
    let token : Token = record { at = spot line column; kind = k } in
    turn_token before c (cs ++ rest) rest (length cs) (length (c ∷ cs)) (omega (arith, length-append cs rest)) (sym (drop_at cs rest (length cs) refl))
    (omega arith) (spot line column) past k given
    ∙ ap (λ to. with_front (token ∷ []) (tokens_from (before ++ token ∷ []) rest 0 (spot line to) to)) (omega arith)

pub name_read : (before : List Token) (c : ℕ) (cs rest : List ℕ) → starts_name c ≡ true → prefix_len is_xid_continue (cs ++ rest) ≡ length cs
    → item_at before c (cs ++ rest) ≡ name_of (encode_utf8_all (c ∷ cs)) (length cs)
unfolding item_in
name_read before c cs rest s ends =
    rw (
      no_start c 10 s (omega arith) refl,
      no_start c 32 s (omega arith) refl,
      no_start c 9 s (omega arith) refl,
      no_start c 13 s (omega arith) refl,
      no_start c 35 s (omega arith) refl,
      s,
      ends,
      take_at cs rest (length cs) refl,
    ) refl

pub name_back : (before : List Token) (c : ℕ) (cs rest : List ℕ) → starts_name c ≡ true → EachIs is_xid_continue cs → StopsAt is_xid_continue rest
    → item_at before c (cs ++ rest) ≡ name_of (encode_utf8_all (c ∷ cs)) (length cs)
name_back before c cs rest s e stop = name_read before c cs rest s (prefix_is is_xid_continue cs rest e stop)

-- what may follow a token with no blank between
abbrev pub Ender : ℕ → Type 0
Ender c = (c ≡ 32) ⊎ (c ≡ 10) ⊎ (c ≡ 41) ⊎ (c ≡ 93) ⊎ (c ≡ 39) ⊎ (c ≡ 94)

abbrev pub EndsBefore : List ℕ → Type 0
EndsBefore [] = Unit {0}
EndsBefore (c ∷ rest) = Ender c

plain_ender : (c : ℕ) → Ender c → (c < 128) × ((is_ascii_alphanumeric c || (c == 95)) ≡ false) × (is_digit c ≡ false) × ((c == 62) ≡ false)
plain_ender c (inl is) = rw is (omega arith, refl, refl, refl)
plain_ender c (inr (inl is)) = rw is (omega arith, refl, refl, refl)
plain_ender c (inr (inr (inl is))) = rw is (omega arith, refl, refl, refl)
plain_ender c (inr (inr (inr (inl is)))) = rw is (omega arith, refl, refl, refl)
plain_ender c (inr (inr (inr (inr (inl is))))) = rw is (omega arith, refl, refl, refl)
plain_ender c (inr (inr (inr (inr (inr is))))) = rw is (omega arith, refl, refl, refl)

-- it continues no name, no literal and no sign
pub stops_name : (rest : List ℕ) → EndsBefore rest → StopsAt is_xid_continue rest
stops_name [] given = tt
stops_name (c ∷ rest) given = let plain = plain_ender c given in rw (is_xid_continue-ascii c plain.0) plain.1

pub stops_digits : (rest : List ℕ) → EndsBefore rest → StopsAt is_digit rest
stops_digits [] given = tt
stops_digits (c ∷ rest) given = (plain_ender c given).2

no_arrow : (rest : List ℕ) → EndsBefore rest → begins_with 62 rest ≡ false
no_arrow [] given = refl
no_arrow (c ∷ rest) given = (plain_ender c given).3

-- a sign of one character that is of both languages, and begins no longer one
abbrev pub is_plain_sign : TokenKind → Bool
is_plain_sign kind.Minus = false
is_plain_sign kind.Caret = false
is_plain_sign k = eqb (length (sign_text k)) 1

module _ (before : List Token) (rest : List ℕ) where
  pub sign_back : (k : TokenKind) → is_plain_sign k ≡ true → item_at before (get_or (sign_text k) 0 0) rest ≡ Ok (item.Token k 0)
  unfolding item_in
  sign_back (kind.Name text) is = absurd cc
  sign_back (kind.Literal value) is = absurd cc
  sign_back kind.Arrow is = absurd cc
  sign_back kind.Minus is = absurd cc
  sign_back kind.Caret is = absurd cc
  sign_back kind.End is = absurd cc
  sign_back k is = rw (is_xid_start-ascii (get_or (sign_text k) 0 0) (omega arith)) refl

  pub colon_back : item_at before 58 rest ≡ Ok (item.Token kind.Colon 0)
  colon_back = sign_back kind.Colon refl

  pub equals_back : item_at before 61 rest ≡ Ok (item.Token kind.Equals 0)
  equals_back = sign_back kind.Equals refl

  pub plus_back : item_at before 43 rest ≡ Ok (item.Token kind.Plus 0)
  plus_back = sign_back kind.Plus refl

  pub open_back : item_at before 40 rest ≡ Ok (item.Token kind.Open 0)
  open_back = sign_back kind.Open refl

  pub close_back : item_at before 41 rest ≡ Ok (item.Token kind.Close 0)
  close_back = sign_back kind.Close refl

  pub open_square_back : item_at before 91 rest ≡ Ok (item.Token kind.OpenSquare 0)
  open_square_back = sign_back kind.OpenSquare refl

  pub close_square_back : item_at before 93 rest ≡ Ok (item.Token kind.CloseSquare 0)
  close_square_back = sign_back kind.CloseSquare refl

  pub quote_back : item_at before 39 rest ≡ Ok (item.Token kind.Quote 0)
  quote_back = sign_back kind.Quote refl

-- a caret is read where the tokens before it are of the second language
pub caret_read : (before : List Token) (rest : List ℕ) → item_at before 94 rest ≡ caret_in (language_of before)
unfolding item_in
caret_read before rest = rw (is_xid_start-ascii 94 (omega arith)) refl

pub caret_back : (before : List Token) (rest : List ℕ) → language_of before ≡ Second → item_at before 94 rest ≡ Ok (item.Token kind.Caret 0)
caret_back before rest given = caret_read before rest ∙ ap caret_in given

pub arrow_back : (before : List Token) (rest : List ℕ) → item_at before 45 (62 ∷ rest) ≡ Ok (item.Token kind.Arrow 1)
unfolding item_in
arrow_back before rest = rw (is_xid_start-ascii 45 (omega arith)) refl

pub minus_read : (before : List Token) (rest : List ℕ) → begins_with 62 rest ≡ false → item_at before 45 rest ≡ Ok (item.Token kind.Minus 0)
unfolding item_in
minus_read before rest given = rw (is_xid_start-ascii 45 (omega arith), given) refl

pub minus_back : (before : List Token) (rest : List ℕ) → EndsBefore rest → item_at before 45 rest ≡ Ok (item.Token kind.Minus 0)
minus_back before rest given = minus_read before rest (no_arrow rest given)
