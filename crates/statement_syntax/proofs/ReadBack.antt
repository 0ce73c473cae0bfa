-- A written text is read as tokens of the kinds that it was written from.
use Rattle.statement_syntax.proofs.Prelude.{◌≡◌, ℕ, ◌+◌, ◌≤◌, ◌||◌, ◌&&◌, Bool, true, false, cond, List, [], ◌∷◌, ◌++◌, inl, inr, length, get_or, drop, Result, Ok, Err, refl, sym, ap, ap₂, subst, ◌∙◌, append_assoc, arith, ℤ, decimal, nat_lt, signed_decimal, encode_utf8_all, scalar, scalars, le-leb, lt-ltb, ltb-true, append-nil, encodes-append, encode_ascii, Token, TokenKind, kind, item, BadToken, Placed, Language, language_of, is_digit, value_from, item_at, item_in, name_of, tokens_from, with_front, name_limit, opens, closes, kind_text, gap, text_from, spot, and_first, and_second, EachIs, EndsBefore, Ender, one_token, name_back, stops_name, stops_digits, colon_back, equals_back, plus_back, minus_back, arrow_back, open_back, close_back, open_square_back, close_square_back, quote_back, caret_back, Digits, decimal_digits, plain_digit, literal_back}
use Rattle.statement_tokens.proofs.Reading.{◌>>=◌}
use Rattle.statement_syntax.proofs.Moved.{kinds}
use Rattle.statement_syntax.proofs.Carets.{Allows, carets_stay, carets_second}
use Rattle.statement_syntax.proofs.Spelled.{SpellsName, SpellsNumber, IsToken, AllKinds}

-- the characters of a token
pub digits_of : (v : ℤ) → (t : SpellsNumber v) → Digits t.size (decimal t.size)
digits_of v t = decimal_digits t.size (omega (arith, t.below))

-- characters below 128, which are their own bytes
abbrev AreLow : List ℕ → Type 0
AreLow cs = EachIs (λ c. nat_lt c 128) cs

low_bytes : (cs : List ℕ) → AreLow cs → encode_utf8_all cs ≡ cs
low_bytes [] given = refl
low_bytes (c ∷ cs) given = rw (encode_ascii c (ltb-true c 128 given.0), low_bytes cs given.1) refl

digits_low : (ds : List ℕ) → EachIs is_digit ds → AreLow ds
digits_low [] given = tt
digits_low (d ∷ ds) given = (lt-ltb d 128 (plain_digit d given.0).low, digits_low ds given.1)

scalars_low : (cs : List ℕ) → AreLow cs → scalars cs ≡ true
scalars_low [] given = refl
scalars_low (c ∷ cs) given = rw (lt-ltb c 55296 (omega (arith, ltb-true c 128 given.0)), scalars_low cs given.1) refl

number_back : (before : List Token) (v : ℤ) (t : SpellsNumber v) (rest : List ℕ) → EndsBefore rest → item_at before (digits_of v t).first ((digits_of v t).more ++ rest) ≡ Ok (item.Token (kind.Literal v) (length (digits_of v t).more))
number_back before v t rest given =
    let d = digits_of v t in
    let each : EachIs is_digit (d.first ∷ d.more) = subst (EachIs is_digit) d.is d.each in
    literal_back before t.size d.first d.more rest t.below (ap (value_from 0) (sym d.is) ∙ d.value) each.0 each.1 (stops_digits rest given)
    ∙ ap (λ z. Ok (item.Token (kind.Literal z) (length d.more))) (sym t.is)

word_back : (before : List Token) (x : List ℕ) (t : SpellsName x) (rest : List ℕ) → EndsBefore rest → item_at before t.first (t.more ++ rest) ≡ Ok (item.Token (kind.Name x) (length t.more))
word_back before x t rest given =
    name_back before t.first t.more rest t.starts t.goes_on (stops_name rest given)
    ∙ ap (λ y. name_of y (length t.more)) (sym t.is)
    ∙ ap (λ b. cond b (Ok (item.Token (kind.Name x) (length t.more))) (Err BadToken)) (le-leb (length x) name_limit t.short)

-- the characters of a line
abbrev pub glue : Bool → List ℕ → List ℕ
glue true text = text
glue false text = 32 ∷ text

glue-bytes : (b : Bool) (text : List ℕ) → encode_utf8_all (glue b text) ≡ gap b ++ encode_utf8_all text
glue-bytes true text = refl
glue-bytes false text = ap (λ x. x ++ encode_utf8_all text) (encode_ascii 32 (omega arith))

scalars-join : (xs ys : List ℕ) → scalars xs ≡ true → scalars ys ≡ true → scalars (xs ++ ys) ≡ true
scalars-join [] ys f g = g
scalars-join (x ∷ xs) ys f g = ap₂ (λ a b. a && b) (and_first (scalar x) (scalars xs) f) (scalars-join xs ys (and_second (scalar x) (scalars xs) f) g)

glue-scalars : (b : Bool) (text : List ℕ) → scalars text ≡ true → scalars (glue b text) ≡ true
glue-scalars true text given = given
glue-scalars false text given = given

-- after these tokens the text is read as tokens of these kinds, and then goes on as the rest
pub record ReadAs (before : List Token) (text : List ℕ) (ks : List TokenKind) (rest : List ℕ) (line column past : ℕ) : Type 0 where
  pub tokens : List Token
  pub are : kinds tokens ≡ ks
  pub column' : ℕ
  pub past' : ℕ
  pub reads : tokens_from before text 0 (spot line column) past ≡ with_front tokens (tokens_from (before ++ tokens) rest 0 (spot line column') past')
  -- a token is before the rest, if one is before the text or part of it
  pub kept : 1 ≤ past + length ks → 1 ≤ past'

front_nil : (r : Result (List Token) Placed) → with_front [] r ≡ r
front_nil (Ok ts) = refl
front_nil (Err e) = refl

front_more : (t : Token) (ts : List Token) (r : Result (List Token) Placed) → (with_front ts r >>= λ x. Ok (t ∷ x)) ≡ with_front (t ∷ ts) r
front_more t ts (Ok x) = refl
front_more t ts (Err e) = refl

glued_reads : (before : List Token) (b : Bool) (text : List ℕ) (ks : List TokenKind) (rest : List ℕ) (line past : ℕ) → ((column : ℕ) → ReadAs before text ks rest line column past) → (column : ℕ) → ReadAs before (glue b text) ks rest line column past
unfolding tokens_from item_in
glued_reads before true text ks rest line past given column = given column
glued_reads before false text ks rest line past given column =
    let r = given (column + 1) in
    record { tokens = r.tokens; are = r.are; column' = r.column'; past' = r.past'; reads = r.reads; kept = r.kept }

-- what holds of the tokens of a language

module _ (language : Language) where
  abbrev pub first_of : (k : TokenKind) → IsToken language k → ℕ
  first_of (kind.Name x) t = t.first
  first_of (kind.Literal v) t = (digits_of v t).first
  first_of kind.End t = absurd t
  first_of k t = get_or (kind_text k) 0 0

  abbrev pub more_of : (k : TokenKind) → IsToken language k → List ℕ
  more_of (kind.Name x) t = t.more
  more_of (kind.Literal v) t = (digits_of v t).more
  more_of k t = drop 1 (kind_text k)

  text_is : (k : TokenKind) (t : IsToken language k) → kind_text k ≡ encode_utf8_all (first_of k t ∷ more_of k t)
  text_is (kind.Name x) t = t.is
  text_is (kind.Literal v) t =
      let d = digits_of v t in
      ap signed_decimal t.is ∙ sym (low_bytes (decimal t.size) (digits_low _ d.each)) ∙ ap encode_utf8_all d.is
  text_is kind.End t = absurd t
  text_is kind.Arrow t = sym (low_bytes (kind_text kind.Arrow) (refl, (refl, tt)))
  text_is k t = sym (low_bytes (kind_text k) (refl, tt))

  scalar_is : (k : TokenKind) (t : IsToken language k) → scalars (first_of k t ∷ more_of k t) ≡ true
  scalar_is (kind.Name x) t = t.scalar
  scalar_is (kind.Literal v) t = let d = digits_of v t in ap scalars (sym d.is) ∙ scalars_low (decimal t.size) (digits_low _ d.each)
  scalar_is kind.End t = absurd t
  scalar_is k t = refl

  -- a token's characters are read as it, where carets are tokens if they are ones of the language and it ends before what follows it
  read_back : (before : List Token) → Allows language before → (k : TokenKind) (t : IsToken language k) (rest : List ℕ) → (opens k ≡ false → EndsBefore rest)
      → item_at before (first_of k t) (more_of k t ++ rest) ≡ Ok (item.Token k (length (more_of k t)))
  read_back before allowed (kind.Name x) t rest given = word_back before x t rest (given refl)
  read_back before allowed (kind.Literal v) t rest given = number_back before v t rest (given refl)
  read_back before allowed kind.Colon t rest given = colon_back before rest
  read_back before allowed kind.Arrow t rest given = arrow_back before rest
  read_back before allowed kind.Equals t rest given = equals_back before rest
  read_back before allowed kind.Plus t rest given = plus_back before rest
  read_back before allowed kind.Minus t rest given = minus_back before rest (given refl)
  read_back before allowed kind.Open t rest given = open_back before rest
  read_back before allowed kind.Close t rest given = close_back before rest
  read_back before allowed kind.OpenSquare t rest given = open_square_back before rest
  read_back before allowed kind.CloseSquare t rest given = close_square_back before rest
  read_back before allowed kind.Quote t rest given = quote_back before rest
  read_back before allowed kind.Caret t rest given = caret_back before rest (carets_second (language_of before) (allowed t))
  read_back before allowed kind.End t rest given = absurd t

  -- the characters of tokens, and then others
  abbrev pub characters : (ks : List TokenKind) → AllKinds (IsToken language) ks → Bool → List ℕ → List ℕ
  characters [] all glued rest = rest
  characters (k ∷ ks) all glued rest = glue (glued || closes k) (first_of k all.0 ∷ (more_of k all.0 ++ characters ks all.1 (opens k) rest))

  -- they are the bytes of the tokens
  pub characters-bytes : (ks : List TokenKind) (all : AllKinds (IsToken language) ks) (glued : Bool) (rest : List ℕ) → encode_utf8_all (characters ks all glued rest) ≡ text_from glued ks ++ encode_utf8_all rest
  characters-bytes [] all glued rest = refl
  characters-bytes (k ∷ ks) all glued rest =
      let more = characters ks all.1 (opens k) rest in
      glue-bytes (glued || closes k) (first_of k all.0 ∷ (more_of k all.0 ++ more))
      ∙ rw (encodes-append (first_of k all.0 ∷ more_of k all.0) more, ← text_is k all.0, characters-bytes ks all.1 (opens k) rest) (simp append_assoc)

  pub characters-scalars : (ks : List TokenKind) (all : AllKinds (IsToken language) ks) (glued : Bool) (rest : List ℕ) → scalars rest ≡ true → scalars (characters ks all glued rest) ≡ true
  characters-scalars [] all glued rest given = given
  characters-scalars (k ∷ ks) all glued rest given =
      glue-scalars (glued || closes k) _ (scalars-join (first_of k all.0 ∷ more_of k all.0) (characters ks all.1 (opens k) rest) (scalar_is k all.0) (characters-scalars ks all.1 (opens k) rest given))

  -- what follows a token
  closing_first : (k : TokenKind) (t : IsToken language k) → closes k ≡ true → Ender (first_of k t)
  closing_first kind.Close t given = inr (inr (inl refl))
  closing_first kind.CloseSquare t given = inr (inr (inr (inl refl)))
  closing_first kind.Quote t given = inr (inr (inr (inr (inl refl))))
  closing_first kind.Caret t given = inr (inr (inr (inr (inr refl))))
  closing_first kind.End t given = absurd t
  closing_first k t given = absurd cc

  behind_gap : (k : TokenKind) (t : IsToken language k) (more : List ℕ) (b : Bool) → closes k ≡ b → EndsBefore (glue b (first_of k t ∷ more))
  behind_gap k t more true is = closing_first k t is
  behind_gap k t more false is = inl refl

  unglued : (ks : List TokenKind) (all : AllKinds (IsToken language) ks) (rest : List ℕ) → EndsBefore rest → EndsBefore (characters ks all false rest)
  unglued [] all rest given = given
  unglued (k ∷ ks) all rest given = behind_gap k all.0 (more_of k all.0 ++ characters ks all.1 (opens k) rest) (closes k) refl

  -- the characters of tokens are read as them
  pub line_read : (ks : List TokenKind) (all : AllKinds (IsToken language) ks) (glued : Bool) (rest : List ℕ) (before : List Token) (line column past : ℕ) → Allows language before → EndsBefore rest → ReadAs before (characters ks all glued rest) ks rest line column past
  line_read [] all glued rest before line column past allowed given =
      record {
        tokens = [];
        are = refl;
        column' = column;
        past' = past;
        reads = rw append-nil (sym (front_nil _));
        kept = λ some. omega (arith, some);
      }
  line_read (k ∷ ks) all glued rest before line column past allowed given =
      let more = characters ks all.1 (opens k) rest in
      glued_reads before (glued || closes k) (first_of k all.0 ∷ (more_of k all.0 ++ more)) (k ∷ ks) rest line past (λ col.
      let after = col + 1 + length (more_of k all.0) in
      let here : Token = record { at = spot line col; kind = k } in
      let r = line_read ks all.1 (opens k) rest (before ++ here ∷ []) line after after (λ has. carets_stay before (here ∷ []) (allowed has)) given in
      record {
        tokens = here ∷ r.tokens;
        are = ap (λ x. k ∷ x) r.are;
        column' = r.column';
        past' = r.past';
        reads = one_token before (first_of k all.0) (more_of k all.0) more k line col past
            (read_back before allowed k all.0 more (λ closed. rw closed (unglued ks all.1 rest given)))
            ∙ rw (r.reads, append_assoc) (front_more here r.tokens _);
        kept = λ some. r.kept (omega arith);
      }) column
