-- What is read as a name or a literal is spelled as one.
use Rattle.statement_syntax.proofs.Prelude.{◌≡◌, ℕ, zero, suc, ◌+◌, ◌≤◌, ◌<◌, ◌^◌, ◌==◌, ◌&&◌, ◌||◌, Bool, true, false, cond, List, [], ◌∷◌, ◌++◌, length, take, Result, Ok, Err, refl, ap, subst, ◌∙◌, append_assoc, ℤ, pos, nat_le, nat_lt, prefix_len, take_while, encode_utf8_all, scalars, leb-true, ltb-true, is_xid_continue, Spot, Token, TokenKind, kind, Item, item, Fault, Placed, Language, First, Second, language_of, starts_name, is_digit, end_of, right_of, below, item_at, item_in, sign_in, caret_in, begins_with, name_of, literal_of, tokens_from, placed, name_limit, EachIs, EachIs-take_while, and_first, and_second}
use Rattle.statement_syntax.proofs.LastToken.{scan_ok, tokens_is}
use Rattle.statement_syntax.proofs.Moved.{kinds}
use Rattle.statement_syntax.proofs.Carets.{HasCarets, carets_stay}

-- a name is spelled by these characters
pub record SpellsName (text : List ℕ) : Type 0 where
  pub first : ℕ
  pub more : List ℕ
  pub is : text ≡ encode_utf8_all (first ∷ more)
  pub starts : starts_name first ≡ true
  pub goes_on : EachIs is_xid_continue more
  pub scalar : scalars (first ∷ more) ≡ true
  pub short : length text ≤ name_limit

pub record SpellsNumber (value : ℤ) : Type 0 where
  pub size : ℕ
  pub is : value ≡ pos size
  pub below : size < 2 ^ 127

-- it can be a token of a statement of the language
abbrev pub IsToken : Language → TokenKind → Type 0
IsToken language (kind.Name text) = SpellsName text
IsToken language (kind.Literal value) = SpellsNumber value
IsToken language kind.Caret = HasCarets language
IsToken language kind.End = ⊥
IsToken language k = Unit {0}

-- it can be a token of a file of the language
abbrev pub IsFileToken : Language → TokenKind → Type 0
IsFileToken language kind.End = Unit {0}
IsFileToken language k = IsToken language k

abbrev pub AllKinds : (TokenKind → Type 0) → List TokenKind → Type 0
AllKinds P [] = Unit {0}
AllKinds P (k ∷ ks) = P k × AllKinds P ks

pub AllKinds-append : (P : TokenKind → Type 0) (xs ys : List TokenKind) → AllKinds P xs → AllKinds P ys → AllKinds P (xs ++ ys)
AllKinds-append P [] ys f g = g
AllKinds-append P (x ∷ xs) ys f g = (f.0, AllKinds-append P xs ys f.1 g)

pub AllKinds-split : (P : TokenKind → Type 0) (xs ys : List TokenKind) → AllKinds P (xs ++ ys) → AllKinds P xs × AllKinds P ys
AllKinds-split P [] ys given = (tt, given)
AllKinds-split P (x ∷ xs) ys given = let rest = AllKinds-split P xs ys given.1 in ((given.0, rest.0), rest.1)

-- characters
scalars-take : (n : ℕ) (cs : List ℕ) → scalars cs ≡ true → scalars (take n cs) ≡ true
scalars-take (suc n) (c ∷ cs) given = ap (λ b. b && scalars (take n cs)) (and_first _ _ given) ∙ scalars-take n cs (and_second _ _ given)
scalars-take n cs given = refl

-- one token
module _ (language : Language) where
  -- if it is a token, then such a one
  abbrev Makes : Result Item Fault → Type 0
  Makes (Ok (item.Token k more)) = IsToken language k
  Makes r = Unit {0}

  by_test : (b : Bool) (x y : Result Item Fault) → (b ≡ true → Makes x) → Makes y → Makes (cond b x y)
  by_test true x y here there = here refl
  by_test false x y here there = there

  name_makes : (c : ℕ) (rest : List ℕ) → scalars (c ∷ rest) ≡ true → starts_name c ≡ true
      → Makes (name_of (encode_utf8_all (c ∷ take_while is_xid_continue rest)) (prefix_len is_xid_continue rest))
  name_makes c rest scalar starts =
      by_test (nat_le (length (encode_utf8_all (c ∷ take_while is_xid_continue rest))) name_limit) _ _
      (λ short. record {
        first = c;
        more = take_while is_xid_continue rest;
        is = refl;
        starts = starts;
        goes_on = EachIs-take_while is_xid_continue rest;
        scalar = scalars-take (suc (prefix_len is_xid_continue rest)) (c ∷ rest) scalar;
        short = leb-true _ _ short;
      })
      tt

  literal_makes : (value more : ℕ) → Makes (literal_of value more)
  literal_makes value more = by_test (nat_lt value (2 ^ 127)) _ _ (λ below. record { size = value; is = refl; below = ltb-true _ _ below }) tt

caret_makes : (language : Language) → Makes language (caret_in language)
caret_makes First = tt
caret_makes Second = tt

sign_makes : (language : Language) (c : ℕ) → Makes language (sign_in language c)
sign_makes language c =
    by_test language (c == 58) _ _ (λ e. tt) (
    by_test language (c == 61) _ _ (λ e. tt) (
    by_test language (c == 43) _ _ (λ e. tt) (
    by_test language (c == 40) _ _ (λ e. tt) (
    by_test language (c == 41) _ _ (λ e. tt) (
    by_test language (c == 91) _ _ (λ e. tt) (
    by_test language (c == 93) _ _ (λ e. tt) (
    by_test language (c == 39) _ _ (λ e. tt) (
    by_test language (c == 94) _ _ (λ e. caret_makes language) tt))))))))

item_makes : (language : Language) (c : ℕ) (rest : List ℕ) → scalars (c ∷ rest) ≡ true → Makes language (item_in language c rest)
unfolding item_in
item_makes language c rest scalar =
    by_test language (c == 10) _ _ (λ e. tt) (
    by_test language ((c == 32) || (c == 9) || ((c == 13) && begins_with 10 rest)) _ _ (λ e. tt) (
    by_test language (c == 35) _ _ (λ e. tt) (
    by_test language (starts_name c) _ _ (λ starts. name_makes language c rest scalar starts) (
    by_test language (is_digit c) _ _ (λ e. literal_makes language _ _) (
    by_test language (c == 45) _ _ (λ e. by_test language (begins_with 62 rest) _ _ (λ e. tt) tt) (sign_makes language c))))))

-- all tokens
file_token : (language : Language) (k : TokenKind) → IsToken language k → IsFileToken language k
file_token language kind.End t = tt
file_token language k t = t

-- it is a token of all that goes on with it
token_stays : (before more : List Token) (k : TokenKind) → IsFileToken (language_of before) k → IsFileToken (language_of (before ++ more)) k
token_stays before more kind.Caret t = carets_stay before more t
token_stays before more k t = t

-- after these they are tokens of one file
abbrev AreBehind : List Token → List Token → Type 0
AreBehind before ts = AllKinds (IsFileToken (language_of (before ++ ts))) (kinds ts)

end_are : (language : Language) (line past : ℕ) (us : List Token) → AllKinds (IsFileToken language) (kinds us) → AllKinds (IsFileToken language) (kinds (end_of line past ++ us))
end_are language line zero us given = given
end_are language line (suc n) us given = (tt, given)

-- the same tokens, with some more before them
shifted : (before here us : List Token) → AreBehind (before ++ here) us → AllKinds (IsFileToken (language_of (before ++ (here ++ us)))) (kinds us)
shifted before here us given = subst (λ ts. AllKinds (IsFileToken (language_of ts)) (kinds us)) (append_assoc before here us) given

placed_are : (before : List Token) (r : Result Item Fault) (at : Spot) (past : ℕ) (next : List Token → ℕ → Spot → ℕ → Result (List Token) Placed)
    → Makes (language_of before) r
    → ((front : List Token) (skip : ℕ) (to : Spot) (end : ℕ) (us : List Token) → next front skip to end ≡ Ok us → AreBehind front us)
    → (ts : List Token) → placed before r at past next ≡ Ok ts → AreBehind before ts
placed_are before (Err e) at past next makes go ts given = absurd cc
placed_are before (Ok item.NewLine) at past next makes go ts given =
    let here = end_of at.line past in
    let one = scan_ok (next (before ++ here) 0 (below at) 0) (λ ts. Ok (here ++ ts)) ts given in
    subst (AreBehind before) (tokens_is _ ts one.2) (end_are (language_of (before ++ (here ++ one.0))) at.line past one.0 (shifted before here one.0 (go (before ++ here) 0 (below at) 0 one.0 one.1)))
placed_are before (Ok (item.Gap more)) at past next makes go ts given = go before more (right_of at 1) past ts given
placed_are before (Ok (item.Token k more)) at past next makes go ts given =
    let here : List Token = record { at = at; kind = k } ∷ [] in
    let one = scan_ok (next (before ++ here) more (right_of at 1) (at.column + 1 + more)) (λ ts. Ok (record { at = at; kind = k } ∷ ts)) ts given in
    subst (AreBehind before) (tokens_is _ ts one.2) (
      token_stays before (here ++ one.0) k (file_token (language_of before) k makes),
      shifted before here one.0 (go (before ++ here) more (right_of at 1) (at.column + 1 + more) one.0 one.1),
    )

-- the tokens of a text are spelled so, after others
pub tokens_are : (before : List Token) (cs : List ℕ) (skip : ℕ) (at : Spot) (past : ℕ) (ts : List Token) → scalars cs ≡ true → tokens_from before cs skip at past ≡ Ok ts → AreBehind before ts
unfolding tokens_from
tokens_are before [] skip at zero ts scalar given = subst (AreBehind before) (tokens_is _ ts given) tt
tokens_are before [] skip at (suc past) ts scalar given = subst (AreBehind before) (tokens_is _ ts given) (tt, tt)
tokens_are before (c ∷ cs) (suc skip) at past ts scalar given = tokens_are before cs skip (right_of at 1) past ts (and_second _ _ scalar) given
tokens_are before (c ∷ cs) zero at past ts scalar given =
    placed_are before (item_at before c cs) at past (λ front skip to end. tokens_from front cs skip to end) (item_makes (language_of before) c cs scalar)
    (λ front skip to end us e. tokens_are front cs skip to end us (and_second _ _ scalar) e) ts given
