-- What a text begins with: a longest piece, or none.
use Rattle.statement_tokens.proofs.Prelude.{◌≡◌, ℕ, ◌+◌, ◌≤◌, ◌==◌, ◌&&◌, ◌||◌, Bool, true, false, not, List, [], ◌∷◌, ◌++◌, length, get_or, drop, suc, refl, sym, ap, ap₂, subst, ◌∙◌, arith, ◌⊎◌, inl, inr, if◌then◌else◌, nat_lt, is_ascii_alphabetic, prefix_len, take_while, list_all, list_any, take-append-drop, length-prefix_len, eqb-true, ltb-true, not-true, both_ways, and_parts, or_parts, or_cases, is_xid_continue, is_xid_start-ascii, TokenKind, kind, Piece, line_feed, return_and_line_feed, blank, tab, comment, name, literal, sign, piece_text, is_piece, IsLongest, BeginsNone, starts_name, is_digit, is_inside_line, begins_with}
use Rattle.statement_tokens.proofs.EachCharacter.{EachIs-take_while, all_are, front_passes, differs}
use Rattle.statement_tokens.proofs.Rescan.{no_start}
use Rattle.statement_tokens.proofs.Literals.{plain_digit}

-- at most how many characters may continue the first
pub goes_on : List ℕ → ℕ
goes_on [] = 0
goes_on (c ∷ rest) =
    if c == 13 then 1
    else (if c == 35 then prefix_len is_inside_line rest
    else (if starts_name c then prefix_len is_xid_continue rest
    else (if is_digit c then prefix_len is_digit rest
    else (if (c == 45) && begins_with 62 rest then 1 else 0))))

named_on : (c : ℕ) (rest : List ℕ) → starts_name c ≡ true → goes_on (c ∷ rest) ≡ prefix_len is_xid_continue rest
unfolding goes_on
named_on c rest is = rw (no_start c 13 is (omega arith) refl, no_start c 35 is (omega arith) refl, is) refl

counted_on : (c : ℕ) (rest : List ℕ) → is_digit c ≡ true → goes_on (c ∷ rest) ≡ prefix_len is_digit rest
unfolding goes_on
counted_on c rest is = rw (differs is_digit c 13 is refl, differs is_digit c 35 is refl, (plain_digit c is).name, is) refl

no_longer : (piece : Piece) (more : List ℕ) → is_piece piece ≡ true → length (piece_text piece) ≤ 1 + goes_on (piece_text piece ++ more)
unfolding goes_on
no_longer return_and_line_feed more is = omega arith
no_longer (comment cs) more is = let long = front_passes is_inside_line cs more is in omega (arith, long)
no_longer (name (c ∷ cs)) more is =
    let parts = and_parts (starts_name c) (list_all is_xid_continue cs) is in
    rw (named_on c (cs ++ more) parts.0) (let long = front_passes is_xid_continue cs more parts.1 in omega (arith, long))
no_longer (literal (c ∷ cs)) more is =
    let parts = and_parts (is_digit c) (list_all is_digit cs) is in
    rw (counted_on c (cs ++ more) parts.0) (let long = front_passes is_digit cs more parts.1 in omega (arith, long))
no_longer (sign kind.Arrow) more is = rw (is_xid_start-ascii 45 (omega arith)) (omega arith)
no_longer piece more is = omega arith

pub record Longest (text : List ℕ) : Type 0 where
  pub piece : Piece
  pub later : List ℕ
  pub cut : text ≡ piece_text piece ++ later
  pub is : IsLongest piece later

longest_by : (text : List ℕ) (piece : Piece) (later : List ℕ) → text ≡ piece_text piece ++ later → is_piece piece ≡ true
    → 1 + goes_on text ≤ length (piece_text piece) → Longest text
longest_by text piece later cut is long = record {
  piece = piece;
  later = later;
  cut = cut;
  is = record {
    is = is;
    longest = λ other more good e.
        let short = subst (λ t. length (piece_text other) ≤ 1 + goes_on t) (e ∙ sym cut) (no_longer other more good) in
        omega (arith, short, long);
  };
}

-- the first two characters are these
pub begins_two : (a b c : ℕ) (rest : List ℕ) → ((c == a) && begins_with b rest) ≡ true → (more : List ℕ) × (a ∷ b ∷ more ≡ c ∷ rest)
begins_two a b c [] is = let none = (and_parts (c == a) false is).1 in absurd cc
begins_two a b c (d ∷ more) is =
    let parts = and_parts (c == a) (d == b) is in (more, ap₂ (λ x y. x ∷ y ∷ more) (sym (eqb-true c a parts.0)) (sym (eqb-true d b parts.1)))

-- the pieces of one character that no other continues, except where it begins `->`
abbrev singles : List Piece
singles = line_feed ∷ blank ∷ tab ∷ sign kind.Colon ∷ sign kind.Equals ∷ sign kind.Plus ∷ sign kind.Minus ∷ sign kind.Open ∷ sign kind.Close
    ∷ sign kind.OpenSquare ∷ sign kind.CloseSquare ∷ sign kind.Quote ∷ sign kind.Caret ∷ []

abbrev pub is_single : ℕ → Bool
is_single c = list_any (λ p. c == get_or (piece_text p) 0 0) singles

is_alone : List ℕ → Bool
is_alone (n ∷ []) = nat_lt n 128 && not (is_ascii_alphabetic n || (n == 95) || is_digit n || (n == 13) || (n == 35))
is_alone text = false

-- tests of what a text begins with
pub record NoTest (c : ℕ) (rest : List ℕ) : Type 0 where
  pub not_single : is_single c ≡ false
  pub not_return : ((c == 13) && begins_with 10 rest) ≡ false
  pub not_comment : (c == 35) ≡ false
  pub not_name : starts_name c ≡ false
  pub not_digit : is_digit c ≡ false

none_begins : (c : ℕ) (rest : List ℕ) → NoTest c rest → BeginsNone (c ∷ rest)
none_begins c rest none piece more is e = by piece is e
  where
    -- a test that the first character passes
    passes : (p : ℕ → Bool) (d : ℕ) (ds : List ℕ) → d ∷ ds ≡ c ∷ rest → p d ≡ true → p c ≡ false → ⊥
    passes p d ds same good bad = both_ways (p c) bad (ap (λ cs. p (get_or cs 0 0)) (sym same) ∙ good)

    by_sign : (k : TokenKind) → is_piece (sign k) ≡ true → piece_text (sign k) ++ more ≡ c ∷ rest → ⊥
    by_sign (kind.Name text) is e = absurd cc
    by_sign (kind.Literal value) is e = absurd cc
    by_sign kind.End is e = absurd cc
    by_sign k is e = passes is_single _ _ e refl none.not_single

    by : (piece : Piece) → is_piece piece ≡ true → piece_text piece ++ more ≡ c ∷ rest → ⊥
    by return_and_line_feed is e = both_ways _ none.not_return (ap (λ cs. (get_or cs 0 0 == 13) && begins_with 10 (drop 1 cs)) (sym e))
    by (comment cs) is e = passes (λ d. d == 35) _ _ e refl none.not_comment
    by (name []) is e = absurd cc
    by (name (d ∷ cs)) is e = passes starts_name _ _ e (and_parts (starts_name d) (list_all is_xid_continue cs) is).0 none.not_name
    by (literal []) is e = absurd cc
    by (literal (d ∷ cs)) is e = passes is_digit _ _ e (and_parts (is_digit d) (list_all is_digit cs) is).0 none.not_digit
    by (sign k) is e = by_sign k is e
    by piece is e = passes is_single _ _ e refl none.not_single

module _ (c : ℕ) (rest : List ℕ) where
  -- a piece with all characters that continue it
  running : (piece : Piece) (p : ℕ → Bool) → is_piece piece ≡ true → piece_text piece ≡ c ∷ take_while p rest → goes_on (c ∷ rest) ≡ prefix_len p rest
      → Longest (c ∷ rest)
  running piece p is text goes =
      let later = drop (prefix_len p rest) rest in
      let whole : piece_text piece ++ later ≡ c ∷ rest = ap (λ x. x ++ later) text ∙ ap (λ r. c ∷ r) (take-append-drop (prefix_len p rest) rest) in
      let size : length (piece_text piece) ≡ 1 + prefix_len p rest = ap length text ∙ ap (λ n. suc n) (length-prefix_len p rest) ∙ omega arith in
      longest_by (c ∷ rest) piece later (sym whole) is (omega (arith, size, goes))

  run_is : (p : ℕ → Bool) → list_all p (take_while p rest) ≡ true
  run_is p = all_are p _ (EachIs-take_while p rest)

  alone : (piece : Piece) (text : List ℕ) → piece_text piece ≡ text → is_piece piece ≡ true → is_alone text ≡ true → (c == get_or text 0 0) ≡ true
      → ((c == 45) && begins_with 62 rest) ≡ false → Longest (c ∷ rest)
  unfolding goes_on is_alone
  alone piece (n ∷ []) text is only here none =
      let same : c ≡ n = eqb-true c n here in
      let parts = and_parts (nat_lt n 128) _ only in
      let end = or_parts _ (n == 35) (not-true _ parts.1) in
      let return = or_parts _ (n == 13) end.0 in
      let digit = or_parts _ (is_digit n) return.0 in
      let letter = or_parts (is_ascii_alphabetic n) (n == 95) digit.0 in
      longest_by (c ∷ rest) piece rest (sym (ap (λ x. x ++ rest) text ∙ ap (λ x. x ∷ rest) (sym same))) is
      (rw (same, return.1, end.1, is_xid_start-ascii n (ltb-true n 128 parts.0), letter.0, letter.1, digit.1, (rw same at none), text) (omega arith))
  alone piece text is good only here none = absurd cc

  among : (pieces : List Piece) → list_all (λ p. is_piece p && is_alone (piece_text p)) pieces ≡ true
      → list_any (λ p. c == get_or (piece_text p) 0 0) pieces ≡ true → ((c == 45) && begins_with 62 rest) ≡ false → Longest (c ∷ rest)
  among [] all found none = absurd cc
  among (p ∷ pieces) all found none =
      let parts = and_parts (is_piece p && is_alone (piece_text p)) _ all in
      let good = and_parts (is_piece p) (is_alone (piece_text p)) parts.0 in
      elim (or_cases (c == get_or (piece_text p) 0 0) _ found) [
        | inl here ↦ alone p (piece_text p) refl good.0 good.1 here none
        | inr later ↦ among pieces parts.1 later none
      ]

  pub longest_or_none : Longest (c ∷ rest) ⊎ NoTest c rest
  unfolding goes_on is_alone
  longest_or_none =
      test _ (λ is. let found = begins_two 45 62 c rest is in
      subst Longest found.1 (longest_by _ (sign kind.Arrow) found.0 refl refl (rw (is_xid_start-ascii 45 (omega arith)) (omega arith)))) (λ not_arrow.
      test _ (λ is. among singles refl is not_arrow) (λ not_single.
      test _ (λ is. let found = begins_two 13 10 c rest is in
      subst Longest found.1 (longest_by _ return_and_line_feed found.0 refl refl (omega arith))) (λ not_return.
      test (c == 35) (λ is. running (comment (take_while is_inside_line rest)) is_inside_line (run_is is_inside_line)
      (ap (λ x. x ∷ take_while is_inside_line rest) (sym (eqb-true c 35 is))) (ap (λ x. goes_on (x ∷ rest)) (eqb-true c 35 is))) (λ not_comment.
      test (starts_name c) (λ is. running (name (c ∷ take_while is_xid_continue rest)) is_xid_continue (rw is (run_is is_xid_continue)) refl
      (named_on c rest is)) (λ not_name.
      test (is_digit c) (λ is. running (literal (c ∷ take_while is_digit rest)) is_digit (rw is (run_is is_digit)) refl (counted_on c rest is)) (λ not_digit.
      inr (record { not_single = not_single; not_return = not_return; not_comment = not_comment; not_name = not_name; not_digit = not_digit })))))))
    where
      test : (b : Bool) → (b ≡ true → Longest (c ∷ rest)) → (b ≡ false → Longest (c ∷ rest) ⊎ NoTest c rest) → Longest (c ∷ rest) ⊎ NoTest c rest
      test true found others = inl (found refl)
      test false found others = others refl

  pub begins_with_longest : Longest (c ∷ rest) ⊎ BeginsNone (c ∷ rest)
  begins_with_longest = elim longest_or_none [ inl found ↦ inl found | inr none ↦ inr (none_begins c rest none) ]

  -- where no piece begins, no test succeeds
  pub no_test : BeginsNone (c ∷ rest) → NoTest c rest
  no_test none = elim longest_or_none [ inl found ↦ absurd (none found.piece found.later found.is.is (sym found.cut)) | inr tests ↦ tests ]
