-- The scanner reads a text piece by piece.
use Rattle.statement_tokens.proofs.Prelude.{◌≡◌, ℕ, ◌+◌, Bool, true, false, List, [], ◌∷◌, ◌++◌, length, drop, Option, Some, None, Result, Ok, Err, refl, sym, ap, ◌∙◌, append-nil, length-append, arith, if◌then◌else◌, pos, prefix_len, take_while, list_all, encode_utf8_all, common_steps, drop_at, take-append-drop, length-prefix_len, and_parts, false_from_ne_true, is_xid_continue, Spot, Token, TokenKind, kind, Language, First, Second, item, Fault, BadToken, LiteralTooLarge, Placed, language_of, Piece, line_feed, return_and_line_feed, blank, tab, comment, name, literal, sign, piece_text, is_piece, IsLongest, BeginsNone, starts_name, is_digit, is_inside_line, behind, tokens_with, past_behind, sign_fault, fault_of, value_from, right_of, item_at, item_in, caret_in, begins_with}
use Rattle.statement_tokens.proofs.Reading.{tokens_from, with_front}
use Rattle.statement_tokens.proofs.Scanning.{turn_fault, turn_gap, turn_token}
use Rattle.statement_tokens.proofs.EachCharacter.{EachIs-take_while, all_are, front_passes}
use Rattle.statement_tokens.proofs.Rescan.{name_read, sign_back, caret_read, arrow_back, minus_read}
use Rattle.statement_tokens.proofs.Literals.{literal_read}
use Rattle.statement_tokens.proofs.Longest.{begins_two, no_test}

-- where the piece is the longest, the characters after it don't continue it
run_ends : (p : ℕ → Bool) (wrap : List ℕ → Piece) (c : ℕ) (cs later : List ℕ) → ((xs : List ℕ) → piece_text (wrap xs) ≡ c ∷ xs)
    → ((xs : List ℕ) → list_all p xs ≡ true → is_piece (wrap xs) ≡ true) → list_all p cs ≡ true → IsLongest (wrap cs) later
    → prefix_len p (cs ++ later) ≡ length cs
run_ends p wrap c cs later text good all is =
    let run = take_while p (cs ++ later) in
    let rest = drop (prefix_len p (cs ++ later)) (cs ++ later) in
    let short = is.longest (wrap run) rest (good run (all_are p run (EachIs-take_while p (cs ++ later))))
    (rw (text run, text cs) (ap (λ r. c ∷ r) (take-append-drop (prefix_len p (cs ++ later)) (cs ++ later)))) in
    let long = front_passes p cs later all in
    omega (arith, short, long, ap length (text run), ap length (text cs), length-prefix_len p (cs ++ later))

name_ends : (c : ℕ) (cs later : List ℕ) → IsLongest (name (c ∷ cs)) later → (starts_name c ≡ true) × (prefix_len is_xid_continue (cs ++ later) ≡ length cs)
name_ends c cs later is =
    let parts = and_parts (starts_name c) (list_all is_xid_continue cs) is.is in
    (parts.0, run_ends is_xid_continue (λ xs. name (c ∷ xs)) c cs later (λ xs. refl) (λ xs all. rw (parts.0) all) parts.1 is)

literal_ends : (c : ℕ) (cs later : List ℕ) → IsLongest (literal (c ∷ cs)) later → (is_digit c ≡ true) × (prefix_len is_digit (cs ++ later) ≡ length cs)
literal_ends c cs later is =
    let parts = and_parts (is_digit c) (list_all is_digit cs) is.is in
    (parts.0, run_ends is_digit (λ xs. literal (c ∷ xs)) c cs later (λ xs. refl) (λ xs all. rw (parts.0) all) parts.1 is)

no_arrow : (later : List ℕ) → IsLongest (sign kind.Minus) later → begins_with 62 later ≡ false
no_arrow later is = false_from_ne_true (begins_with 62 later) (λ e.
    let found = begins_two 45 62 45 later e in
    let short = is.longest (sign kind.Arrow) found.0 refl found.1 in
    omega (arith, short))

abbrev pub Read : Type 0
Read = Result (List Token) Placed

pub front_none : (r : Read) → with_front [] r ≡ r
front_none (Ok ts) = refl
front_none (Err e) = refl

-- what is read, but for a fault at the place
abbrev pub outcome : Spot → Read → Option Fault → Read
outcome at read None = read
outcome at read (Some f) = Err (record { fault = f; at = at })

-- a turn that reads a piece of these characters
module _ (before : List Token) (c : ℕ) (cs later : List ℕ) (at : Spot) (past : ℕ) where
  abbrev there : Spot
  there = right_of at (length (c ∷ cs))

  gap : item_at before c (cs ++ later) ≡ Ok (item.Gap (length cs)) → tokens_from before (c ∷ (cs ++ later)) 0 at past
      ≡ with_front [] (tokens_from (before ++ []) later 0 there past)
  gap is =
      turn_gap before c (cs ++ later) later (length cs) (length (c ∷ cs)) (omega (arith, length-append cs later)) (sym (drop_at cs later (length cs) refl))
      (omega arith) at past is
      ∙ sym (front_none (tokens_from (before ++ []) later 0 there past) ∙ ap (λ front. tokens_from front later 0 there past) (append-nil before))

  token : (k : TokenKind) → item_at before c (cs ++ later) ≡ Ok (item.Token k (length cs))
      → tokens_from before (c ∷ (cs ++ later)) 0 at past
      ≡ with_front (record { at = at; kind = k } ∷ []) (tokens_from (before ++ record { at = at; kind = k } ∷ []) later 0 there (at.column + length (c ∷ cs)))
  token k is =
      turn_token before c (cs ++ later) later (length cs) (length (c ∷ cs)) (omega (arith, length-append cs later)) (sym (drop_at cs later (length cs) refl))
      (omega arith) at past k is

  -- a token that a test lets through
  tested : (k : TokenKind) (f : Fault) (b : Bool) → item_at before c (cs ++ later) ≡ (if b then Ok (item.Token k (length cs)) else Err f)
      → tokens_from before (c ∷ (cs ++ later)) 0 at past ≡ outcome at
      (with_front (record { at = at; kind = k } ∷ []) (tokens_from (before ++ record { at = at; kind = k } ∷ []) later 0 there (at.column + length (c ∷ cs))))
      (if b then None else Some f)
  tested k f true is = token k is
  tested k f false is = turn_fault before c (cs ++ later) at past f is

abbrev ReadsPiece : List Token → Piece → List ℕ → Spot → ℕ → Option Fault → Type 0
ReadsPiece before piece later at past fault =
    tokens_from before (piece_text piece ++ later) 0 at past ≡ outcome at
    (with_front (tokens_with piece at past) (tokens_from (before ++ tokens_with piece at past) later 0 (behind piece at) (past_behind piece at past))) fault

reads_sign : (before : List Token) (k : TokenKind) (later : List ℕ) (at : Spot) (past : ℕ) → IsLongest (sign k) later
    → ReadsPiece before (sign k) later at past (sign_fault k (language_of before))
reads_sign before (kind.Name text) later at past is = let none = is.is in absurd cc
reads_sign before (kind.Literal value) later at past is = let none = is.is in absurd cc
reads_sign before kind.End later at past is = let none = is.is in absurd cc
reads_sign before kind.Arrow later at past is = token before 45 (62 ∷ []) later at past kind.Arrow (arrow_back before later)
reads_sign before kind.Minus later at past is = token before 45 [] later at past kind.Minus (minus_read before later (no_arrow later is))
reads_sign before kind.Caret later at past is = by (language_of before) (caret_read before later)
  where
    by : (l : Language) → item_at before 94 later ≡ caret_in l → ReadsPiece before (sign kind.Caret) later at past (sign_fault kind.Caret l)
    by First read = turn_fault before 94 later at past BadToken read
    by Second read = token before 94 [] later at past kind.Caret read
reads_sign before k later at past is = token before _ [] later at past k (sign_back before later k refl)

pub reads_piece : (before : List Token) (piece : Piece) (later : List ℕ) (at : Spot) (past : ℕ) → IsLongest piece later
    → ReadsPiece before piece later at past (fault_of (language_of before) piece)
unfolding tokens_from item_in
reads_piece before line_feed later at past is = refl
reads_piece before return_and_line_feed later at past is = refl
reads_piece before blank later at past is = gap before 32 [] later at past refl
reads_piece before tab later at past is = gap before 9 [] later at past refl
reads_piece before (comment cs) later at past is =
    gap before 35 cs later at past (ap (λ n. Ok (item.Gap n)) (run_ends is_inside_line comment 35 cs later (λ xs. refl) (λ xs all. all) is.is is))
reads_piece before (name []) later at past is = let none = is.is in absurd cc
reads_piece before (name (c ∷ cs)) later at past is =
    let ends = name_ends c cs later is in
    tested before c cs later at past (kind.Name (encode_utf8_all (c ∷ cs))) BadToken _ (name_read before c cs later ends.0 ends.1)
reads_piece before (literal []) later at past is = let none = is.is in absurd cc
reads_piece before (literal (c ∷ cs)) later at past is =
    let ends = literal_ends c cs later is in
    tested before c cs later at past (kind.Literal (pos (value_from 0 (c ∷ cs)))) LiteralTooLarge _ (literal_read before c cs later ends.0 ends.1)
reads_piece before (sign k) later at past is = reads_sign before k later at past is

pub stops_none : (before : List Token) (c : ℕ) (rest : List ℕ) (at : Spot) (past : ℕ) → BeginsNone (c ∷ rest)
    → tokens_from before (c ∷ rest) 0 at past ≡ Err (record { fault = BadToken; at = at })
unfolding item_in
stops_none before c rest at past none =
    let lacks = no_test c rest none in
    turn_fault before c rest at past BadToken (grind (arith, common_steps, lacks))
