-- Each text has one list of tokens or one first fault, and the scanner reads them.
use Rattle.statement_tokens.proofs.Prelude.{◌≡◌, ℕ, ◌≤◌, ◌&&◌, true, false, zero, suc, List, [], ◌∷◌, ◌++◌, length, Option, Some, None, Result, Ok, Err, refl, sym, ap, subst, ◌∙◌, append_assoc, append-nil, length-append, arith, inl, inr, and_right, Spot, Token, kind, Fault, BadToken, Placed, Scanner, Stop, stop, is_language_word, is_two, language_of, Piece, line_feed, name, literal, sign, sign_text, piece_text, pieces_text, is_some, is_piece, IsLongest, BeginsNone, behind, place_behind, tokens_with, past_behind, tokens_at, sign_fault, fault_of, AreGood, AreTokens, Begins, end_of, HasTokensOrFault, EachTextHasTokensOrFault, TokensAreUnique, FirstScanFaultsAreUnique, TokensHaveNoFault, TellsBehind, Tells, Leaves, Hands, with_front}
use Rattle.statement_tokens.proofs.Reading.{tokens_from, tokens_of, unread, HandsRead}
use Rattle.statement_tokens.proofs.Longest.{Longest, begins_with_longest}
use Rattle.statement_tokens.proofs.Pieces.{Read, front_none, outcome, reads_piece, stops_none}

abbrev start : Spot
start = record { line = 1; column = 1 }

-- a caret doesn't change the language
same_language : (before more : List Token) (at : Spot) → language_of (before ++ record { at = at; kind = kind.Caret } ∷ more) ≡ language_of before
same_language [] [] at = refl
same_language [] (b ∷ []) at = refl
same_language [] (b ∷ c ∷ more) at = refl
same_language (a ∷ []) [] at = refl
same_language (a ∷ []) (c ∷ more) at = rw (and_right (is_language_word a.kind) false refl) refl
same_language (a ∷ b ∷ []) more at = rw (and_right (is_language_word a.kind && is_two b.kind) false refl) refl
same_language (a ∷ b ∷ c ∷ before) more at = refl

-- a piece is as good after the tokens before it as after others too
same_fault : (before more : List Token) (piece : Piece) (at : Spot) (past : ℕ)
    → fault_of (language_of ((before ++ tokens_with piece at past) ++ more)) piece ≡ fault_of (language_of before) piece
same_fault before more (sign kind.Caret) at past =
    ap (λ ts. sign_fault kind.Caret (language_of ts)) (append_assoc before (record { at = at; kind = kind.Caret } ∷ []) more)
    ∙ ap (sign_fault kind.Caret) (same_language before more at)
same_fault before more piece at past = refl

abbrev past_after : List Piece → Spot → ℕ → ℕ
past_after [] at past = past
past_after (piece ∷ pieces) at past = past_after pieces (behind piece at) (past_behind piece at past)

-- all tokens of pieces with which the text ends
closed : (pieces : List Piece) (at : Spot) (past : ℕ)
    → tokens_at (pieces ++ line_feed ∷ []) at past ≡ tokens_at pieces at past ++ end_of (place_behind pieces at).line (past_after pieces at past)
closed [] at past = append-nil (end_of at.line past)
closed (piece ∷ pieces) at past = rw (closed pieces (behind piece at) (past_behind piece at past)) (sym (append_assoc (tokens_with piece at past) _ _))

pub fronts : (a b : List Token) (r : Read) → with_front a (with_front b r) ≡ with_front (a ++ b) r
fronts a b (Ok ts) = ap (λ (x : List Token). Ok x) (sym (append_assoc a b ts))
fronts a b (Err e) = refl

reads : (before more : List Token) (pieces : List Piece) (rest : List ℕ) (at : Spot) (past : ℕ)
    → AreGood (language_of (before ++ (tokens_at pieces at past ++ more))) pieces rest
    → tokens_from before (pieces_text pieces ++ rest) 0 at past
    ≡ with_front (tokens_at pieces at past) (tokens_from (before ++ tokens_at pieces at past) rest 0 (place_behind pieces at) (past_after pieces at past))
reads before more [] rest at past good =
    sym (front_none (tokens_from (before ++ []) rest 0 at past) ∙ ap (λ front. tokens_from front rest 0 at past) (append-nil before))
reads before more (piece ∷ pieces) rest at past good =
    let here = tokens_with piece at past in
    let to = behind piece at in
    let end = past_behind piece at past in
    let later = tokens_at pieces to end in
    let one : before ++ ((here ++ later) ++ more) ≡ (before ++ here) ++ (later ++ more) = simp append_assoc in
    let same = subst (λ ts. AreGood (language_of ts) (piece ∷ pieces) rest) one good in
    ap (λ text. tokens_from before text 0 at past) (append_assoc (piece_text piece) (pieces_text pieces) rest)
    ∙ reads_piece before piece (pieces_text pieces ++ rest) at past same.0
    ∙ ap (outcome at (with_front here (tokens_from (before ++ here) (pieces_text pieces ++ rest) 0 to end)))
    (sym (same_fault before (later ++ more) piece at past) ∙ same.1)
    ∙ ap (with_front here) (reads (before ++ here) more pieces rest to end same.2)
    ∙ fronts here later (tokens_from ((before ++ here) ++ later) rest 0 (place_behind pieces to) (past_after pieces to end))
    ∙ ap (λ front. with_front (here ++ later) (tokens_from front rest 0 (place_behind pieces to) (past_after pieces to end))) (append_assoc before here later)

stops_at : (before : List Token) (rest : List ℕ) (at : Spot) (past : ℕ) (f : Fault) → Begins (language_of before) rest f
    → tokens_from before rest 0 at past ≡ Err (record { fault = f; at = at })
stops_at before rest at past f (inl (piece, later, text, is, faulty)) =
    ap (λ cs. tokens_from before cs 0 at past) text ∙ reads_piece before piece later at past is ∙ ap (outcome at _) faulty
stops_at before rest at past f (inr (c, later, text, none, bad)) =
    ap (λ cs. tokens_from before cs 0 at past) text ∙ stops_none before c later at past (subst BeginsNone text none)
    ∙ ap (λ f. Err (record { fault = f; at = at })) (sym bad)

-- the tokens or the fault of a text are those of the scanner's function
behind_is : (before : List Token) (at : Spot) (past : ℕ) (text : List ℕ) (read : Read) → TellsBehind before at past text read
    → tokens_from before text 0 at past ≡ read
unfolding tokens_from
behind_is before at past text (Ok tokens) are =
    let last = end_of (place_behind are.pieces at).line (past_after are.pieces at past) in
    let all : tokens ≡ tokens_at are.pieces at past ++ last = are.are ∙ closed are.pieces at past in
    ap (λ cs. tokens_from before cs 0 at past) (are.cut ∙ sym (append-nil (pieces_text are.pieces)))
    ∙ reads before last are.pieces [] at past (subst (λ ts. AreGood (language_of (before ++ ts)) are.pieces []) all are.good)
    ∙ ap Ok (sym all)
behind_is before at past text (Err placed) first =
    let front = tokens_at first.pieces at past in
    let good = subst (λ ts. AreGood (language_of (before ++ ts)) first.pieces first.rest) (sym (append-nil front)) first.good in
    ap (λ cs. tokens_from before cs 0 at past) first.cut
    ∙ reads before [] first.pieces first.rest at past good
    ∙ ap (with_front front)
    (stops_at (before ++ front) first.rest (place_behind first.pieces at) (past_after first.pieces at past) placed.fault first.faulty)
    ∙ ap (λ at. Err (record { fault = placed.fault; at = at })) (sym first.place)

has_some : (piece : Piece) → is_piece piece ≡ true → 1 ≤ length (piece_text piece)
has_some (name []) is = absurd cc
has_some (literal []) is = absurd cc
has_some (sign k) is = by (sign_text k) is
  where
    by : (text : List ℕ) → is_some text ≡ true → 1 ≤ length text
    by [] is = absurd cc
    by (c ∷ text) is = omega arith
has_some piece is = omega arith

module _ (before : List Token) (at : Spot) (past : ℕ) (text : List ℕ) where
  -- it has tokens or a first fault
  abbrev HasRead : Type 0
  HasRead = (read : Read) × TellsBehind before at past text read

  fails_here : (f : Fault) → Begins (language_of before) text f → HasRead
  fails_here f begins = (
    Err (record { fault = f; at = at }),
    record {
      pieces = [];
      rest = text;
      cut = refl;
      good = tt;
      faulty = subst (λ ts. Begins (language_of ts) text f) (sym (append-nil before)) begins;
      place = refl;
    },
  )

  module _ (l : Longest text) where
    abbrev here : List Token
    here = tokens_with l.piece at past

    abbrev TellsLater : Read → Type 0
    TellsLater read = TellsBehind (before ++ here) (behind l.piece at) (past_behind l.piece at past) l.later read

    one_more : fault_of (language_of before) l.piece ≡ None → (read : Read) → TellsLater read → TellsBehind before at past text (with_front here read)
    one_more good (Ok tokens) are = record {
      pieces = l.piece ∷ are.pieces;
      cut = l.cut ∙ ap (λ x. piece_text l.piece ++ x) are.cut;
      good = subst (λ ts. AreGood (language_of ts) (l.piece ∷ are.pieces) []) (append_assoc before here tokens) (
        subst (IsLongest l.piece) (are.cut ∙ sym (append-nil (pieces_text are.pieces))) l.is,
        same_fault before tokens l.piece at past ∙ good,
        are.good,
      );
      are = ap (λ ts. here ++ ts) are.are;
    }
    one_more good (Err placed) first =
        let front = tokens_at first.pieces (behind l.piece at) (past_behind l.piece at past) in
        record {
          pieces = l.piece ∷ first.pieces;
          rest = first.rest;
          cut = l.cut ∙ ap (λ x. piece_text l.piece ++ x) first.cut ∙ sym (append_assoc (piece_text l.piece) (pieces_text first.pieces) first.rest);
          good = subst (λ ts. AreGood (language_of ts) (l.piece ∷ first.pieces) first.rest) (append_assoc before here front)
              (subst (IsLongest l.piece) first.cut l.is, same_fault before front l.piece at past ∙ good, first.good);
          faulty = subst (λ ts. Begins (language_of ts) first.rest placed.fault) (append_assoc before here front) first.faulty;
          place = first.place;
        }

    judged : (later : (read : Read) × TellsLater read) (o : Option Fault) → fault_of (language_of before) l.piece ≡ o → HasRead
    judged later None good = (with_front here later.0, one_more good later.0 later.1)
    judged later (Some f) faulty = fails_here f (inl (l.piece, l.later, l.cut, l.is, faulty))

has_read : (n : ℕ) (text : List ℕ) → length text ≤ n → (before : List Token) (at : Spot) (past : ℕ) → HasRead before at past text
has_read n [] short before at past =
    (Ok (end_of at.line past), record { pieces = []; cut = refl; good = tt; are = sym (append-nil (end_of at.line past)) })
has_read zero (c ∷ rest) short before at past = absurd (omega (arith, short))
has_read (suc n) (c ∷ rest) short before at past = elim (begins_with_longest c rest) [
  | inl l ↦ judged before at past (c ∷ rest) l
      (has_read n l.later (omega (arith, short, ap length l.cut, length-append (piece_text l.piece) l.later, has_some l.piece l.is.is))
      (before ++ tokens_with l.piece at past) (behind l.piece at) (past_behind l.piece at past)) (fault_of (language_of before) l.piece) refl
  | inr none ↦ fails_here before at past (c ∷ rest) BadToken (inr (c, rest, refl, none, refl))
]

-- the scanner's function gives those of the text, and only these
told_behind : (before : List Token) (at : Spot) (past : ℕ) (text : List ℕ) (read : Read) → tokens_from before text 0 at past ≡ read
    → TellsBehind before at past text read
told_behind before at past text read is =
    let has = has_read (length text) text (omega arith) before at past in
    subst (TellsBehind before at past text) (sym (behind_is before at past text has.0 has.1) ∙ is) has.1

pub leaves : (before : List Token) (scanner : Scanner) (read : Read) → unread before scanner ≡ read → Leaves before scanner read
leaves before scanner read is = told_behind before scanner.at scanner.past scanner.text.now read is

pub leaves_unread : (before : List Token) (scanner : Scanner) → Leaves before scanner (unread before scanner)
leaves_unread before scanner = leaves before scanner (unread before scanner) refl

pub unread_is : (before : List Token) (scanner : Scanner) (read : Read) → Leaves before scanner read → unread before scanner ≡ read
unread_is before scanner read left = behind_is before scanner.at scanner.past scanner.text.now read left

pub token_hands : (before : List Token) (old : Scanner) (token : Token) (rest : List ℕ) (at : Spot) (past : ℕ)
    → unread before old ≡ with_front (token ∷ []) (tokens_from (before ++ token ∷ []) rest 0 at past)
    → (read : Read) → TellsBehind (before ++ token ∷ []) at past rest read → Leaves before old (with_front (token ∷ []) read)
token_hands before old token rest at past is read tells =
    leaves before old (with_front (token ∷ []) read)
    (is ∙ ap (with_front (token ∷ [])) (behind_is (before ++ token ∷ []) at past rest read tells))

-- what is returned, by the scanner's function
pub handed : (before : List Token) (old : Scanner) (out : Result (Option Token) (Stop Placed)) (new : Scanner) → Hands before old out new
    → HandsRead before old out new
handed before old (Ok (Some token)) new is =
    let rest = unread (before ++ token ∷ []) new in
    unread_is before old (with_front (token ∷ []) rest) (is rest (leaves_unread (before ++ token ∷ []) new))
handed before old (Ok None) new is = (unread_is before old (Ok []) is.0, unread_is before new (Ok []) is.1)
handed before old (Err (stop.Fault placed)) new is = unread_is before old (Err placed) is
handed before old (Err (stop.Memory error)) new is = tt

pub hands : (before : List Token) (old : Scanner) (out : Result (Option Token) (Stop Placed)) (new : Scanner) → HandsRead before old out new
    → Hands before old out new
hands before old (Ok (Some token)) new is = token_hands before old token new.text.now new.at new.past is
hands before old (Ok None) new is = (leaves before old (Ok []) is.0, leaves before new (Ok []) is.1)
hands before old (Err (stop.Fault placed)) new is = leaves before old (Err placed) is
hands before old (Err (stop.Memory error)) new is = tt

-- of a whole text
pub each_text_has_tokens_or_fault : EachTextHasTokensOrFault
each_text_has_tokens_or_fault text = by (has_read (length text) text (omega arith) [] start 0)
  where
    by : HasRead [] start 0 text → HasTokensOrFault text
    by (Ok tokens, are) = inl (tokens, are)
    by (Err placed, first) = inr (placed.fault, placed.at, first)

pub tells : (text : List ℕ) (read : Read) → tokens_of text ≡ read → Tells text read
tells text read is = told_behind [] start 0 text read is

pub read_are : (text : List ℕ) (tokens : List Token) → AreTokens text tokens → tokens_of text ≡ Ok tokens
read_are text tokens are = behind_is [] start 0 text (Ok tokens) are

pub are_read : (text : List ℕ) (tokens : List Token) → tokens_of text ≡ Ok tokens → AreTokens text tokens
are_read text tokens is = tells text (Ok tokens) is

-- no text has two of them
one_read : (text : List ℕ) (read other : Read) → Tells text read → Tells text other → read ≡ other
one_read text read other one two = sym (behind_is [] start 0 text read one) ∙ behind_is [] start 0 text other two

pub tokens_are_unique : TokensAreUnique
tokens_are_unique text tokens others one two = let same = one_read text (Ok tokens) (Ok others) one two in cc

pub first_scan_faults_are_unique : FirstScanFaultsAreUnique
first_scan_faults_are_unique text f g at there one two =
    let p : Placed = record { fault = f; at = at } in
    let q : Placed = record { fault = g; at = there } in
    let read = one_read text (Err p) (Err q) one two in
    let same : p ≡ q = cc in (ap (λ (p : Placed). p.fault) same, ap (λ (p : Placed). p.at) same)

pub tokens_have_no_fault : TokensHaveNoFault
tokens_have_no_fault text tokens f at are first = let same = one_read text (Ok tokens) (Err (record { fault = f; at = at })) are first in cc
