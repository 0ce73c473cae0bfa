-- A turn of the scanner reads one item of what is left.
use Rattle.statement_tokens.proofs.Prelude.{◌≡◌, ℕ, zero, suc, ◌+◌, ◌*◌, ◌-◌, ◌<◌, ◌≤◌, List, [], ◌∷◌, ◌++◌, length, length-drop, drop, take, get_or, Option, Some, None, Result, Ok, Err, refl, sym, ap, ap₂, ◌∙◌, arith, MatchOption, drop_more, take_rest, Spot, Token, TokenKind, Item, item, Fault, Language, Scanner, right_of, below, end_of, item_at, item_in, language_of, Lessens, one_if_some, most_tokens, with_front}
use Rattle.statement_tokens.proofs.Reading.{tokens_from, placed, unread, HandsRead}

abbrev pub spot : ℕ → ℕ → Spot
spot line column = record { line = line; column = column }

pub skipped : (before : List Token) (n : ℕ) (cs : List ℕ) (line column past : ℕ) → n ≤ length cs
    → tokens_from before cs n (spot line column) past ≡ tokens_from before (drop n cs) 0 (spot line (column + n)) past
unfolding tokens_from
skipped before zero cs line column past given = ap (λ k. tokens_from before cs 0 (spot line k) past) (omega arith)
skipped before (suc n) [] line column past given = absurd (omega arith)
skipped before (suc n) (c ∷ cs) line column past given =
    skipped before n cs line (column + 1) past (omega arith) ∙ ap (λ k. tokens_from before (drop n cs) 0 (spot line k) past) (omega arith)

-- one turn after these tokens, at a character and those after it
turn : (before : List Token) (c : ℕ) (rest : List ℕ) (at : Spot) (past : ℕ) (read : Result Item Fault) → item_at before c rest ≡ read
    → tokens_from before (c ∷ rest) 0 at past ≡ placed before read at past (λ front skip to end. tokens_from front rest skip to end)
unfolding tokens_from
turn before c rest at past read is = ap (λ i. placed before i at past (λ front skip to end. tokens_from front rest skip to end)) is

pub turn_fault : (before : List Token) (c : ℕ) (rest : List ℕ) (at : Spot) (past : ℕ) (f : Fault) → item_at before c rest ≡ Err f
    → tokens_from before (c ∷ rest) 0 at past ≡ Err (record { fault = f; at = at })
turn_fault before c rest at past f is = turn before c rest at past (Err f) is

-- a turn that reads so many characters, and leaves the others
module _ (before : List Token) (c : ℕ) (rest left : List ℕ) (more size : ℕ) (short : more ≤ length rest) (leaves : left ≡ drop more rest)
    (sized : size ≡ 1 + more) (at : Spot) (past : ℕ) where
  over : (front : List Token) (end : ℕ) → tokens_from front rest more (right_of at 1) end ≡ tokens_from front left 0 (right_of at size) end
  over front end =
      skipped front more rest at.line (at.column + 1) end short ∙ ap₂ (λ cs k. tokens_from front cs 0 (spot at.line k) end) (sym leaves) (omega arith)

  pub turn_gap : item_at before c rest ≡ Ok (item.Gap more) → tokens_from before (c ∷ rest) 0 at past ≡ tokens_from before left 0 (right_of at size) past
  turn_gap is = turn before c rest at past (Ok (item.Gap more)) is ∙ over before past

  pub turn_token : (k : TokenKind) → item_at before c rest ≡ Ok (item.Token k more)
      → tokens_from before (c ∷ rest) 0 at past ≡ with_front (record { at = at; kind = k } ∷ [])
      (tokens_from (before ++ record { at = at; kind = k } ∷ []) left 0 (right_of at size) (at.column + size))
  turn_token k is =
      let longer : List Token = before ++ record { at = at; kind = k } ∷ [] in
      turn before c rest at past (Ok (item.Token k more)) is
      ∙ ap (with_front (record { at = at; kind = k } ∷ [])) (over longer (at.column + 1 + more)
      ∙ ap (tokens_from longer left 0 (right_of at size)) (omega arith))

-- what is left after so many characters, as the code slices it
abbrev pub cut : ℕ → List ℕ → List ℕ
cut n text = take (length text - n) (drop n text)

pub cut_length : (n : ℕ) (text : List ℕ) → length (take (length text - n) (drop n text)) ≡ length text - n
cut_length n text = ap length (take_rest text n) ∙ length-drop n text

-- a turn of a scanner after tokens that determine the language, as the code takes it
module _ (before : List Token) (here : Scanner) (first : ℕ) (language : Language) (some : 0 < length here.text.now)
    (is : first ≡ get_or here.text.now 0 first) (same : language_of before ≡ language) where
  abbrev rest : List ℕ
  rest = cut 1 here.text.now

  begins : unread before here ≡ tokens_from before (first ∷ rest) 0 here.at here.past
  begins = ap (λ cs. tokens_from before cs 0 here.at here.past)
      (drop_more here.text.now 0 first some ∙ ap₂ (λ x xs. x ∷ xs) (sym is) (sym (take_rest here.text.now 1)))

  reads : (read : Result Item Fault) → item_in language first rest ≡ read → item_at before first rest ≡ read
  reads read given = ap (λ l. item_in l first rest) same ∙ given

  pub scans_fault : (f : Fault) → item_in language first rest ≡ Err f → unread before here ≡ Err (record { fault = f; at = here.at })
  scans_fault f given = begins ∙ turn_fault before first rest here.at here.past f (reads (Err f) given)

  pub scans_new_line : (end : List Token) → end_of here.at.line here.past ≡ end → item_in language first rest ≡ Ok item.NewLine
      → unread before here ≡ with_front end (tokens_from (before ++ end) rest 0 (below here.at) 0)
  scans_new_line end ends given = begins ∙ turn before first rest here.at here.past (Ok item.NewLine) (reads (Ok item.NewLine) given)
      ∙ ap (λ end. with_front end (tokens_from (before ++ end) rest 0 (below here.at) 0)) ends

  module _ (more : ℕ) (short : more ≤ length rest) where
    pub scans_gap : item_in language first rest ≡ Ok (item.Gap more)
        → unread before here ≡ tokens_from before (cut more rest) 0 (right_of here.at (1 + more)) here.past
    scans_gap given = begins ∙ turn_gap before first rest (cut more rest) more (1 + more) short (take_rest rest more) refl here.at here.past
        (reads (Ok (item.Gap more)) given)

    pub scans_token : (k : TokenKind) → item_in language first rest ≡ Ok (item.Token k more)
        → unread before here ≡ with_front (record { at = here.at; kind = k } ∷ [])
        (tokens_from (before ++ record { at = here.at; kind = k } ∷ []) (cut more rest) 0 (right_of here.at (1 + more)) (here.at.column + (1 + more)))
    scans_token k given = begins ∙ turn_token before first rest (cut more rest) more (1 + more) short (take_rest rest more) refl here.at here.past k
        (reads (Ok (item.Token k more)) given)

-- after the last character the line that is read ends
pub turn_end : (before : List Token) (old here new : Scanner) (end : Option Token) → unread before old ≡ unread before here → here.text.now ≡ []
    → new.text.now ≡ [] → new.past ≡ 0
    → MatchOption end (end_of here.at.line here.past ≡ []) (λ token. end_of here.at.line here.past ≡ token ∷ []) → HandsRead before old (Ok end) new
unfolding tokens_from
turn_end before old here new None same none more past is = (
  same ∙ ap (λ cs. tokens_from before cs 0 here.at here.past) none ∙ ap (λ (ts : List Token). Ok ts) is,
  ap₂ (λ cs p. tokens_from before cs 0 new.at p) more past,
)
turn_end before old here new (Some token) same none more past is =
    same
    ∙ ap (λ cs. tokens_from before cs 0 here.at here.past) none
    ∙ ap (λ (ts : List Token). Ok ts) is
    ∙ sym (ap₂ (λ cs p. with_front (token ∷ []) (tokens_from (before ++ token ∷ []) cs 0 new.at p)) more past)

-- a line that has an end has a token
has_token : (line past : ℕ) (token : Token) → end_of line past ≡ token ∷ [] → one_if_some past ≡ 1
has_token line zero token is = absurd cc
has_token line (suc n) token is = refl

pub at_most_one : (n : ℕ) → one_if_some n ≤ 1
at_most_one zero = omega arith
at_most_one (suc n) = omega arith

pub end_lessens : (most : ℕ) (here : Scanner) (end : Option Token) → most_tokens here ≤ most
    → MatchOption end (end_of here.at.line here.past ≡ []) (λ token. end_of here.at.line here.past ≡ token ∷ [])
    → Lessens most (length here.text.now * 2 + 0) (Ok end)
end_lessens most here None fewer is = tt
end_lessens most here (Some token) fewer is = let had = has_token here.at.line here.past token is in omega (arith, fewer, had)
