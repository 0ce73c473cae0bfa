-- The scanner's function: it goes over the characters once, and reads an item after another.
use Rattle.statement_tokens.proofs.Prelude.{◌≡◌, ℕ, zero, suc, ◌+◌, List, [], ◌∷◌, ◌++◌, Option, Some, None, Result, Ok, Err, right_of, below, end_of, item_at, Spot, Token, Item, item, Fault, Placed, Stop, stop, Scanner}
pub use Rattle.statement_tokens.specs.Scanned.{◌>>=◌, with_front}

abbrev pub placed : List Token → Result Item Fault → Spot → ℕ → (List Token → ℕ → Spot → ℕ → Result (List Token) Placed) → Result (List Token) Placed
placed before (Err e) at past next = Err (record { fault = e; at = at })
placed before (Ok item.NewLine) at past next = next (before ++ end_of at.line past) 0 (below at) 0 >>= λ ts. Ok (end_of at.line past ++ ts)
placed before (Ok (item.Gap more)) at past next = next before more (right_of at 1) past
placed before (Ok (item.Token k more)) at past next =
    next (before ++ record { at = at; kind = k } ∷ []) more (right_of at 1) (at.column + 1 + more) >>= λ ts. Ok (record { at = at; kind = k } ∷ ts)

-- after these tokens; so many characters belong to what began before; past is the column past the last token of the line, 0 where it has none
unfoldable pub tokens_from : List Token → List ℕ → ℕ → Spot → ℕ → Result (List Token) Placed
tokens_from before [] skip at past = Ok (end_of at.line past)
tokens_from before (c ∷ cs) (suc skip) at past = tokens_from before cs skip (right_of at 1) past
tokens_from before (c ∷ cs) zero at past = placed before (item_at before c cs) at past (λ front skip to end. tokens_from front cs skip to end)

abbrev pub tokens_of : List ℕ → Result (List Token) Placed
tokens_of characters = tokens_from [] characters 0 (record { line = 1; column = 1 }) 0

-- what a scanner that follows these tokens has not read: the tokens of the characters that are left, or their first fault
abbrev pub unread : List Token → Scanner → Result (List Token) Placed
unread before scanner = tokens_from before scanner.text.now 0 scanner.at scanner.past

-- what is returned, by the scanner's function
abbrev pub HandsRead : List Token → Scanner → Result (Option Token) (Stop Placed) → Scanner → Type 0
HandsRead before old (Ok (Some token)) new = unread before old ≡ with_front (token ∷ []) (unread (before ++ token ∷ []) new)
HandsRead before old (Ok None) new = (unread before old ≡ Ok []) × (unread before new ≡ Ok [])
HandsRead before old (Err (stop.Fault placed)) new = unread before old ≡ Err placed
HandsRead before old (Err (stop.Memory error)) new = Unit {0}
