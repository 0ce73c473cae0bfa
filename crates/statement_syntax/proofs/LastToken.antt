-- The tokens of a text end with the end of a line.
use Rattle.statement_syntax.proofs.Prelude.{◌≡◌, ℕ, zero, suc, ◌+◌, ◌≤◌, List, [], ◌∷◌, ◌++◌, ◌⊎◌, inl, inr, Result, Ok, Err, refl, ap, subst, arith, append_assoc, append-nil, Spot, Token, kind, Item, item, Fault, Placed, end_of, right_of, below, item_at, tokens_from, placed, sign_token}
use Rattle.statement_tokens.proofs.Reading.{◌>>=◌}

-- they end so, or there are none and there is no token before them in their line
abbrev pub EndsWell : ℕ → List Token → Type 0
EndsWell past ts = ((past ≡ 0) × (ts ≡ [])) ⊎ ((front : List Token) × (at : Spot) × (ts ≡ front ++ sign_token kind.End at ∷ []))

end_ends : (line past : ℕ) → EndsWell past (end_of line past)
end_ends line zero = inl (refl, refl)
end_ends line (suc n) = inr ([], record { line = line; column = suc n }, refl)

line_ends : (line past : ℕ) (us : List Token) → EndsWell 0 us → EndsWell past (end_of line past ++ us)
line_ends line past us (inl known) = rw (known.1, append-nil) (end_ends line past)
line_ends line past us (inr known) = inr (end_of line past ++ known.0, known.1, rw (known.2, append_assoc) refl)

token_ends : (t : Token) (n : ℕ) (us : List Token) (past : ℕ) → 1 ≤ n → EndsWell n us → EndsWell past (t ∷ us)
token_ends t n us past some (inl known) = absurd (omega (arith, known.0, some))
token_ends t n us past some (inr known) = inr (t ∷ known.0, known.1, ap (λ x. t ∷ x) known.2)

pub scan_ok : {A B F : Type 0} (r : Result A F) (f : A → Result B F) (y : B) → (r >>= f) ≡ Ok y → (x : A) × (r ≡ Ok x) × (f x ≡ Ok y)
scan_ok (Ok x) f y e = (x, refl, e)
scan_ok (Err d) f y e = absurd cc

pub tokens_is : (x y : List Token) → (let r : Result (List Token) Placed = Ok x in r) ≡ Ok y → x ≡ y
tokens_is x y known = cc

placed_ends : (before : List Token) (r : Result Item Fault) (at : Spot) (past : ℕ) (next : List Token → ℕ → Spot → ℕ → Result (List Token) Placed)
    → ((front : List Token) (skip : ℕ) (to : Spot) (end : ℕ) (us : List Token) → next front skip to end ≡ Ok us → EndsWell end us) → (ts : List Token) → placed before r at past next ≡ Ok ts → EndsWell past ts
placed_ends before (Err e) at past next go ts known = absurd cc
placed_ends before (Ok item.NewLine) at past next go ts known =
    let front = before ++ end_of at.line past in
    let one = scan_ok (next front 0 (below at) 0) (λ ts. Ok (end_of at.line past ++ ts)) ts known in
    subst (EndsWell past) (tokens_is _ ts one.2) (line_ends at.line past one.0 (go front 0 (below at) 0 one.0 one.1))
placed_ends before (Ok (item.Gap more)) at past next go ts known = go before more (right_of at 1) past ts known
placed_ends before (Ok (item.Token k more)) at past next go ts known =
    let front = before ++ record { at = at; kind = k } ∷ [] in
    let one = scan_ok (next front more (right_of at 1) (at.column + 1 + more)) (λ ts. Ok (record { at = at; kind = k } ∷ ts)) ts known in
    subst (EndsWell past) (tokens_is _ ts one.2)
    (token_ends _ (at.column + 1 + more) one.0 past (omega arith) (go front more (right_of at 1) (at.column + 1 + more) one.0 one.1))

pub ends_from : (before : List Token) (cs : List ℕ) (skip : ℕ) (at : Spot) (past : ℕ) (ts : List Token) → tokens_from before cs skip at past ≡ Ok ts → EndsWell past ts
unfolding tokens_from
ends_from before [] skip at past ts known = subst (EndsWell past) (tokens_is _ ts known) (end_ends at.line past)
ends_from before (c ∷ cs) (suc skip) at past ts known = ends_from before cs skip (right_of at 1) past ts known
ends_from before (c ∷ cs) zero at past ts known =
    placed_ends before (item_at before c cs) at past (λ front skip to end. tokens_from front cs skip to end) (λ front skip to end us e. ends_from front cs skip to end us e) ts known

-- so do those after others
one_less : (t : Token) (ts : List Token) → EndsWell 0 (t ∷ ts) → EndsWell 0 ts
one_less t ts (inl known) = absurd cc
one_less t ts (inr known) = by known.0 known.2
  where
    by : (front : List Token) → t ∷ ts ≡ front ++ sign_token kind.End known.1 ∷ [] → EndsWell 0 ts
    by [] e = let none : ts ≡ [] = cc in inl (refl, none)
    by (x ∷ front) e = let rest : ts ≡ front ++ sign_token kind.End known.1 ∷ [] = cc in inr (front, known.1, rest)

pub rest_ends : (front ts : List Token) → EndsWell 0 (front ++ ts) → EndsWell 0 ts
rest_ends [] ts known = known
rest_ends (t ∷ front) ts known = rest_ends front ts (one_less t (front ++ ts) known)
