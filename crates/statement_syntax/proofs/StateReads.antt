-- What a state has read is what it was given, token by token.
use Rattle.statement_syntax.proofs.Prelude.{◌≡◌, zero, suc, Bool, true, false, cond, List, [], ◌∷◌, ◌++◌, length, Option, Some, None, Result, Ok, Err, refl, sym, ap, subst, ◌∙◌, append_assoc, ℤ, pos, negsuc, nat_lt, append-nil, Spot, Token, TokenKind, kind, Name, Number, Reading, Fault, TooDeep, bracket_limit, ◌>>=◌, run, no_sign, lead_plus, lead_minus, Sign, plus, minus, Product, zero_alone, factors, Factors, one, beside, Prime, name, identity, bracket, sign_token, name_token, number_token, signed_token, expr_tokens, product_tokens, factors_tokens, prime_tokens, is_minus}
use Rattle.statement_syntax.specs.Steps as steps
use Rattle.statement_syntax.proofs.Run.{bind_ok, IfDeep}
use Rattle.statement_syntax.proofs.Machine.{Head, led, after, Part, nothing, scaled, product, Focus, outside, square, named, behind_caret, Level, State}
use Rattle.statement_syntax.proofs.Machine.{at_outside, fresh, add, with_mark, with_power, lone_literal, whole_term, with_term, head_tokens, part_tokens}
use Rattle.statement_syntax.proofs.Machine.{kept_tokens, focus_tokens, level_tokens, state_tokens}
use Rattle.statement_syntax.proofs.Seen.{head_of, part_of, focus_of, levels_of, reading_of}
use Rattle.statement_syntax.proofs.Same.{add-seen, product_or, ended-seen, marked-seen, raised-seen, signed-seen, bracket-seen}

-- a step of the program
abbrev pub reading_step : Reading → Token → Result Reading Fault
reading_step r t = steps.token_step r t.kind t.at

add-tokens : (part : Part) (p : Prime) → part_tokens (add part p) ≡ part_tokens part ++ prime_tokens p
add-tokens (product l fs) p = simp append_assoc
add-tokens part p = refl

mark-tokens : (fs : Factors) (at : Spot) → factors_tokens (with_mark fs at) ≡ factors_tokens fs ++ sign_token kind.Quote at ∷ []
mark-tokens (one f) at = refl
mark-tokens (beside fs f) at = simp append_assoc

power-tokens : (fs : Factors) (at : Spot) (n : Number)
    → factors_tokens (with_power fs at n) ≡ factors_tokens fs ++ sign_token kind.Caret at ∷ number_token n ∷ []
power-tokens (one f) at n = refl
power-tokens (beside fs f) at n = simp append_assoc

pub with_term-tokens : (head : Head) (t : Product) → expr_tokens (with_term head t) ≡ head_tokens head ++ product_tokens t
with_term-tokens (led l) t = refl
with_term-tokens (after e s) t = sym (append_assoc (expr_tokens e) (signed_token s ∷ []) (product_tokens t))

lone-tokens : (z : ℤ) (at : Spot) (t : Product) → lone_literal z at ≡ Some t → product_tokens t ≡ number_token (record { value = z; at = at }) ∷ []
lone-tokens (pos zero) at t e = let t-is : zero_alone at ≡ t = cc in ap product_tokens (sym t-is)
lone-tokens (pos (suc n)) at t e = absurd cc
lone-tokens (negsuc n) at t e = absurd cc

pub whole_term-tokens : (part : Part) (t : Product) → whole_term part ≡ Some t → product_tokens t ≡ part_tokens part
whole_term-tokens nothing t e = absurd cc
whole_term-tokens (scaled n) t e = lone-tokens n.value n.at t e
whole_term-tokens (product l fs) t e = let t-is : factors l fs ≡ t = cc in ap product_tokens (sym t-is)

-- the state has read one token more
abbrev Grows : List Level → Head → Part → Focus → Token → State → Type 0
Grows levels head part focus t next =
    state_tokens next ≡ (level_tokens levels ++ head_tokens head ++ kept_tokens part focus ++ focus_tokens focus) ++ t ∷ []

-- a step leads to such a state, and so would one at a bracket that is too deep
abbrev Reads : List Level → Head → Part → Focus → Token → Result Reading Fault → Type 0
Reads levels head part focus t (Ok r) = (next : State) × (r ≡ reading_of next) × Grows levels head part focus t next
Reads levels head part focus t (Err f) = IfDeep ((next : State) × Grows levels head part focus t next) f

name_reads : (levels : List Level) (head : Head) (part : Part) (n : Name)
    → Reads levels head part outside (name_token n) (steps.outside_step (levels_of levels) (head_of head) (part_of part) (kind.Name n.text) n.at)
name_reads levels head part n = (
  at_outside levels head (add part (name n)),
  ap (steps.outside (levels_of levels) (head_of head)) (add-seen part (name n)),
  simp (add-tokens, append-nil, append_assoc),
)

-- after a term
sign_after : (levels : List Level) (head : Head) (part : Part) (s : Sign) (t : Option Product) → whole_term part ≡ t
    → Reads levels head part outside (signed_token s)
    (steps.sign_by (head_of head) (product_or t (head_of head).negative) (is_minus s) >>= λ h. Ok (steps.outside (levels_of levels) h (part_of nothing)))
sign_after levels head part s None given = tt
sign_after levels head part s (Some t) given = (
  at_outside levels (after (with_term head t) s) nothing,
  signed-seen levels head t s,
  simp (with_term-tokens, whole_term-tokens part t given, append-nil, append_assoc),
)

sign_reads : (levels : List Level) (head : Head) (part : Part) (s : Sign)
    → Reads levels head part outside (signed_token s)
    (steps.signed_step (levels_of levels) (head_of head) (part_of part) (signed_token s).at (is_minus s))
sign_reads levels (led no_sign) nothing (plus at) = (at_outside levels (led (lead_plus at)) nothing, refl, simp append-nil)
sign_reads levels (led no_sign) nothing (minus at) = (at_outside levels (led (lead_minus at)) nothing, refl, simp append-nil)
sign_reads levels head (scaled n) s = rw (ended-seen (scaled n) (head_of head).negative) (sign_after levels head (scaled n) s _ refl)
sign_reads levels head (product l fs) s = sign_after levels head (product l fs) s _ refl
sign_reads levels head nothing s = tt

close_after : (levels : List Level) (head : Head) (part : Part) (at : Spot) (t : Option Product) → whole_term part ≡ t
    → Reads levels head part outside (sign_token kind.Close at)
    (product_or t (head_of head).negative >>= λ x. steps.close_by (levels_of levels) (steps.sum_with (head_of head) x))
close_after levels head part at None given = tt
close_after [] head part at (Some t) given = tt
close_after (level ∷ levels) head part at (Some t) given = (
  at_outside levels level.head (add level.part (bracket level.at (with_term head t) at)),
  bracket-seen level levels head t at,
  simp (add-tokens, with_term-tokens, whole_term-tokens part t given, append-nil, append_assoc),
)

close_reads : (levels : List Level) (head : Head) (part : Part) (at : Spot)
    → Reads levels head part outside (sign_token kind.Close at) (steps.close_step (levels_of levels) (head_of head) (part_of part))
close_reads levels head part at = rw (ended-seen part (head_of head).negative) (close_after levels head part at (whole_term part) refl)

open_reads : (levels : List Level) (head : Head) (part : Part) (at : Spot) (b : Bool)
    → Reads levels head part outside (sign_token kind.Open at)
    (cond b (Ok (reading_of (fresh (record { head = head; part = part; at = at } ∷ levels)))) (Err TooDeep))
open_reads levels head part at true = (fresh (record { head = head; part = part; at = at } ∷ levels), refl, simp append-nil)
open_reads levels head part at false = (fresh (record { head = head; part = part; at = at } ∷ levels), simp append-nil)

outside_reads : (levels : List Level) (head : Head) (part : Part) (k : TokenKind) (at : Spot)
    → Reads levels head part outside (sign_token k at) (steps.outside_step (levels_of levels) (head_of head) (part_of part) k at)
outside_reads levels head part (kind.Name x) at = name_reads levels head part (record { text = x; at = at })
outside_reads levels head nothing (kind.Literal n) at = (at_outside levels head (scaled (record { value = n; at = at })), refl, simp append-nil)
outside_reads levels head part kind.Plus at = sign_reads levels head part (plus at)
outside_reads levels head part kind.Minus at = sign_reads levels head part (minus at)
outside_reads levels head part kind.Open at = open_reads levels head part at (nat_lt (length (levels_of levels)) bracket_limit)
outside_reads levels head part kind.Close at = close_reads levels head part at
outside_reads levels head part kind.OpenSquare at =
    (record { levels = levels; head = head; part = part; focus = square at }, refl, simp append-nil)
outside_reads levels head (product l fs) kind.Quote at = (
  at_outside levels head (product l (with_mark fs at)),
  ap (steps.outside (levels_of levels) (head_of head)) (marked-seen l fs at),
  simp (mark-tokens, append-nil, append_assoc),
)
outside_reads levels head (product l fs) kind.Caret at =
    (record { levels = levels; head = head; part = nothing; focus = behind_caret l fs at }, refl, simp (append-nil, append_assoc))
outside_reads levels head part k at = tt

focus_reads : (levels : List Level) (head : Head) (part : Part) (focus : Focus) (k : TokenKind) (at : Spot)
    → Reads levels head part focus (sign_token k at) (steps.focus_step (levels_of levels) (head_of head) (part_of part) (focus_of focus) k at)
focus_reads levels head part outside k at = outside_reads levels head part k at
focus_reads levels head part (square left) (kind.Name x) at =
    (record { levels = levels; head = head; part = part; focus = named left (record { text = x; at = at }) }, refl, simp append_assoc)
focus_reads levels head part (named left n) kind.CloseSquare at = (
  at_outside levels head (add part (identity left n at)),
  ap (steps.outside (levels_of levels) (head_of head)) (add-seen part (identity left n at)),
  simp (add-tokens, append-nil, append_assoc),
)
focus_reads levels head part (behind_caret l fs caret) (kind.Literal n) at =
    let number : Number = record { value = n; at = at } in (
      at_outside levels head (product l (with_power fs caret number)),
      ap (steps.outside (levels_of levels) (head_of head)) (raised-seen l fs caret number),
      simp (power-tokens, append-nil, append_assoc),
    )
focus_reads levels head part focus k at = tt

-- with a bracket that is too deep there is a state too, whatever the limit says
pub deep_reads : (st : State) (t : Token) (f : Fault) → reading_step (reading_of st) t ≡ Err f
    → IfDeep ((to : State) × (state_tokens to ≡ state_tokens st ++ t ∷ [])) f
deep_reads st t f given = subst (Reads st.levels st.head st.part st.focus t) given (focus_reads st.levels st.head st.part st.focus t.kind t.at)

-- a run reads its tokens
pub run_reads : (st : State) (ts : List Token) (r : Reading) → run reading_step (reading_of st) ts ≡ Ok r
    → (to : State) × (r ≡ reading_of to) × (state_tokens to ≡ state_tokens st ++ ts)
unfolding run
run_reads st [] r given = let same : reading_of st ≡ r = cc in (st, sym same, sym (append-nil (state_tokens st)))
run_reads st (t ∷ ts) r given =
    let one = bind_ok (reading_step (reading_of st) t) (λ s. run reading_step s ts) r given in
    let to = subst (Reads st.levels st.head st.part st.focus t) one.1 (focus_reads st.levels st.head st.part st.focus t.kind t.at) in
    let more = run_reads to.0 ts r (ap (λ s. run reading_step s ts) (sym to.1) ∙ one.2) in
    (more.0, more.1, rw (more.2, to.2) (append_assoc (state_tokens st) (t ∷ []) ts))
