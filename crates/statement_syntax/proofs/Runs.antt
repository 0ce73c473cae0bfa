-- Each expression is read: after its tokens the state is the one that it ends in.
use Rattle.statement_syntax.proofs.Prelude.{◌≡◌, ℕ, zero, suc, ◌+◌, List, [], ◌∷◌, ◌++◌, length, inl, inr, Option, Some, None, Result, Ok, refl, ap, append_assoc, arith, lt-ltb, le-ltb, Spot, Token, kind, Number, Reading, Fault, bracket_limit, ◌>>=◌, run, no_sign, Sign, plus, Expr, first, joined, Product, zero_alone, factors, Factors, one, beside, Marked, plain, marked, raised, Prime, name, identity, bracket, sign_token, number_token, signed_token, zero_at, expr_tokens, product_tokens, factors_tokens, marked_tokens, prime_tokens, ExprFits, ProductFits, FactorsFit, MarkedFits, PrimeFits}
use Rattle.statement_syntax.specs.Steps as steps
use Rattle.statement_syntax.proofs.Run.{Upto, then_on, before_it, after_it, one_step}
use Rattle.statement_syntax.proofs.Machine.{Head, led, after, Part, nothing, scaled, product, Level, State, at_outside, fresh, add, whole_term, with_term}
use Rattle.statement_syntax.proofs.Machine.{whole}
use Rattle.statement_syntax.proofs.Seen.{head_of, levels_of, reading_of}
use Rattle.statement_syntax.proofs.Same.{add-seen, signed-seen, closed-seen}
use Rattle.statement_syntax.proofs.StateReads.{reading_step}

-- a step and a run from what is seen of a state
abbrev goes : State → Token → Result Reading Fault
goes st t = reading_step (reading_of st) t

abbrev pub runs : State → List Token → Result Reading Fault
runs st ts = run reading_step (reading_of st) ts

-- the state at the end of each part
abbrev pub add_marked : Part → Marked → Part
add_marked nothing f = product None (one f)
add_marked (scaled n) f = product (Some n) (one f)
add_marked (product l fs) f = product l (beside fs f)

abbrev pub after_literal : Option Number → Part
after_literal None = nothing
after_literal (Some n) = scaled n

abbrev whole_part : Product → Part
whole_part (zero_alone at) = scaled (zero_at at)
whole_part (factors l fs) = product l fs

abbrev pub end_state : List Level → Expr → State
end_state levels (first l t) = at_outside levels (led l) (whole_part t)
end_state levels (joined e s t) = at_outside levels (after e s) (whole_part t)

-- single steps
whole_is : (t : Product) → whole_term (whole_part t) ≡ Some t
whole_is (zero_alone at) = refl
whole_is (factors l fs) = refl

sign_behind : (levels : List Level) (head : Head) (t : Product) (s : Sign)
    → goes (at_outside levels head (whole_part t)) (signed_token s) ≡ Ok (reading_of (at_outside levels (after (with_term head t) s) nothing))
sign_behind levels head (zero_alone at) (plus x) = ap (λ r. Ok r) (signed-seen levels head (zero_alone at) (plus x))
sign_behind levels head (factors l fs) (plus x) = ap (λ r. Ok r) (signed-seen levels head (factors l fs) (plus x))
sign_behind levels head t s = ap (λ r. Ok r) (signed-seen levels head t s)

sign_step : (levels : List Level) (e : Expr) (s : Sign) → goes (end_state levels e) (signed_token s) ≡ Ok (reading_of (at_outside levels (after e s) nothing))
sign_step levels (first l t) s = sign_behind levels (led l) t s
sign_step levels (joined e before t) s = sign_behind levels (after e before) t s

close_step : (levels : List Level) (head : Head) (part : Part) (left : Spot) (e : Expr) (right : Spot)
    → goes (end_state (record { head = head; part = part; at = left } ∷ levels) e) (sign_token kind.Close right)
    ≡ Ok (reading_of (at_outside levels head (add part (bracket left e right))))
close_step levels head part left (first l t) right = closed-seen _ levels (led l) (whole_part t) t right (whole_is t)
close_step levels head part left (joined e s t) right = closed-seen _ levels (after e s) (whole_part t) t right (whole_is t)

-- whole parts
-- (where the right side computes only once a case is known, the first case is a lemma of its own)
mutual
  unfolding run

  pub expr_run : (levels : List Level) (e : Expr) (d : ℕ) (rest : List Token) → length (levels_of levels) + d ≡ bracket_limit
      → Upto (ExprFits e d) (runs (fresh levels) (expr_tokens e ++ rest)) (runs (end_state levels e) rest)
  expr_run levels (first no_sign t) d rest room = product_run levels (led no_sign) t d rest room
  expr_run levels (first l t) d rest room = product_run levels (led l) t d rest room
  expr_run levels (joined e s t) d rest room =
      rw append_assoc (then_on (expr_run levels e d (signed_token s ∷ (product_tokens t ++ rest)) room)
      (before_it (one_step reading_step _ _ (signed_token s) (product_tokens t ++ rest) (sign_step levels e s))
      (product_run levels (after e s) t d rest room)))

  product_run : (levels : List Level) (head : Head) (t : Product) (d : ℕ) (rest : List Token) → length (levels_of levels) + d ≡ bracket_limit
      → Upto (ProductFits t d) (runs (at_outside levels head nothing) (product_tokens t ++ rest)) (runs (at_outside levels head (whole_part t)) rest)
  product_run levels head (zero_alone at) d rest room = inl (tt, refl)
  product_run levels head (factors None fs) d rest room = factors_run levels head None fs d rest room
  product_run levels head (factors l fs) d rest room = factors_run levels head l fs d rest room

  factors_run : (levels : List Level) (head : Head) (l : Option Number) (fs : Factors) (d : ℕ) (rest : List Token)
      → length (levels_of levels) + d ≡ bracket_limit
      → Upto (FactorsFit fs d) (runs (at_outside levels head (after_literal l)) (factors_tokens fs ++ rest)) (runs (at_outside levels head (product l fs)) rest)
  factors_run levels head None (one f) d rest room = marked_run levels head nothing f d rest room
  factors_run levels head (Some n) (one f) d rest room = marked_run levels head (scaled n) f d rest room
  factors_run levels head l (beside fs f) d rest room =
      rw append_assoc (then_on (factors_run levels head l fs d (marked_tokens f ++ rest) room) (marked_run levels head (product l fs) f d rest room))

  marked_run : (levels : List Level) (head : Head) (part : Part) (f : Marked) (d : ℕ) (rest : List Token) → length (levels_of levels) + d ≡ bracket_limit
      → Upto (MarkedFits f d) (runs (at_outside levels head part) (marked_tokens f ++ rest)) (runs (at_outside levels head (add_marked part f)) rest)
  marked_run levels head nothing (plain p) d rest room = prime_run levels head nothing p d rest room
  marked_run levels head part (plain p) d rest room = prime_run levels head part p d rest room
  marked_run levels head nothing (marked f at) d rest room = rw append_assoc (marked_run levels head nothing f d (sign_token kind.Quote at ∷ rest) room)
  marked_run levels head part (marked f at) d rest room = rw append_assoc (marked_run levels head part f d (sign_token kind.Quote at ∷ rest) room)
  marked_run levels head nothing (raised f at n) d rest room =
      rw append_assoc (marked_run levels head nothing f d (sign_token kind.Caret at ∷ number_token n ∷ rest) room)
  marked_run levels head part (raised f at n) d rest room =
      rw append_assoc (marked_run levels head part f d (sign_token kind.Caret at ∷ number_token n ∷ rest) room)

  prime_run : (levels : List Level) (head : Head) (part : Part) (p : Prime) (d : ℕ) (rest : List Token) → length (levels_of levels) + d ≡ bracket_limit
      → Upto (PrimeFits p d) (runs (at_outside levels head part) (prime_tokens p ++ rest)) (runs (at_outside levels head (add part p)) rest)
  prime_run levels head part (name n) d rest room =
      inl (tt, ap (λ p. run reading_step (steps.outside (levels_of levels) (head_of head) p) rest) (add-seen part (name n)))
  prime_run levels head part (identity left n right) d rest room =
      inl (tt, ap (λ p. run reading_step (steps.outside (levels_of levels) (head_of head) p) rest) (add-seen part (identity left n right)))
  prime_run levels head part (bracket left e right) zero rest room =
      inr (λ x. x, rw (le-ltb (length (levels_of levels)) bracket_limit (omega (arith, room))) refl)
  prime_run levels head part (bracket left e right) (suc d) rest room =
      let inner = record { head = head; part = part; at = left } ∷ levels in
      rw (lt-ltb (length (levels_of levels)) bracket_limit (omega (arith, room)), append_assoc (expr_tokens e) (sign_token kind.Close right ∷ []) rest)
      (after_it (expr_run inner e d (sign_token kind.Close right ∷ rest) (omega (arith, room)))
      (one_step reading_step (reading_of (end_state inner e)) _ (sign_token kind.Close right) rest (close_step levels head part left e right)))

-- an expression ends where its tokens do
pub end-whole : (e : Expr) → whole (end_state [] e) ≡ Some e
end-whole (first l (zero_alone at)) = refl
end-whole (joined e s (zero_alone at)) = refl
end-whole e = refl
