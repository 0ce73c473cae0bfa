-- The tokens that a state has read are a prefix of an expression; with the token of a fault they aren't.
use Rattle.statement_syntax.proofs.Prelude.{◌≡◌, List, [], ◌∷◌, ◌++◌, Option, Some, None, Ok, Err, refl, sym, ap, ◌∙◌, append_assoc, arith, pos, append-nil, Token, kind, Number, Name, Sum, Reading, Fault, Expected, bracket_limit, run, whole_sum, no_sign, Expr, first, Product, factors, one, beside, plain, Prime, name, identity, bracket, sign_token, name_token, number_token, expr_tokens, ExprFits, expr_tree, prime_tree, prime_at}
use Rattle.statement_syntax.specs.Steps as steps
pub use Rattle.statement_syntax.specs.Places.{somewhere}
use Rattle.statement_syntax.proofs.Machine.{Head, Part, nothing, scaled, product, Focus, outside, square, named, behind_caret, Level, State, at_outside, fresh}
use Rattle.statement_syntax.proofs.Machine.{add, with_power, whole_term, with_term, whole, end_by, state_tokens}
use Rattle.statement_syntax.proofs.Seen.{head_of, part_of, levels_of, reading_of, tree_or}
use Rattle.statement_syntax.proofs.Same.{add-seen, raised-seen, closed-seen, whole-seen}
use Rattle.statement_syntax.proofs.StateReads.{reading_step, with_term-tokens, whole_term-tokens, run_reads, deep_reads}
use Rattle.statement_syntax.proofs.Run.{IfDeep, if_deep, Upto, before_it, upto_ok, run_front, one_step}
use Rattle.statement_syntax.proofs.Runs.{runs, end_state, expr_run}

abbrev pub some_name : Name
some_name = record { text = 120 ∷ []; at = somewhere }

abbrev pub some_expr : Expr
some_expr = first no_sign (factors None (one (plain (name some_name))))

some_exponent : Number
some_exponent = record { value = pos 1; at = somewhere }

add_whole : (part : Part) (p : Prime) → (t : Product) × (whole_term (add part p) ≡ Some t)
add_whole nothing p = (factors None (one (plain p)), refl)
add_whole (scaled n) p = (factors (Some n) (one (plain p)), refl)
add_whole (product l fs) p = (factors l (beside fs (plain p)), refl)

-- these tokens lead to the end of an expression
abbrev Ends : State → Type 0
Ends st = (more : List Token) × (r : Reading) × (s : Sum) × (runs st more ≡ Ok r) × (whole_sum r ≡ Ok s)

run_on : (st next : State) (t : Token) → reading_step (reading_of st) t ≡ Ok (reading_of next) → Ends next → Ends st
run_on st next t given ends = (t ∷ ends.0, ends.1, ends.2, one_step reading_step _ _ t ends.0 given ∙ ends.3, ends.4)

closes : (levels : List Level) (head : Head) (part : Part) (t : Product) → whole_term part ≡ Some t → Ends (at_outside levels head part)
unfolding run
closes [] head part t given = (
  [],
  reading_of (at_outside [] head part),
  expr_tree (with_term head t),
  refl,
  whole-seen (at_outside [] head part) ∙ ap (λ o. tree_or (end_by [] head outside o) Expected) given,
)
closes (level ∷ levels) head part t given =
    let inner = bracket level.at (with_term head t) somewhere in
    let wide = add_whole level.part inner in
    run_on (at_outside (level ∷ levels) head part) (at_outside levels level.head (add level.part inner)) (sign_token kind.Close somewhere)
    (closed-seen level levels head part t somewhere given)
    (closes levels level.head (add level.part inner) wide.0 wide.1)

-- a whole part follows a token
made : (st : State) (t : Token) (levels : List Level) (head : Head) (part : Part) (p : Prime)
    → reading_step (reading_of st) t
    ≡ Ok (steps.outside (levels_of levels) (head_of head) (steps.part_with (part_of part) (prime_tree p) (prime_at p))) → Ends st
made st t levels head part p goes =
    let wide = add_whole part p in
    run_on st (at_outside levels head (add part p)) t (goes ∙ ap (λ q. Ok (steps.outside (levels_of levels) (head_of head) q)) (add-seen part p))
    (closes levels head (add part p) wide.0 wide.1)

abbrev with_focus : List Level → Head → Part → Focus → State
with_focus levels head part f = record { levels = levels; head = head; part = part; focus = f }

-- each state can go on to the end of an expression
ends : (levels : List Level) (head : Head) (part : Part) (f : Focus) → Ends (with_focus levels head part f)
ends levels head part outside = made (at_outside levels head part) (name_token some_name) levels head part (name some_name) refl
ends levels head part (square left) =
    run_on (with_focus levels head part (square left)) (with_focus levels head part (named left some_name)) (name_token some_name) refl
    (made (with_focus levels head part (named left some_name)) (sign_token kind.CloseSquare somewhere) levels head part
    (identity left some_name somewhere) refl)
ends levels head part (named left n) =
    made (with_focus levels head part (named left n)) (sign_token kind.CloseSquare somewhere) levels head part (identity left n somewhere) refl
ends levels head part (behind_caret l fs caret) =
    let power = with_power fs caret some_exponent in
    run_on (with_focus levels head part (behind_caret l fs caret)) (at_outside levels head (product l power)) (number_token some_exponent)
    (ap (λ q. Ok (steps.outside (levels_of levels) (head_of head) q)) (raised-seen l fs caret some_exponent))
    (closes levels head (product l power) (factors l power) refl)

-- at the end
end_tokens : (levels : List Level) (head : Head) (part : Part) (f : Focus) (t : Option Product) (e : Expr) → whole_term part ≡ t
    → end_by levels head f t ≡ Some e → state_tokens (with_focus levels head part f) ≡ expr_tokens e
end_tokens [] head part outside (Some t) e w given =
    let e-is : with_term head t ≡ e = cc in
    rw (append-nil, ← e-is, with_term-tokens, whole_term-tokens part t w) refl
end_tokens levels head part f t e w given = absurd cc

tree_ok : (o : Option Expr) (s : Sum) → tree_or o Expected ≡ Ok s → (e : Expr) × (o ≡ Some e) × (s ≡ expr_tree e)
tree_ok None s read = absurd cc
tree_ok (Some e) s read = (e, refl, cc)

-- what ends as an expression is that expression's tokens
found : (st : State) (ts : List Token) (r : Reading) (s : Sum) → runs st ts ≡ Ok r → whole_sum r ≡ Ok s
    → (e : Expr) × (s ≡ expr_tree e) × (state_tokens st ++ ts ≡ expr_tokens e)
found st ts r s ran ends =
    let read = run_reads st ts r ran in
    let e = tree_ok (whole read.0) s (sym (whole-seen read.0) ∙ ap whole_sum (sym read.1) ∙ ends) in
    (e.0, e.2, sym read.2 ∙ end_tokens read.0.levels read.0.head read.0.part read.0.focus (whole_term read.0.part) e.0 refl e.1)

-- the tokens of an expression end as that expression, where it is within the limit, and else at a bracket that is too deep
pub only : (e : Expr) → Upto (ExprFits e bracket_limit) (runs (fresh []) (expr_tokens e)) (Ok (reading_of (end_state [] e)))
unfolding run
only e = before_it (ap (runs (fresh [])) (sym (append-nil (expr_tokens e)))) (expr_run [] e bracket_limit [] (omega arith))

-- what has been read of an expression
abbrev pub ExprReads : Reading → List Token → Type 0
ExprReads r ts = runs (fresh []) ts ≡ Ok r

-- where it may end, it is an expression within the limit
pub reading_ends : (r : Reading) (s : Sum) (ts : List Token) → ExprReads r ts → whole_sum r ≡ Ok s
    → (e : Expr) × ExprFits e bracket_limit × (s ≡ expr_tree e) × (ts ≡ expr_tokens e)
reading_ends r s ts ran ends =
    let e = found (fresh []) ts r s ran ends in
    (e.0, (upto_ok _ (reading_of (end_state [] e.0)) r (only e.0) (ap (runs (fresh [])) (sym e.2) ∙ ran)).0, e.1, e.2)

tree_or-fault : (o : Option Expr) (f : Fault) → tree_or o Expected ≡ Err f → f ≡ Expected
tree_or-fault None f fails = cc
tree_or-fault (Some e) f fails = absurd cc

-- where it may not, that is because more is expected
pub reading_lacks : (r : Reading) (ts : List Token) (f : Fault) → ExprReads r ts → whole_sum r ≡ Err f → f ≡ Expected
reading_lacks r ts f ran fails =
    let read = run_reads (fresh []) ts r ran in
    tree_or-fault (whole read.0) f (sym (whole-seen read.0) ∙ ap whole_sum (sym read.1) ∙ fails)

-- it can go on to an expression within the limit
pub viable : (front : List Token) (r : Reading) → ExprReads r front
    → (more : List Token) × (e : Expr) × ExprFits e bracket_limit × (front ++ more ≡ expr_tokens e)
viable front r ran =
    let read = run_reads (fresh []) front r ran in
    let on = ends read.0.levels read.0.head read.0.part read.0.focus in
    let all = run_front reading_step (reading_of (fresh [])) front r on.0 ran ∙ ap (λ s. run reading_step s on.0) read.1 ∙ on.3 in
    let e = reading_ends on.1 on.2 (front ++ on.0) all on.4 in
    (on.0, e.0, e.1, e.3)

-- with a bracket that is too deep it can go on to an expression, if not to one within the limit
pub deep : (front : List Token) (r : Reading) (t : Token) (f : Fault) → ExprReads r front → reading_step r t ≡ Err f
    → IfDeep ((more : List Token) × (e : Expr) × (front ++ t ∷ more ≡ expr_tokens e)) f
deep front r t f ran fails =
    let read = run_reads (fresh []) front r ran in
    if_deep f (deep_reads read.0 t f (ap (λ s. reading_step s t) (sym read.1) ∙ fails)) (λ wider.
    let on = ends wider.0.levels wider.0.head wider.0.part wider.0.focus in
    let e = found wider.0 on.0 on.1 on.2 on.3 on.4 in
    (on.0, e.0, sym (append_assoc front (t ∷ []) on.0) ∙ ap (λ (x : List Token). x ++ on.0) (sym (wider.1 ∙ ap (λ x. x ++ t ∷ []) read.2)) ∙ e.2))
