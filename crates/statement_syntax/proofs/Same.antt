-- What the program's steps make of a state, seen without the places of signs.
use Rattle.statement_syntax.proofs.Prelude.{◌≡◌, zero, Bool, false, List, [], ◌∷◌, ◌++◌, Option, Some, None, Result, Ok, Err, refl, ap, ap₂, ◌∙◌, ℤ, pos, Spot, Adjoint, Power, Bracket, Number, Term, out-Term, out-roll-Term, part, Fault, Expected, no_sign, Sign, Product, zero_alone, factors, Factors, one, beside, Prime, bracket, ◌>>=◌, prime_at, prime_tree, product_at, product_tree, expr_at, expr_terms, expr_tree, is_minus, last_tree}
use Rattle.statement_syntax.specs.Steps as steps
use Rattle.statement_syntax.proofs.Machine.{Head, led, after, Part, nothing, scaled, product, Focus, outside, Level, State, at_outside, add, with_mark}
use Rattle.statement_syntax.proofs.Machine.{with_power, lone_literal, whole_term, with_term, end_by, whole}
use Rattle.statement_syntax.proofs.Seen.{head_of, product_of, part_of, focus_of, levels_of, reading_of, tree_or}

pub add-seen : (part : Part) (p : Prime) → steps.part_with (part_of part) (prime_tree p) (prime_at p) ≡ part_of (add part p)
add-seen nothing p = refl
add-seen part p = refl

abbrev pub product_or : Option Product → Bool → Result Term Fault
product_or None negative = Err Expected
product_or (Some t) negative = Ok (product_tree t negative)

lone-seen : (z : ℤ) (at : Spot) (negative : Bool) → steps.lone_term z (record { value = z; at = at }) negative ≡ product_or (lone_literal z at) negative
lone-seen (pos zero) at negative = refl
lone-seen z at negative = refl

pub ended-seen : (part : Part) (negative : Bool) → steps.ended_part (part_of part) negative ≡ product_or (whole_term part) negative
ended-seen nothing negative = refl
ended-seen (scaled n) negative = lone-seen n.value n.at negative
ended-seen (product l fs) negative = refl

product-place : (t : Product) (negative : Bool) → (out-Term (product_tree t negative)).at ≡ product_at t
product-place (zero_alone at) negative = rw out-roll-Term refl
product-place (factors l fs) negative = rw out-roll-Term refl

place-seen : (head : Head) (t : Product) → steps.sum_at (head_of head) (product_tree t (head_of head).negative) ≡ expr_at (with_term head t)
place-seen (led no_sign) t = product-place t false
place-seen head t = refl

terms-seen : (head : Head) (t : Product) → (head_of head).terms ++ product_tree t (head_of head).negative ∷ [] ≡ expr_terms (with_term head t)
terms-seen (led no_sign) t = refl
terms-seen head t = refl

sum-seen : (head : Head) (t : Product) → steps.sum_with (head_of head) (product_tree t (head_of head).negative) ≡ expr_tree (with_term head t)
sum-seen head t = ap₂ steps.sum_of (place-seen head t) (terms-seen head t)

-- what the steps make
pub marked-seen : (l : Option Number) (fs : Factors) (at : Spot)
    → part.Product (record (product_of l fs) { last = steps.marked_factor (last_tree fs) Adjoint }) ≡ part_of (product l (with_mark fs at))
marked-seen l (one f) at = refl
marked-seen l (beside fs f) at = refl

pub raised-seen : (l : Option Number) (fs : Factors) (at : Spot) (n : Number)
    → part.Product (record (product_of l fs) { last = steps.marked_factor (last_tree fs) (Power at n) }) ≡ part_of (product l (with_power fs at n))
raised-seen l (one f) at n = refl
raised-seen l (beside fs f) at n = refl

pub signed-seen : (levels : List Level) (head : Head) (t : Product) (s : Sign)
    → steps.outside (levels_of levels) (record {
      at = Some (steps.sum_at (head_of head) (product_tree t (head_of head).negative));
      terms = (head_of head).terms ++ product_tree t (head_of head).negative ∷ [];
      negative = is_minus s;
    }) (part_of nothing)
    ≡ reading_of (at_outside levels (after (with_term head t) s) nothing)
signed-seen levels head t s =
    ap₂ (λ at terms. steps.outside (levels_of levels) (record { at = Some at; terms = terms; negative = is_minus s }) (part_of nothing))
    (place-seen head t) (terms-seen head t)

pub bracket-seen : (level : Level) (levels : List Level) (head : Head) (t : Product) (at : Spot)
    → steps.outside (levels_of levels) (head_of level.head)
    (steps.part_with (part_of level.part) (Bracket (steps.sum_with (head_of head) (product_tree t (head_of head).negative))) level.at)
    ≡ reading_of (at_outside levels level.head (add level.part (bracket level.at (with_term head t) at)))
bracket-seen level levels head t at =
    ap (λ s. steps.outside (levels_of levels) (head_of level.head) (steps.part_with (part_of level.part) (Bracket s) level.at)) (sum-seen head t)
    ∙ ap (steps.outside (levels_of levels) (head_of level.head)) (add-seen level.part (bracket level.at (with_term head t) at))

pub closed-seen : (level : Level) (levels : List Level) (head : Head) (part : Part) (t : Product) (at : Spot) → whole_term part ≡ Some t
    → steps.close_step (levels_of (level ∷ levels)) (head_of head) (part_of part)
    ≡ Ok (reading_of (at_outside levels level.head (add level.part (bracket level.at (with_term head t) at))))
closed-seen level levels head part t at whole =
    ap (λ r. r >>= λ x. steps.close_by (levels_of (level ∷ levels)) (steps.sum_with (head_of head) x))
    (ended-seen part (head_of head).negative ∙ ap (λ o. product_or o (head_of head).negative) whole)
    ∙ ap (λ r. Ok r) (bracket-seen level levels head t at)

whole_made : (levels : List Level) (head : Head) (part : Part) (f : Focus)
    → steps.whole_by (levels_of levels) (head_of head) (part_of part) (focus_of f) ≡ tree_or (end_by levels head f (whole_term part)) Expected
whole_made [] head part outside = ap (λ r. r >>= λ t. Ok (steps.sum_with (head_of head) t)) (ended-seen part (head_of head).negative) ∙ last (whole_term part)
  where
    last : (t : Option Product) → (product_or t (head_of head).negative >>= λ x. Ok (steps.sum_with (head_of head) x)) ≡ tree_or (end_by [] head outside t) Expected
    last None = refl
    last (Some t) = ap (λ s. Ok s) (sum-seen head t)
whole_made levels head part f = refl

pub whole-seen : (st : State) → steps.whole_sum (reading_of st) ≡ tree_or (whole st) Expected
whole-seen st = whole_made st.levels st.head st.part st.focus
