-- The reduction of one generator as a work.
use Rattle.traced_completion.proofs.Prelude.{◌≡◌, ◌<◌, ◌≤◌, ℕ, zero, suc, ◌+◌, ◌-◌, List, [], ◌∷◌, ◌++◌, length, get_or, slice_get, drop, Option, Some, None, Result, Ok, refl, sym, ap, ◌∙◌, subst, arith, range_with_len, drop_more, drop_all, length-append, get_or-append_right, length-range_with_len, get_or-range_with_len, slice_get-get_or, get_or-map, Term, generator_at, Compare, Poly, Rule, State, ReduceFault, normal_form_of, polynomials, and_then, Explains, Recorded, rest_with, IsExtended, generator_rows, generator_work, Does, units_first}
use Rattle.rule_reduce.specs.declared.fault.ReduceFault.TheVariants as fault

-- the generator with a number
pub generator_is : (generators : List Poly) (number : ℕ) (p : Poly) → 0 < number → p ≡ get_or generators (number - 1) p → number ≤ length generators → generator_at (polynomials generators) number ≡ p.terms
generator_is generators zero p some is last = absurd (omega (arith, some))
generator_is generators (suc n) p some is last =
    within (polynomials generators) n [] p.terms (omega (arith, last, size generators)) ∙ get_or-map (λ (q : Poly). q.terms) generators n p ∙ ap (λ (q : Poly). q.terms) (sym (is ∙ ap (λ k. get_or generators k p) (less n)))
  where
    less : (k : ℕ) → suc k - 1 ≡ k
    less k = omega arith

    size : (qs : List Poly) → length (polynomials qs) ≡ length qs
    size [] = refl
    size (q ∷ qs) = ap suc (size qs)

    within : (ps : List (List Term)) (k : ℕ) (d e : List Term) → k < length ps → get_or ps k d ≡ get_or ps k e
    within [] k d e below = absurd (omega (arith, below))
    within (x ∷ ps) zero d e below = refl
    within (x ∷ ps) (suc k) d e below = within ps k d e (omega arith)

module _ (compare : Compare) (steps : ℕ) (generators : List (List Term)) (number : ℕ) (rules : List Rule) (p : List Term) (is : generator_at generators number ≡ p) where
  work_is : generator_work compare steps generators number rules ≡ and_then (normal_form_of compare rules p steps) (λ s. Ok (rest_with s.rest (generator_rows number s.multiplier s.rows)))
  work_is = ap (λ q. and_then (normal_form_of compare rules q steps) (λ s. Ok (rest_with s.rest (generator_rows number s.multiplier s.rows)))) is

  after_fault : (r : Result State ReduceFault) (e : ReduceFault) → Explains r e → Explains (and_then r (λ s. Ok (rest_with s.rest (generator_rows number s.multiplier s.rows)))) e
  after_fault r (fault.Steps limit) why = ap (λ q. and_then q (λ s. Ok (rest_with s.rest (generator_rows number s.multiplier s.rows)))) why
  after_fault r (fault.Overflow o) why = ap (λ q. and_then q (λ s. Ok (rest_with s.rest (generator_rows number s.multiplier s.rows)))) why
  after_fault r (fault.Size s) why = ap (λ q. and_then q (λ t. Ok (rest_with t.rest (generator_rows number t.multiplier t.rows)))) why
  after_fault r (fault.Memory e) why = tt

  pub generator_fault : (e : ReduceFault) → Explains (normal_form_of compare rules p steps) e → Explains (generator_work compare steps generators number rules) e
  generator_fault e why = subst (λ r. Explains r e) (sym work_is) (after_fault (normal_form_of compare rules p steps) e why)

  leaves : (s : State) → normal_form_of compare rules p steps ≡ Ok s → generator_work compare steps generators number rules ≡ Ok (rest_with s.rest (generator_rows number s.multiplier s.rows))
  leaves s ends = work_is ∙ ap (λ r. and_then r (λ t. Ok (rest_with t.rest (generator_rows number t.multiplier t.rows)))) ends

  pub nothing_left : (s : State) (before : Recorded) → normal_form_of compare rules p steps ≡ Ok s → length s.rest ≡ 0 → Does compare (generator_work compare steps generators number rules) before before
  nothing_left s before ends none = record { rest = None; leaves = leaves s ends ∙ ap Ok (go s.rest none); added = refl }
    where
      go : (q : List Term) → length q ≡ 0 → rest_with q (generator_rows number s.multiplier s.rows) ≡ None
      go [] k = refl
      go (t ∷ q) k = absurd (omega (arith, k))

  pub rest_made : (s : State) (before after : Recorded) → normal_form_of compare rules p steps ≡ Ok s → 0 < length s.rest
      → IsExtended compare (record { polynomial = s.rest; rows = generator_rows number s.multiplier s.rows }) before after → Does compare (generator_work compare steps generators number rules) before after
  rest_made s before after ends some extended = record {
    rest = Some (record { polynomial = s.rest; rows = generator_rows number s.multiplier s.rows });
    leaves = leaves s ends ∙ ap Ok (go s.rest some);
    added = extended;
  }
    where
      go : (q : List Term) → 0 < length q → rest_with q (generator_rows number s.multiplier s.rows) ≡ Some (record { polynomial = q; rows = generator_rows number s.multiplier s.rows })
      go [] k = absurd (omega (arith, k))
      go (t ∷ q) k = refl

-- turns
got_left : (xs ys : List ℕ) (i : ℕ) (d : ℕ) → i < length xs → get_or (xs ++ ys) i d ≡ get_or xs i d
got_left [] ys i d below = absurd (omega (arith, below))
got_left (x ∷ xs) ys zero d below = refl
got_left (x ∷ xs) ys (suc i) d below = got_left xs ys i d (omega arith)

units_length : (units count : ℕ) → units ≤ count → length (units_first units count) ≡ count
units_length units count most =
    omega (arith, length-append (range_with_len (suc (count - units)) units) (range_with_len 1 (count - units)), length-range_with_len (suc (count - units)) units, length-range_with_len 1 (count - units))

pub unit_turn : (units count turn n : ℕ) → units ≤ count → turn < units → n ≡ suc (count - units) + turn → slice_get (units_first units count) turn ≡ Some n
unit_turn units count turn n most below is =
    slice_get-get_or (units_first units count) turn n (omega (arith, units_length units count most))
    ∙ ap Some (got_left (range_with_len (suc (count - units)) units) (range_with_len 1 (count - units)) turn n (omega (arith, length-range_with_len (suc (count - units)) units)) ∙ get_or-range_with_len (suc (count - units)) units turn n below ∙ sym is)

pub other_turn : (units count turn n : ℕ) → units ≤ count → units ≤ turn → turn < count → n ≡ 1 + (turn - units) → slice_get (units_first units count) turn ≡ Some n
other_turn units count turn n most above below is =
    slice_get-get_or (units_first units count) turn n (omega (arith, units_length units count most))
    ∙ ap Some (get_or-append_right (range_with_len (suc (count - units)) units) (range_with_len 1 (count - units)) units turn n (length-range_with_len (suc (count - units)) units) above
    ∙ get_or-range_with_len 1 (count - units) (turn - units) n (omega arith) ∙ sym is)

-- the number whose turn it is, and those after it
pub turns_left : (units count turn n : ℕ) → units ≤ count → turn < count → slice_get (units_first units count) turn ≡ Some n → drop turn (units_first units count) ≡ n ∷ drop (turn + 1) (units_first units count)
turns_left units count turn n most below is =
    drop_more (units_first units count) turn n (omega (arith, units_length units count most)) ∙ ap (λ k. k ∷ drop (turn + 1) (units_first units count)) (same (get_or (units_first units count) turn n) n (sym (slice_get-get_or (units_first units count) turn n (omega (arith, units_length units count most))) ∙ is))
  where
    same : (a b : ℕ) → ◌≡◌ {A = Option ℕ} (Some a) (Some b) → a ≡ b
    same a b k = cc

pub no_turns_left : (units count turn : ℕ) → units ≤ count → count ≤ turn → drop turn (units_first units count) ≡ []
no_turns_left units count turn most above = drop_all turn (units_first units count) (omega (arith, units_length units count most))
