-- What goes well keeps polynomials sorted and in range, and what does not go well is a fault that isn't want of memory.
use Rattle.confluence.proofs.Prelude.{◌≡◌, ◌≢◌, ℕ, zero, suc, ℤ, pos, List, [], ◌∷◌, ◌++◌, Option, Some, None, Result, Ok, Err, refl, sym, ap, ◌∙◌, subst, ◌⊎◌, inl, inr, Bool, true, false, cond, length, nat_lt, All, Overflow, product_of, first_overflow, Term, poly_between, generator_at, IsOver, Compare, PolyFault, IsDescending, scaled, multiplied, multiplications, negated, shifted, products, added, sums, checked, unless_overflow, sized, size_fault, has_long_word, IsMemory, IsShaped, IsCanonical, combined, and_then, shaped-between, or_first, first-append, ranged_multiply, shaped_scale, shaped_add, sized-value, finished-value, distinct-descending, words_listed, shaped_shift, canonical_sized, IsDescending-from_recursion, recursion_from_IsDescending, descending-scaled, nonzero-scaled, shaped-negated, Rule, State, Choice, ReduceFault, rule_at, polynomials_of, entries_of, choice_of, Move, moved, move_of, move_result, move_operations, row_operations, state_operations, less_operations, if_sized, step_by, step_result, halt_of, then_next, at_limit, one_step, reduction, start_of, normal_form_of, multiplied-scaled, move_result-value, first_row, second_row, row_multiple, s_polynomial_of, passed, NormalFormsAreShaped, SPolynomialsAreShaped, RestsHaveLettersBelow, Ambiguity, term_limit}
use Rattle.nc_polynomial.specs.declared.fault.PolyFault.TheVariants as fault
use Rattle.confluence.proofs.Led.{led_or, poly_at}
use Rattle.confluence.proofs.RestLaws.{rest_over}
use Rattle.confluence.proofs.WrittenTerms.{shaped_as_written}
use Rattle.rule_reduce.specs.NormalForms as reduce

-- no overflow
no_error : {A E : Type 0} (x : A) (e : E) → ◌≡◌ {A = Result A E} (Err e) (Ok x) → ⊥
no_error x e is = cc

record NoneIn (os more : List Overflow) : Type 0 where
  first : first_overflow os ≡ None
  rest : first_overflow more ≡ None

none_in : (os more : List Overflow) → first_overflow (os ++ more) ≡ None → NoneIn os more
none_in os more none = go (first_overflow os) refl (sym (first-append os more) ∙ none)
  where
    go : (o : Option Overflow) → first_overflow os ≡ o → or_first (first_overflow os) (first_overflow more) ≡ None → NoneIn os more
    go None at e = record { first = at; rest = sym (ap (λ o. or_first o (first_overflow more)) at) ∙ e }
    go (Some x) at e = absurd (cc (sym (ap (λ o. or_first o (first_overflow more)) at) ∙ e))

fits : {A : Type 0} (os : List Overflow) (x : A) → first_overflow os ≡ None → checked os x ≡ Ok x
fits os x none = ap (λ o. unless_overflow o (Ok x)) none

none_of : {A : Type 0} (os : List Overflow) (r : Result A PolyFault) (v : A) → unless_overflow (first_overflow os) r ≡ Ok v → first_overflow os ≡ None
none_of os r v ends = (elim (first_overflow os) as (λ o. first_overflow os ≡ o → unless_overflow o r ≡ Ok v → first_overflow os ≡ None) [
  | None ↦ λ at e. at
  | Some x ↦ λ at e. absurd (no_error v (fault.Overflow x) e)
]) refl ends

-- S-polynomials
combined_shaped : (a : ℤ) (p : List Term) (b : ℤ) (q r : List Term) → IsShaped p → IsShaped q → combined a p b q ≡ Ok r → IsShaped r
combined_shaped a p b q r p_shaped q_shaped ends =
    let none = none_of (products a p ++ (products b q ++ sums (scaled a p) (scaled b q))) (sized (added (scaled a p) (scaled b q))) r ends in
    let one = none_in (products a p) (products b q ++ sums (scaled a p) (scaled b q)) none in
    let two = none_in (products b q) (sums (scaled a p) (scaled b q)) one.rest in
    subst IsShaped (finished-value (products a p ++ (products b q ++ sums (scaled a p) (scaled b q))) (added (scaled a p) (scaled b q)) r ends)
    (shaped_add (scaled a p) (scaled b q) (added (scaled a p) (scaled b q))
    (shaped_scale a p (scaled a p) p_shaped (fits (products a p) (scaled a p) one.first))
    (shaped_scale b q (scaled b q) q_shaped (fits (products b q) (scaled b q) two.first))
    (fits (sums (scaled a p) (scaled b q)) (added (scaled a p) (scaled b q)) two.rest))

pub zero_is_shaped : IsShaped []
zero_is_shaped = shaped_as_written [] tt tt tt

-- the polynomial of a rule, and zero where there is none
rule_shaped : (rules : List Rule) (n : ℕ) → IsShaped (generator_at (polynomials_of rules) n)
rule_shaped rules n = subst IsShaped (sym (poly_at rules n)) (elim (rule_at rules n) as (λ o. IsShaped (led_or o).poly) [
  | None ↦ zero_is_shaped
  | Some g ↦ g.poly.canonical.shaped
])

pub s_polynomials_are_shaped : SPolynomialsAreShaped
s_polynomials_are_shaped rules a p ends =
    let one = first_row rules a in
    let two = second_row rules a in
    let left = passed (row_multiple rules one) (λ m. and_then (row_multiple rules two) (λ n. combined one.coef m two.coef n)) p ends in
    let right = passed (row_multiple rules two) (λ n. combined one.coef left.value two.coef n) p left.rest in
    combined_shaped one.coef left.value two.coef right.value p
    (subst IsShaped (sized-value (poly_between one.left (generator_at (polynomials_of rules) a.i) one.right) left.value left.given) (shaped-between one.left one.right _ (rule_shaped rules a.i)))
    (subst IsShaped (sized-value (poly_between two.left (generator_at (polynomials_of rules) a.j) two.right) right.value right.given) (shaped-between two.left two.right _ (rule_shaped rules a.j)))
    right.rest

-- normal forms
shaped_multiply : (p : List Term) (k : ℤ) → IsShaped p → first_overflow (multiplications p k) ≡ None → IsShaped (multiplied p k)
shaped_multiply p k shaped none = record {
  descending = subst IsDescending (sym (multiplied-scaled p k)) (IsDescending-from_recursion (scaled k p) (descending-scaled k p (recursion_from_IsDescending p shaped.descending)));
  nonzero = subst (All (λ t. t.0 ≢ pos 0)) (sym (multiplied-scaled p k)) (nonzero-scaled k p);
  in_range = ranged_multiply p k (multiplied p k) (fits (multiplications p k) (multiplied p k) none);
}

move_shaped : (m : Move) (s t : State) → IsShaped m.rule → IsShaped s.rest → move_result m s ≡ Ok t → IsShaped t.rest
move_shaped m s t rule_is rest_is ends =
    let none = none_of (move_operations m s) (if_sized (sized (moved m s).rest) (moved m s)) t ends in
    let both = none_in (state_operations m.by s) (less_operations m.times m.left m.rule m.right (multiplied s.rest m.by)) none in
    let behind = none_in (product_of s.multiplier m.by ∷ []) (multiplications s.rest m.by ++ row_operations s.rows m.by) both.first in
    let state = none_in (multiplications s.rest m.by) (row_operations s.rows m.by) behind.rest in
    let less = none_in (products m.times m.rule) (sums (multiplied s.rest m.by) (negated (shifted m.times m.left m.rule m.right))) both.rest in
    let taken = shaped_shift m.times m.left m.rule m.right (shifted m.times m.left m.rule m.right) rule_is (fits (products m.times m.rule) (shifted m.times m.left m.rule m.right) less.first) in
    subst IsShaped (ap (λ (u : State). u.rest) (move_result-value m s t ends))
    (shaped_add (multiplied s.rest m.by) (negated (shifted m.times m.left m.rule m.right)) (added (multiplied s.rest m.by) (negated (shifted m.times m.left m.rule m.right)))
    (shaped_multiply s.rest m.by rest_is state.first) (shaped-negated (shifted m.times m.left m.rule m.right) taken)
    (fits (sums (multiplied s.rest m.by) (negated (shifted m.times m.left m.rule m.right))) (added (multiplied s.rest m.by) (negated (shifted m.times m.left m.rule m.right))) less.rest))

-- a value with a property, or a fault that isn't want of memory
abbrev pub Makes : {A : Type 0} → (A → Type 0) → Result A PolyFault → Type 0
Makes P (Ok x) = P x
Makes P (Err e) = IsMemory e → ⊥

abbrev pub Gives : {A : Type 0} → (A → Type 0) → Result A ReduceFault → Type 0
Gives P (Ok x) = P x
Gives P (Err e) = reduce.IsMemory e → ⊥

pub makes_too : {A : Type 0} (P Q : A → Type 0) (r : Result A PolyFault) → ((x : A) → r ≡ Ok x → P x → Q x) → Makes P r → Makes Q r
makes_too P Q (Ok x) follows makes = follows x refl makes
makes_too P Q (Err e) follows makes = makes

pub gives_too : {A : Type 0} (P Q : A → Type 0) (r : Result A ReduceFault) → ((x : A) → r ≡ Ok x → P x → Q x) → Gives P r → Gives Q r
gives_too P Q (Ok x) follows gives = follows x refl gives
gives_too P Q (Err e) follows gives = gives

-- polynomials
abbrev IsSized : List Term → Type 0
IsSized p = sized p ≡ Ok p

sized_or_not : (p : List Term) → IsSized p ⊎ ((letters : Bool) × (sized p ≡ Err (size_fault letters)))
sized_or_not p = go (has_long_word p) (nat_lt term_limit (length p))
  where
    go : (long many : Bool) → (cond long (Err (size_fault true)) (cond many (Err (size_fault false)) (Ok p)) ≡ Ok p)
        ⊎ ((letters : Bool) × (cond long (Err (size_fault true)) (cond many (Err (size_fault false)) (Ok p)) ≡ Err (size_fault letters)))
    go true many = inr (true, refl)
    go false true = inr (false, refl)
    go false false = inl refl

sized_makes : (p : List Term) → Makes IsSized (sized p)
sized_makes p = elim (sized_or_not p) [
  | inl within ↦ subst (Makes IsSized) (sym within) within
  | inr (letters, large) ↦ subst (Makes IsSized) (sym large) (λ memory. memory)
]

overflow_makes : {A : Type 0} (P : A → Type 0) (o : Option Overflow) (r : Result A PolyFault) → Makes P r → Makes P (unless_overflow o r)
overflow_makes P None r makes = makes
overflow_makes P (Some o) r makes = λ memory. memory

then_makes : (P Q : List Term → Type 0) (r : Result (List Term) PolyFault) (next : List Term → Result (List Term) PolyFault) → Makes P r → ((p : List Term) → P p → Makes Q (next p)) → Makes Q (and_then r next)
then_makes P Q (Ok p) next makes later = later p makes
then_makes P Q (Err e) next makes later = makes

-- S-polynomials
combined_makes : (a : ℤ) (p : List Term) (b : ℤ) (q : List Term) → Makes IsSized (combined a p b q)
combined_makes a p b q =
    overflow_makes IsSized (first_overflow (products a p ++ (products b q ++ sums (scaled a p) (scaled b q)))) (sized (added (scaled a p) (scaled b q))) (sized_makes (added (scaled a p) (scaled b q)))

pub s_polynomial_makes : (rules : List Rule) (a : Ambiguity) → Makes IsCanonical (s_polynomial_of rules a)
s_polynomial_makes rules a =
    makes_too IsSized IsCanonical (s_polynomial_of rules a) (λ p is within. canonical_sized p p (s_polynomials_are_shaped rules a p is) within)
    (then_makes IsSized IsSized (row_multiple rules (first_row rules a)) (λ p. and_then (row_multiple rules (second_row rules a)) (λ q. combined (first_row rules a).coef p (second_row rules a).coef q))
    (sized_makes (poly_between (first_row rules a).left (generator_at (polynomials_of rules) a.i) (first_row rules a).right)) (λ p _.
    then_makes IsSized IsSized (row_multiple rules (second_row rules a)) (λ q. combined (first_row rules a).coef p (second_row rules a).coef q)
    (sized_makes (poly_between (second_row rules a).left (generator_at (polynomials_of rules) a.j) (second_row rules a).right)) (λ q _.
    combined_makes (first_row rules a).coef p (second_row rules a).coef q)))

-- reductions
move_makes : (m : Move) (s : State) → Makes (λ t. IsSized t.rest) (move_result m s)
move_makes m s = overflow_makes (λ t. IsSized t.rest) (first_overflow (move_operations m s)) (if_sized (sized (moved m s).rest) (moved m s)) (elim (sized_or_not (moved m s).rest) [
  | inl within ↦ subst (λ r. Makes (λ t. IsSized t.rest) (if_sized r (moved m s))) (sym within) within
  | inr (letters, large) ↦ subst (λ r. Makes (λ t. IsSized t.rest) (if_sized r (moved m s))) (sym large) (λ memory. memory)
])

halt_memory : (e : PolyFault) → reduce.IsMemory (halt_of e) → IsMemory e
halt_memory (fault.Overflow o) memory = memory
halt_memory (fault.Size s) memory = memory
halt_memory (fault.Memory e) memory = memory

module _ (first : List Term) where
  -- It is sorted and in range, and it is what there was at first, or within the limits.
  abbrev IsKept : State → Type 0
  IsKept s = IsShaped s.rest × ((s.rest ≡ first) ⊎ IsSized s.rest)

  step_makes : (o : Option Rule) (c : Choice) (s : State) → IsKept s → Makes IsKept (step_by o c s)
  step_makes None c s kept = kept
  step_makes (Some g) c s kept = makes_too (λ t. IsSized t.rest) IsKept (move_result (move_of c g) s)
      (λ t is within. (move_shaped (move_of c g) s t g.poly.canonical.shaped kept.0 is, inr within)) (move_makes (move_of c g) s)

  next_gives : (r : Result State PolyFault) (next : State → Result State ReduceFault) → Makes IsKept r → ((s : State) → IsKept s → Gives IsKept (next s)) → Gives IsKept (then_next r next)
  next_gives (Ok s) next makes later = later s makes
  next_gives (Err e) next makes later = λ memory. makes (halt_memory e memory)

  module _ (compare : Compare) (rules : List Rule) (limit : ℕ) where
    reduction_gives : (n : ℕ) (s : State) → IsKept s → Gives IsKept (reduction limit compare rules n s)
    reduction_gives zero s kept = elim (choice_of compare (entries_of rules) s.rest) as (λ o. Gives IsKept (at_limit limit o s)) [
      | None ↦ kept
      | Some c ↦ λ memory. memory
    ]
    reduction_gives (suc n) s kept = go (choice_of compare (entries_of rules) s.rest) (reduction_gives n)
      where
        go : (o : Option Choice) → ((t : State) → IsKept t → Gives IsKept (reduction limit compare rules n t)) → Gives IsKept (one_step rules o s (reduction limit compare rules n))
        go None later = kept
        go (Some c) later = next_gives (step_result rules c s) (reduction limit compare rules n) (step_makes (rule_at rules c.number) c s kept) later

pub normal_forms_are_shaped : NormalFormsAreShaped
normal_forms_are_shaped compare rules p steps s shaped ends = (subst (Gives (IsKept p)) ends (reduction_gives p compare rules steps steps (start_of p) (shaped, inl refl))).0

pub normal_form_gives : (compare : Compare) (rules : List Rule) (p : List Term) (steps : ℕ) → IsCanonical p → Gives (λ s. IsCanonical s.rest) (normal_form_of compare rules p steps)
normal_form_gives compare rules p steps canonical =
    gives_too (IsKept p) (λ s. IsCanonical s.rest) (normal_form_of compare rules p steps) (λ s is kept. elim kept.1 [
      | inl same ↦ subst IsCanonical (sym same) canonical
      | inr within ↦ canonical_sized s.rest s.rest kept.0 within
    ]) (reduction_gives p compare rules steps steps (start_of p) (canonical.shaped, inl refl))

pub rests_have_letters_below : RestsHaveLettersBelow
rests_have_letters_below letters compare rules p s over reduced shaped =
    words_listed (IsOver letters) s.rest (distinct-descending s.rest (recursion_from_IsDescending s.rest shaped.descending)) shaped.nonzero
    (rest_over letters compare rules p s over reduced).at
