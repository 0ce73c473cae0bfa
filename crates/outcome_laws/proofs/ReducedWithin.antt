-- What a reduction of a polynomial within the limits leaves is within them, and so are its multiplier and its rows.
use Rattle.outcome_laws.proofs.Prelude.{◌≡◌, ◌≤◌, ℕ, ◌+◌, ℤ, ◌*ℤ◌, ◌||◌, Bool, true, false, cond, List, [], ◌∷◌, ◌++◌, length, map, nat_lt, Some, None, Result, Ok, Err, refl, sym, subst, arith, All, nat_tests, ints, length-take, length-drop, All-nil, All-cons, All-head, All-tail, All-push, All-contains, IsCoefficient, product_of, first_overflow, gcd_of-positive_right, Term, multiplied, multiplications, negated, shifted, products, sums, has_long_word, size_fault, sized, no_error, in_range-added, Compare, Row, Rule, State, Choice, IsRule, rule_at, entries_of, choice_of, Move, move_row, multiplied_row, row_operations, state_operations, less_operations, moved, move_of, start_of, normal_form_of, found, rule_at-all, word_limit, term_limit, ReduceFault}
use Rattle.outcome_laws.proofs.ReductionWalks.{MoveGoes, move_goes, reduction_ends}
use Rattle.outcome_laws.proofs.Results.{fits_first, none_append}
use Rattle.outcome_laws.proofs.EvidenceRanges.{quotient_in_range}

-- no word has more letters than the limit, and the integers are coefficients
pub record Fits (p : List Term) : Type 0 where
  pub short : All (λ t. length t.1 ≤ word_limit) p
  pub in_range : All (λ t. IsCoefficient t.0) p

none_long : (p : List Term) → has_long_word p ≡ false → All (λ t. length t.1 ≤ word_limit) p
none_long [] none = All-nil (λ (t : Term). length t.1 ≤ word_limit)
none_long (t ∷ p) none =
    let both = or_false (nat_lt word_limit (length t.1)) (has_long_word p) none in
    All-cons (λ (u : Term). length u.1 ≤ word_limit) t p (grind (arith, nat_tests)) (none_long p both.1)
  where
    or_false : (a b : Bool) → a || b ≡ false → (a ≡ false) × (b ≡ false)
    or_false true b e = absurd (cc)
    or_false false b e = (refl, e)

pub sized_short : (p v : List Term) → sized p ≡ Ok v → All (λ t. length t.1 ≤ word_limit) p
sized_short p v ends = go (has_long_word p) refl (nat_lt term_limit (length p)) ends
  where
    go : (long : Bool) → has_long_word p ≡ long → (many : Bool) → cond long (Err (size_fault true)) (cond many (Err (size_fault false)) (Ok p)) ≡ Ok v → All (λ t. length t.1 ≤ word_limit) p
    go true is many k = absurd (no_error v (size_fault true) (sym k))
    go false is many k = none_long p is

-- a step that goes well
record StepFits (m : Move) (s : State) : Type 0 where
  multiplier : IsCoefficient (s.multiplier *ℤ m.by)
  rows : first_overflow (row_operations s.rows m.by) ≡ None
  rest : Fits (moved m s).rest

step_fits : (m : Move) (s t : State) → MoveGoes m s t → StepFits m s
step_fits m s t goes =
    let both = none_append (state_operations m.by s) (less_operations m.times m.left m.rule m.right (multiplied s.rest m.by)) goes.none in
    let first = fits_first (product_of s.multiplier m.by) (multiplications s.rest m.by ++ row_operations s.rows m.by) both.0 in
    let rows = none_append (multiplications s.rest m.by) (row_operations s.rows m.by) first.1 in
    let less = none_append (products m.times m.rule) (sums (multiplied s.rest m.by) (negated (shifted m.times m.left m.rule m.right))) both.1 in
    record {
      multiplier = first.0;
      rows = rows.1;
      rest = record {
        short = sized_short (moved m s).rest goes.size goes.fits;
        in_range = in_range-added (multiplied s.rest m.by) (negated (shifted m.times m.left m.rule m.right)) less.1;
      };
    }

-- a coefficient, and words of no more letters than the limit
pub record IsShortRow (r : Row) : Type 0 where
  pub coefficient : IsCoefficient r.coef
  pub left : length r.left ≤ word_limit
  pub right : length r.right ≤ word_limit

pub record FitsState (s : State) : Type 0 where
  pub multiplier : IsCoefficient s.multiplier
  pub rest : Fits s.rest
  pub rows : All IsShortRow s.rows

pub short_multiplied : (rows : List Row) (by : ℤ) → first_overflow (row_operations rows by) ≡ None → All IsShortRow rows → All IsShortRow (map (multiplied_row by) rows)
short_multiplied [] by none each = All-nil IsShortRow
short_multiplied (r ∷ rows) by none each =
    let first = fits_first (product_of r.coef by) (row_operations rows by) none in
    let row = All-head IsShortRow r rows each in
    All-cons IsShortRow (multiplied_row by r) (map (multiplied_row by) rows) (record { coefficient = first.0; left = row.left; right = row.right })
    (short_multiplied rows by first.1 (All-tail IsShortRow r rows each))

module _ (letters : ℕ) (compare : Compare) (rules : List Rule) (are : All (IsRule letters compare) rules) where
  state_keeps : (c : Choice) (g : Rule) (s : State) → choice_of compare (entries_of rules) s.rest ≡ Some c → rule_at rules c.number ≡ Some g → StepFits (move_of c g) s → FitsState s → FitsState (moved (move_of c g) s)
  state_keeps c g s chosen has step before =
      let term = (found compare rules s.rest c chosen).term in
      let word : length c.word ≤ word_limit = All-contains (λ (t : Term). length t.1 ≤ word_limit) s.rest (c.coefficient, c.word) before.rest.short term in
      let coefficient : IsCoefficient c.coefficient = All-contains (λ (t : Term). IsCoefficient t.0) s.rest (c.coefficient, c.word) before.rest.in_range term in
      let leading = (rule_at-all (IsRule letters compare) rules c.number g has are).positive in
      record {
        multiplier = step.multiplier;
        rest = step.rest;
        rows = All-push IsShortRow (map (multiplied_row (move_of c g).by) s.rows) (move_row (move_of c g)) (short_multiplied s.rows (move_of c g).by step.rows before.rows)
            (record {
              coefficient = quotient_in_range c.coefficient _ (gcd_of-positive_right c.coefficient g.leading leading) coefficient;
              left = omega (arith, length-take c.place c.word, word);
              right = omega (arith, length-drop (c.place + length g.lead) c.word, word);
            });
      }

  abbrev Within : State → Result State ReduceFault → Type 0
  Within s (Ok t) = FitsState s → FitsState t
  Within s (Err e) = Unit {0}

  one_earlier : (s t : State) (r : Result State ReduceFault) → (FitsState s → FitsState t) → Within t r → Within s r
  one_earlier s t (Ok u) step later = λ fits. later (step fits)
  one_earlier s t (Err e) step later = tt

  pub reduced_within : (p : List Term) (steps : ℕ) (s : State) → Fits p → normal_form_of compare rules p steps ≡ Ok s → FitsState s
  reduced_within p steps s fits ends =
      subst (Within (start_of p)) ends
      (reduction_ends compare rules steps (λ n s r. Within s r) (λ n s none fits. fits) (λ s c chosen. tt) (λ n s c g e chosen numbered fails. tt)
      (λ n s t c g r chosen numbered ends later.
      let goes = move_goes (move_of c g) s t ends in
      one_earlier s t r (λ fits. subst FitsState goes.is (state_keeps c g s chosen numbered (step_fits (move_of c g) s t goes) fits)) later)
      steps (start_of p)) (record { multiplier = omega (arith, ints); rest = fits; rows = All-nil IsShortRow })
