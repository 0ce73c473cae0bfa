-- Where the arithmetic of a step ends.
use Rattle.std.proofs.Common.{ℕ, ◌+◌, ◌≡◌, ◌≤◌, ℤ, neg_ℤ, ◌*ℤ◌, List, [], ◌∷◌, ◌++◌, length, get_or, map, Option, Some, None, Result, Ok, Err, IsErr, IsErrAnd, MatchResult, ◌≢◌, pos, refl, sym, ap, ap₂, ◌∙◌, subst, arith}
use Rattle.std.proofs.Math.IntN.{*ℤ_comm}
use Rattle.std.proofs.lemmas.Int.{ints}
use Rattle.std.proofs.lemmas.List.Elements.{All-tail, All-map}
use Rattle.std.specs.List.{All}
use Rattle.definitions.specs.Poly.{Term}
use Rattle.coef_int.specs.Operations.{product_of, first_overflow}
use Rattle.coef_int.specs.Range.{IsCoefficient}
use Rattle.coef_int.specs.declared.Overflow.{Overflow}
use Rattle.traced_rows.specs.declared.Row.{Row}
use Rattle.nc_polynomial.proofs.Chains.{shaped_add, ranged_multiply, first-fits, first-append, or_first, passes, explains-first, explains-last, none_overflows, value_is, ends, finished-value}
use Rattle.nc_polynomial.proofs.Checked.{checked-fits}
use Rattle.nc_polynomial.proofs.Products.{shaped_shift}
use Rattle.nc_polynomial.proofs.Shapes.{IsDescending-from_recursion, recursion_from_IsDescending, descending-scaled, nonzero-scaled, in_range-neg_ℤ, shaped-negated}
use Rattle.nc_polynomial.proofs.Tables.{length-keep}
use Rattle.nc_polynomial.proofs.Units.{once_fits}
use Rattle.nc_polynomial.specs.Faults.{checked, unless_overflow, sized, finished, Explains, IsMemory}
use Rattle.nc_polynomial.specs.Shape.{IsShaped, IsCanonical}
use Rattle.nc_polynomial.specs.Terms.{IsDescending, keep, scaled, multiplied, multiplications, negated, shifted, products, added, sums}
use Rattle.nc_polynomial.specs.declared.fault.PolyFault.{PolyFault}
use Rattle.rule_reduce.specs.Steps.{Move, moved, move_row, move_result, row_operations, multiplied_row, multiplied_state, state_operations, less_multiple, less_operations, if_sized, IsInRange}
use Rattle.rule_reduce.specs.declared.state.State.{State}
use Rattle.nc_polynomial.specs.declared.fault.PolyFault.TheVariants as fault
use Rattle.rule_reduce.proofs.LettersKept.{each-multiplied}

pub one_checked : (a b x : ℤ) → x ≡ a *ℤ b → IsCoefficient (a *ℤ b) → checked (product_of a b ∷ []) (a *ℤ b) ≡ Ok x
one_checked a b x e h = checked-fits (product_of a b) [] (a *ℤ b) h ∙ ap Ok (sym e)

pub all-negated : (p : List Term) → All (λ t. IsCoefficient t.0) p → All (λ t. IsCoefficient t.0) (negated p)
all-negated p h = All-map (λ (t : Term). IsCoefficient t.0) (λ (t : Term). (neg_ℤ t.0, t.1)) p (λ i t k. in_range-neg_ℤ (get_or p i t).0 (h i t k))

-- want of memory explains anything
pub memory-explains : {A B : Type 0} (r : Result A PolyFault) → IsErr r × IsErrAnd r IsMemory → (P : A → Type 0) (whole : Result B PolyFault) → MatchResult r P (Explains whole)
memory-explains (Ok x) is P whole = absurd is.1
memory-explains (Err (fault.Memory m)) is P whole = tt
memory-explains (Err (fault.Overflow o)) is P whole = absurd is.1
memory-explains (Err (fault.Size s)) is P whole = absurd is.1

-- multiplied from the right is multiplied from the left
pub multiplied-scaled : (p : List Term) (k : ℤ) → multiplied p k ≡ scaled k p
multiplied-scaled [] k = refl
multiplied-scaled (t ∷ p) k = ap₂ (λ z rest. keep z t.1 rest) (*ℤ_comm t.0 k) (multiplied-scaled p k)

length-multiplied : (p : List Term) (k : ℤ) → length (multiplied p k) ≤ length p
length-multiplied [] k = omega arith
length-multiplied (t ∷ p) k =
    let rest = length-multiplied p k in
    let one = length-keep (t.0 *ℤ k) t.1 (multiplied p k) in
    omega arith

pub canonical_multiply : (p : List Term) (k : ℤ) (v : List Term) → IsCanonical p → checked (multiplications p k) (multiplied p k) ≡ Ok v → IsCanonical v
canonical_multiply p k v canonical fits =
    let value = value_is (multiplications p k) (multiplied p k) v fits in
    let same : scaled k p ≡ v = sym (multiplied-scaled p k) ∙ value in
    let fewer = length-multiplied p k in
    let few : length p ≤ 20000 = canonical.few in
    record {
      shaped = record {
        descending = subst IsDescending same (IsDescending-from_recursion (scaled k p) (descending-scaled k p (recursion_from_IsDescending p canonical.shaped.descending)));
        nonzero = subst (All (λ t. t.0 ≢ pos 0)) same (nonzero-scaled k p);
        in_range = ranged_multiply p k v fits;
      };
      short = subst (All (λ t. length t.1 ≤ 500)) value (each-multiplied (λ w. length w ≤ 500) p k canonical.short);
      few = subst (λ q. length q ≤ 20000) value (omega arith);
    }

-- times 1 everything stays, and nothing overflows
times-one : (z : ℤ) → z *ℤ pos 1 ≡ z
times-one z = omega (arith, ints)

multiplied-one : (p : List Term) → IsShaped p → multiplied p (pos 1) ≡ p
multiplied-one p shaped = multiplied-scaled p (pos 1) ∙ value_is (products (pos 1) p) (scaled (pos 1) p) p (once_fits p shaped)

fits-times-one : (z : ℤ) → IsCoefficient z → IsCoefficient (z *ℤ pos 1)
fits-times-one z fits = subst IsCoefficient (sym (times-one z)) fits

multiplications-one : (p : List Term) → All (λ t. IsCoefficient t.0) p → first_overflow (multiplications p (pos 1)) ≡ None
multiplications-one [] in_range = refl
multiplications-one (t ∷ p) in_range = first-fits (product_of t.0 (pos 1)) (multiplications p (pos 1)) (fits-times-one t.0 (in_range 0 t (omega arith))) ∙ multiplications-one p (All-tail (λ (u : Term). IsCoefficient u.0) t p in_range)

rows-one : (rows : List Row) → map (multiplied_row (pos 1)) rows ≡ rows
rows-one [] = refl
rows-one (row ∷ rows) = ap₂ (λ (z : ℤ) rest. record row { coef = z } ∷ rest) (times-one row.coef) (rows-one rows)

row_operations-one : (rows : List Row) → All (λ row. IsCoefficient row.coef) rows → first_overflow (row_operations rows (pos 1)) ≡ None
row_operations-one [] in_range = refl
row_operations-one (row ∷ rows) in_range = first-fits (product_of row.coef (pos 1)) (row_operations rows (pos 1)) (fits-times-one row.coef (in_range 0 row (omega arith))) ∙ row_operations-one rows (All-tail (λ (r : Row). IsCoefficient r.coef) row rows in_range)

pub state-times-one : (s : State) → IsInRange s → checked (state_operations (pos 1) s) (multiplied_state (pos 1) s) ≡ Ok s
state-times-one s in_range =
    let shaped = in_range.rest.shaped in
    let first = first-fits (product_of s.multiplier (pos 1)) (multiplications s.rest (pos 1) ++ row_operations s.rows (pos 1)) (fits-times-one s.multiplier in_range.multiplier) in
    let second = multiplications-one s.rest shaped.in_range in
    let third = row_operations-one s.rows in_range.rows in
    let none : first_overflow (state_operations (pos 1) s) ≡ None =
    first ∙ first-append (multiplications s.rest (pos 1)) (row_operations s.rows (pos 1)) ∙ ap₂ or_first second third in
    let multiplier = times-one s.multiplier in
    let rest = multiplied-one s.rest shaped in
    let rows = rows-one s.rows in
    ap (λ o. unless_overflow o (Ok (multiplied_state (pos 1) s))) none ∙ ap Ok (λ i. record s { multiplier = multiplier i; rest = rest i; rows = rows i })

module _ (by : ℤ) (s : State) (x : ℤ) (first_is : checked (product_of s.multiplier by ∷ []) (s.multiplier *ℤ by) ≡ Ok x) where
  abbrev all : Result State PolyFault
  all = checked (state_operations by s) (multiplied_state by s)

  after_multiplier : all ≡ unless_overflow (first_overflow (multiplications s.rest by ++ row_operations s.rows by)) (Ok (multiplied_state by s))
  after_multiplier = passes (product_of s.multiplier by ∷ []) (multiplications s.rest by ++ row_operations s.rows by) (s.multiplier *ℤ by) x (Ok (multiplied_state by s)) first_is

  pub exit_rest : (e : PolyFault) → Explains (checked (multiplications s.rest by) (multiplied s.rest by)) e → Explains all e
  exit_rest e why = subst (λ r. Explains r e) (sym after_multiplier) (explains-first (multiplications s.rest by) (row_operations s.rows by) (multiplied s.rest by) (Ok (multiplied_state by s)) e why)

  module _ (p : List Term) (rest_is : checked (multiplications s.rest by) (multiplied s.rest by) ≡ Ok p) where
    after_rest : all ≡ unless_overflow (first_overflow (row_operations s.rows by)) (Ok (multiplied_state by s))
    after_rest = after_multiplier ∙ passes (multiplications s.rest by) (row_operations s.rows by) (multiplied s.rest by) p (Ok (multiplied_state by s)) rest_is

    pub exit_rows : (e : PolyFault) → Explains (checked (row_operations s.rows by) (map (multiplied_row by) s.rows)) e → Explains all e
    exit_rows e why = subst (λ r. Explains r e) (sym after_rest) (explains-last (row_operations s.rows by) (map (multiplied_row by) s.rows) (Ok (multiplied_state by s)) e why)

    pub all_multiplied : (rows : List Row) → checked (row_operations s.rows by) (map (multiplied_row by) s.rows) ≡ Ok rows → all ≡ Ok (record { multiplier = x; rest = p; rows = rows; used = s.used })
    all_multiplied rows rows_is =
        let multiplier = value_is (product_of s.multiplier by ∷ []) (s.multiplier *ℤ by) x first_is in
        let rest = value_is (multiplications s.rest by) (multiplied s.rest by) p rest_is in
        let rows_are = value_is (row_operations s.rows by) (map (multiplied_row by) s.rows) rows rows_is in
        after_rest
        ∙ ap (λ o. unless_overflow o (Ok (multiplied_state by s))) (none_overflows (row_operations s.rows by) (map (multiplied_row by) s.rows) rows rows_is)
        ∙ ap Ok (λ i. record s { multiplier = multiplier i; rest = rest i; rows = rows_are i })

-- a polynomial less a multiple of a rule
module _ (k : ℤ) (l : List ℕ) (g : List Term) (r : List ℕ) (p : List Term) where
  abbrev pub less : Result (List Term) PolyFault
  less = finished (less_operations k l g r p) (less_multiple k l g r p)

  pub exit_shifted : (e : PolyFault) → Explains (checked (products k g) (shifted k l g r)) e → Explains less e
  exit_shifted e why = explains-first (products k g) (sums p (negated (shifted k l g r))) (shifted k l g r) (sized (less_multiple k l g r p)) e why

  module _ (q : List Term) (shifted_is : checked (products k g) (shifted k l g r) ≡ Ok q) where
    pub after_shifted : less ≡ finished (sums p (negated q)) (added p (negated q))
    after_shifted =
        passes (products k g) (sums p (negated (shifted k l g r))) (shifted k l g r) q (sized (less_multiple k l g r p)) shifted_is
        ∙ ap (λ t. finished (sums p (negated t)) (added p (negated t))) (value_is (products k g) (shifted k l g r) q shifted_is)

    pub exit_merged : (e : PolyFault) → Explains (checked (sums p (negated q)) (added p (negated q))) e → Explains less e
    exit_merged e why = subst (λ t. Explains t e) (sym after_shifted) (explains-last (sums p (negated q)) (added p (negated q)) (sized (added p (negated q))) e why)

    pub all_subtracted : (v : List Term) → checked (sums p (negated q)) (added p (negated q)) ≡ Ok v → less ≡ sized v
    all_subtracted v merged_is = after_shifted ∙ ends (sums p (negated q)) (added p (negated q)) v merged_is

    pub shaped_less : (v : List Term) → IsShaped p → IsShaped g → checked (sums p (negated q)) (added p (negated q)) ≡ Ok v → IsShaped v
    shaped_less v p_shaped g_shaped merged_is = shaped_add p (negated q) v p_shaped (shaped-negated q (shaped_shift k l g r q g_shaped shifted_is)) merged_is

-- both
if_sized-after : {A : Type 0} (o : Option Overflow) (r : Result (List Term) PolyFault) (x : A) → unless_overflow o (if_sized r x) ≡ if_sized (unless_overflow o r) x
if_sized-after None r x = refl
if_sized-after (Some o) r x = refl

explains-sized : {A : Type 0} (r : Result (List Term) PolyFault) (x : A) (e : PolyFault) → Explains r e → Explains (if_sized r x) e
explains-sized r x (fault.Memory m) why = tt
explains-sized r x _ why = ap (λ q. if_sized q x) why

module _ (m : Move) (s : State) where
  abbrev end : Result State PolyFault
  end = if_sized (sized (moved m s).rest) (moved m s)

  pub exit_multiplied : (e : PolyFault) → Explains (checked (state_operations m.by s) (multiplied_state m.by s)) e → Explains (move_result m s) e
  exit_multiplied e why = explains-first (state_operations m.by s) (less_operations m.times m.left m.rule m.right (multiplied s.rest m.by)) (multiplied_state m.by s) end e why

  module _ (t : State) (multiplied_is : checked (state_operations m.by s) (multiplied_state m.by s) ≡ Ok t) where
    after_multiplied : move_result m s ≡ if_sized (less m.times m.left m.rule m.right t.rest) (moved m s)
    after_multiplied =
        let rest = ap (λ (u : State). u.rest) (value_is (state_operations m.by s) (multiplied_state m.by s) t multiplied_is) in
        passes (state_operations m.by s) (less_operations m.times m.left m.rule m.right (multiplied s.rest m.by)) (multiplied_state m.by s) t end multiplied_is
        ∙ if_sized-after (first_overflow (less_operations m.times m.left m.rule m.right (multiplied s.rest m.by))) (sized (moved m s).rest) (moved m s)
        ∙ ap (λ p. if_sized (less m.times m.left m.rule m.right p) (moved m s)) rest

    pub exit_subtracted : (e : PolyFault) → Explains (less m.times m.left m.rule m.right t.rest) e → Explains (move_result m s) e
    exit_subtracted e why = subst (λ r. Explains r e) (sym after_multiplied) (explains-sized (less m.times m.left m.rule m.right t.rest) (moved m s) e why)

    pub step_ends : (p : List Term) → less m.times m.left m.rule m.right t.rest ≡ Ok p → move_result m s ≡ Ok (record { multiplier = t.multiplier; rest = p; rows = t.rows ++ move_row m ∷ []; used = t.used + 1 })
    step_ends p less_is =
        let state = value_is (state_operations m.by s) (multiplied_state m.by s) t multiplied_is in
        let rest : (moved m s).rest ≡ p =
        ap (λ (u : State). less_multiple m.times m.left m.rule m.right u.rest) state ∙ finished-value (less_operations m.times m.left m.rule m.right t.rest) (less_multiple m.times m.left m.rule m.right t.rest) p less_is in
        after_multiplied ∙ ap (λ r. if_sized r (moved m s)) less_is
        ∙ ap Ok (λ i. record { multiplier = (state i).multiplier; rest = rest i; rows = (state i).rows ++ move_row m ∷ []; used = (state i).used + 1 })
