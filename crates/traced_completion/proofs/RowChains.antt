-- Products of rows, one list after another, and the first that overflows.
use Rattle.traced_completion.proofs.Prelude.{◌≡◌, List, ◌++◌, Option, Some, None, Result, Ok, Err, sym, ap, ◌∙◌, subst, Overflow, first_overflow, or_first, first-append, Row, State, ReduceFault, row_operations, Explains, unless_overflow, First, less_rows, first_rows, second_rows, rows_operations}
use Rattle.rule_reduce.specs.declared.fault.ReduceFault.TheVariants as fault

no_error : {A : Type 0} (x : A) (e : ReduceFault) → ◌≡◌ {A = Result A ReduceFault} (Ok x) (Err e) → ⊥
no_error x e is = cc

same_value : {A : Type 0} (x y : A) → ◌≡◌ {A = Result A ReduceFault} (Ok x) (Ok y) → x ≡ y
same_value x y is = cc

-- a value has no fault
none_explains : {A B : Type 0} (x : A) (r : Result B ReduceFault) (e : ReduceFault) → Explains {A = A} (Ok x) e → Explains r e
none_explains x r (fault.Steps limit) why = absurd (no_error x (fault.Steps limit) why)
none_explains x r (fault.Overflow o) why = absurd (no_error x (fault.Overflow o) why)
none_explains x r (fault.Size s) why = absurd (no_error x (fault.Size s) why)
none_explains x r (fault.Memory e) why = tt

-- a fault is the same whatever would have come
same_fault : (A B : Type 0) (o : Overflow) (e : ReduceFault) → Explains {A = A} (Err (fault.Overflow o)) e → Explains {A = B} (Err (fault.Overflow o)) e
same_fault A B o (fault.Steps limit) why = absurd (other why)
  where
    other : ◌≡◌ {A = Result A ReduceFault} (Err (fault.Overflow o)) (Err (fault.Steps limit)) → ⊥
    other is = cc
same_fault A B o (fault.Overflow p) why = same why
  where
    same : ◌≡◌ {A = Result A ReduceFault} (Err (fault.Overflow o)) (Err (fault.Overflow p)) → ◌≡◌ {A = Result B ReduceFault} (Err (fault.Overflow o)) (Err (fault.Overflow p))
    same is = cc
same_fault A B o (fault.Size s) why = absurd (other why)
  where
    other : ◌≡◌ {A = Result A ReduceFault} (Err (fault.Overflow o)) (Err (fault.Size s)) → ⊥
    other is = cc
same_fault A B o (fault.Memory e) why = tt

pub other_explains : {A B : Type 0} (o : Option Overflow) (x : A) (y : B) (e : ReduceFault) → Explains (unless_overflow o x) e → Explains (unless_overflow o y) e
other_explains None x y e why = none_explains x (Ok y) e why
other_explains (Some o) x y e why = same_fault _ _ o e why

-- the first fault of the first operations is that of all
pub first_explains : {A B : Type 0} (os more : List Overflow) (x : A) (y : B) (e : ReduceFault) → Explains (unless_overflow (first_overflow os) x) e → Explains (unless_overflow (first_overflow (os ++ more)) y) e
first_explains os more x y e why = subst (λ o. Explains (unless_overflow o y) e) (sym (first-append os more)) (go (first_overflow os) why)
  where
    go : (o : Option Overflow) → Explains (unless_overflow o x) e → Explains (unless_overflow (or_first o (first_overflow more)) y) e
    go None k = none_explains x (unless_overflow (first_overflow more) y) e k
    go (Some o) k = same_fault _ _ o e k

-- where the first operations give a value, the others are left
pub first_passes : {A B : Type 0} (os more : List Overflow) (x v : A) (y : B) → unless_overflow (first_overflow os) x ≡ Ok v → unless_overflow (first_overflow (os ++ more)) y ≡ unless_overflow (first_overflow more) y
first_passes os more x v y is = ap (λ o. unless_overflow o y) (first-append os more) ∙ go (first_overflow os) is
  where
    go : (o : Option Overflow) → unless_overflow o x ≡ Ok v → unless_overflow (or_first o (first_overflow more)) y ≡ unless_overflow (first_overflow more) y
    go None k = λ _. unless_overflow (first_overflow more) y
    go (Some o) k = absurd (no_error v (fault.Overflow o) (sym k))

pub value_of : {A : Type 0} (os : List Overflow) (x v : A) → unless_overflow (first_overflow os) x ≡ Ok v → x ≡ v
value_of os x v is = go (first_overflow os) is
  where
    go : (o : Option Overflow) → unless_overflow o x ≡ Ok v → x ≡ v
    go None k = same_value x v k
    go (Some o) k = absurd (no_error v (fault.Overflow o) (sym k))

pub other_value : {A B : Type 0} (o : Option Overflow) (x v : A) (y : B) → unless_overflow o x ≡ Ok v → unless_overflow o y ≡ Ok y
other_value None x v y is = λ _. Ok y
other_value (Some o) x v y is = absurd (no_error v (fault.Overflow o) (sym is))

-- the rows of a record
module _ (f : First) (s : State) where
  abbrev pub all_rows : Result (List Row) ReduceFault
  all_rows = unless_overflow (first_overflow (rows_operations f s)) (second_rows f s)

  pub first_fault : (e : ReduceFault) → Explains (unless_overflow (first_overflow (row_operations f.rows f.reduced.multiplier)) (first_rows f)) e → Explains all_rows e
  first_fault e why = first_explains (row_operations f.rows f.reduced.multiplier) (row_operations (first_rows f) s.multiplier) (first_rows f) (second_rows f s) e why

  pub second_left : (v : List Row) → unless_overflow (first_overflow (row_operations f.rows f.reduced.multiplier)) (first_rows f) ≡ Ok v
      → unless_overflow (first_overflow (row_operations v s.multiplier)) (less_rows v s.multiplier s.rows) ≡ all_rows
  second_left v is =
      let value = value_of (row_operations f.rows f.reduced.multiplier) (first_rows f) v is in
      sym (
      first_passes (row_operations f.rows f.reduced.multiplier) (row_operations (first_rows f) s.multiplier) (first_rows f) v (second_rows f s) is
      ∙ ap (λ rows. unless_overflow (first_overflow (row_operations rows s.multiplier)) (less_rows rows s.multiplier s.rows)) value
      )
