-- Results that are values or faults, and operations of which none overflows.
use Rattle.outcome_laws.proofs.Prelude.{◌≡◌, ◌<◌, ℕ, zero, suc, List, [], ◌∷◌, ◌++◌, length, Bool, true, false, cond, Option, Some, None, Result, Ok, Err, refl, ap, ◌∙◌, arith, All, All-head, All-tail, nat_tests, Term, generator_at, Overflow, IsCoefficient, is_coefficient, exact_value, first_overflow, PolyFault, first-fits, State, ReduceFault, halt_of, Rest, rest_with, and_then, halted, First, rows_operations, second_rows, second_rest}
use Rattle.rule_reduce.specs.declared.fault.ReduceFault.TheVariants as fault
use Rattle.traced_completion.specs.Results.{unless_overflow}

module _ {A E : Type 0} where
  pub no_value : (e : E) (x : A) → ◌≡◌ {A = Result A E} (Err e) (Ok x) → ⊥
  no_value e x is = cc

  pub same_value : (x y : A) → ◌≡◌ {A = Result A E} (Ok x) (Ok y) → x ≡ y
  same_value x y is = cc

-- what a result was that went on
pub record WentOn {A B : Type 0} (r : Result A ReduceFault) (next : A → Result B ReduceFault) (y : B) : Type 0 where
  pub value : A
  pub given : r ≡ Ok value
  pub rest : next value ≡ Ok y

pub went_on : {A B : Type 0} (r : Result A ReduceFault) (next : A → Result B ReduceFault) (y : B) → and_then r next ≡ Ok y → WentOn r next y
went_on (Ok x) next y is = record { value = x; given = refl; rest = is }
went_on (Err e) next y is = absurd (no_value e y is)

-- what ends well after it has no fault
pub failed_first : {A B : Type 0} (r : Result A ReduceFault) (f : A → B) (e : ReduceFault) → and_then r (λ x. Ok (f x)) ≡ Err e → r ≡ Err e
failed_first (Ok x) f e is = absurd (cc)
failed_first {A} {B} (Err d) f e is = ap Err (cc)

-- an S-polynomial that is no fault
pub halted_value : (r : Result (List Term) PolyFault) (p : List Term) → halted r ≡ Ok p → r ≡ Ok p
halted_value (Ok q) p is = ap Ok (same_value q p is)
halted_value (Err e) p is = absurd (no_value (halt_of e) p is)

-- What the second reduction leaves, with its rows. Where it isn't zero, no product of them overflows.
pub second_value : (f : First) (s : State) (p : List Term) (rest : Option Rest) → second_rest f s p ≡ Ok rest
    → (rest_with p (second_rows f s) ≡ rest) × (0 < length p → first_overflow (rows_operations f s) ≡ None)
second_value f s [] rest is = (same_value None rest is, λ some. absurd (omega (arith, some)))
second_value f s (t ∷ p) rest is = go (first_overflow (rows_operations f s)) refl is
  where
    go : (o : Option Overflow) → first_overflow (rows_operations f s) ≡ o → unless_overflow o (rest_with (t ∷ p) (second_rows f s)) ≡ Ok rest
        → (rest_with (t ∷ p) (second_rows f s) ≡ rest) × (0 < length (t ∷ p) → first_overflow (rows_operations f s) ≡ None)
    go None none e = (same_value (rest_with (t ∷ p) (second_rows f s)) rest e, λ some. none)
    go (Some o) first e = absurd (no_value (fault.Overflow o) rest e)

-- what holds of each generator and of zero holds of the generator with any number
pub generator_all : (P : List Term → Type 0) (ps : List (List Term)) → All P ps → P [] → (number : ℕ) → P (generator_at ps number)
generator_all P ps each none zero = none
generator_all P [] each none (suc zero) = none
generator_all P [] each none (suc (suc n)) = none
generator_all P (p ∷ ps) each none (suc zero) = All-head P p ps each
generator_all P (p ∷ ps) each none (suc (suc n)) = generator_all P ps (All-tail P p ps each) none (suc n)

-- the first of them fits, and then the others
pub fits_first : (o : Overflow) (os : List Overflow) → first_overflow (o ∷ os) ≡ None → IsCoefficient (exact_value o) × (first_overflow os ≡ None)
fits_first o os none = go (is_coefficient (exact_value o)) refl none
  where
    go : (b : Bool) → is_coefficient (exact_value o) ≡ b → cond b (first_overflow os) (Some o) ≡ None → IsCoefficient (exact_value o) × (first_overflow os ≡ None)
    go true fits e = (grind (arith, nat_tests), e)
    go false fails e = absurd (cc)

-- of two lists
pub none_append : (os more : List Overflow) → first_overflow (os ++ more) ≡ None → (first_overflow os ≡ None) × (first_overflow more ≡ None)
none_append [] more none = (refl, none)
none_append (o ∷ os) more none =
    let first = fits_first o (os ++ more) none in
    let rest = none_append os more first.1 in
    (first-fits o os first.0 ∙ rest.0, rest.1)
