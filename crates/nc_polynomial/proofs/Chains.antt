-- Operations in several parts: a fault of an earlier part is that of the whole.
use Rattle.std.proofs.Common.{◌≡◌, ℕ, ℤ, true, false, List, [], ◌∷◌, ◌++◌, Option, Some, None, Result, Ok, Err, refl, ap, ap₂, subst, ◌∙◌, cond, arith}
use Rattle.std.proofs.lemmas.Bool.Decides.{nat_tests}
use Rattle.std.proofs.lemmas.List.{append-nil}
use Rattle.std.specs.List.{All}
use Rattle.definitions.specs.Poly.{Term}
use Rattle.coef_int.specs.Operations.{exact_value, first_overflow}
use Rattle.coef_int.specs.Range.{IsCoefficient, is_coefficient}
use Rattle.coef_int.specs.declared.Overflow.{Overflow}
use Rattle.nc_polynomial.specs.Arithmetic.{combined, sum_result}
use Rattle.nc_polynomial.specs.Faults.{checked, unless_overflow, sized, finished, Explains}
use Rattle.nc_polynomial.specs.Shape.{IsShaped}
use Rattle.nc_polynomial.specs.Terms.{scaled, products, multiplied, multiplications, shifted, added, sums}
use Rattle.nc_polynomial.specs.declared.fault.PolyFault.{PolyFault}
use Rattle.nc_polynomial.specs.declared.fault.PolyFault.TheVariants as fault
use Rattle.nc_polynomial.proofs.Shapes.{shaped-scaled, shaped-added, in_range-scaled, in_range-multiplied, in_range-shifted, in_range-added}

abbrev pub or_first : Option Overflow → Option Overflow → Option Overflow
or_first None later = later
or_first (Some o) later = Some o

pub first-append : (os more : List Overflow) → first_overflow (os ++ more) ≡ or_first (first_overflow os) (first_overflow more)
first-append [] more = refl
first-append (o ∷ os) more =
    elim (is_coefficient (exact_value o)) as (λ b. cond b (first_overflow (os ++ more)) (Some o) ≡ or_first (cond b (first_overflow os) (Some o)) (first_overflow more))
    [ true ↦ first-append os more | false ↦ refl ]

-- an operation that fits is passed over
pub first-fits : (o : Overflow) (os : List Overflow) → IsCoefficient (exact_value o) → first_overflow (o ∷ os) ≡ first_overflow os
first-fits o os fits = grind (arith, nat_tests)

-- one that does not is the first
pub first-fails : (o : Overflow) (os : List Overflow) → ¬ IsCoefficient (exact_value o) → first_overflow (o ∷ os) ≡ Some o
first-fails o os fails = grind (arith, nat_tests)

pub no_error : {A : Type 0} (x : A) (e : PolyFault) → ◌≡◌ {A = Result A PolyFault} (Ok x) (Err e) → ⊥
no_error x e h = cc

-- no operation of an Ok overflowed, and its value is that of the definition
pub none_overflows : {A : Type 0} (os : List Overflow) (x v : A) → checked os x ≡ Ok v → first_overflow os ≡ None
none_overflows os x v h = (elim (first_overflow os) as (λ f. unless_overflow f (Ok x) ≡ Ok v → f ≡ None) [ None ↦ λ k. refl | Some o ↦ λ k. absurd (cc) ]) h

pub value_is : {A : Type 0} (os : List Overflow) (x v : A) → checked os x ≡ Ok v → x ≡ v
value_is os x v h = (elim (first_overflow os) as (λ f. unless_overflow f (Ok x) ≡ Ok v → x ≡ v) [ None ↦ λ k. cc | Some o ↦ λ k. absurd (cc) ]) h

-- a first part that went well is passed over
pub passes : {A B : Type 0} (os more : List Overflow) (x v : A) (r : Result B PolyFault) → checked os x ≡ Ok v → unless_overflow (first_overflow (os ++ more)) r ≡ unless_overflow (first_overflow more) r
passes os more x v r h = ap (λ f. unless_overflow f r) (first-append os more ∙ ap (λ f. or_first f (first_overflow more)) (none_overflows os x v h))

pub explains-itself : {A : Type 0} (r : Result A PolyFault) (e : PolyFault) → r ≡ Err e → Explains r e
explains-itself r (fault.Memory m) h = tt
explains-itself r _ h = h

-- a fault of the first part is that of the whole
pub explains-first : {A B : Type 0} (os more : List Overflow) (x : A) (r : Result B PolyFault) (e : PolyFault) → Explains (checked os x) e → Explains (unless_overflow (first_overflow (os ++ more)) r) e
explains-first os more x r (fault.Overflow o) h =
    ap (λ f. unless_overflow f r) (first-append os more)
    ∙ (elim (first_overflow os) as (λ f. unless_overflow f (Ok x) ≡ Err (fault.Overflow o) → unless_overflow (or_first f (first_overflow more)) r ≡ Err (fault.Overflow o))
    [ None ↦ λ k. absurd (cc) | Some n ↦ λ k. cc ]) h
explains-first os more x r (fault.Size s) h = absurd ((elim (first_overflow os) as (λ f. unless_overflow f (Ok x) ≡ Err (fault.Size s) → ⊥) [ None ↦ λ k. cc | Some n ↦ λ k. cc ]) h)
explains-first os more x r (fault.Memory m) h = tt

pub explains-last : {A B : Type 0} (os : List Overflow) (x : A) (r : Result B PolyFault) (e : PolyFault) → Explains (checked os x) e → Explains (unless_overflow (first_overflow os) r) e
explains-last os x r e h = subst (λ l. Explains (unless_overflow (first_overflow l) r) e) (append-nil os) (explains-first os [] x r e h)

pub shaped_scale : (k : ℤ) (p v : List Term) → IsShaped p → checked (products k p) (scaled k p) ≡ Ok v → IsShaped v
shaped_scale k p v h e = subst IsShaped (value_is (products k p) (scaled k p) v e) (shaped-scaled k p (none_overflows (products k p) (scaled k p) v e) h)

pub shaped_add : (p q v : List Term) → IsShaped p → IsShaped q → checked (sums p q) (added p q) ≡ Ok v → IsShaped v
shaped_add p q v h k e = subst IsShaped (value_is (sums p q) (added p q) v e) (shaped-added p q (none_overflows (sums p q) (added p q) v e) h k)

-- the last part went well: what is left is the size
pub ends : (os : List Overflow) (x v : List Term) → checked os x ≡ Ok v → finished os x ≡ sized v
ends os x v h = ap (λ f. unless_overflow f (sized x)) (none_overflows os x v h) ∙ ap sized (value_is os x v h)

pub passed : (a : ℤ) (p : List Term) (b : ℤ) (q l r : List Term) → checked (products a p) (scaled a p) ≡ Ok l → checked (products b q) (scaled b q) ≡ Ok r → combined a p b q ≡ finished (sums (scaled a p) (scaled b q)) (added (scaled a p) (scaled b q))
passed a p b q l r h k =
    passes (products a p) (products b q ++ sums (scaled a p) (scaled b q)) (scaled a p) l (sized (added (scaled a p) (scaled b q))) h
    ∙ passes (products b q) (sums (scaled a p) (scaled b q)) (scaled b q) r (sized (added (scaled a p) (scaled b q))) k

pub passed_sum : (a : ℤ) (p : List Term) (b : ℤ) (q l r : List Term) → checked (products a p) (scaled a p) ≡ Ok l → checked (products b q) (scaled b q) ≡ Ok r → combined a p b q ≡ sum_result l r
passed_sum a p b q l r h k = passed a p b q l r h k ∙ ap₂ sum_result (value_is (products a p) (scaled a p) l h) (value_is (products b q) (scaled b q) r k)

-- a polynomial within the limits is returned
pub sized-value : (x v : List Term) → sized x ≡ Ok v → x ≡ v
sized-value x v h = grind arith

pub finished-value : (os : List Overflow) (x v : List Term) → finished os x ≡ Ok v → x ≡ v
finished-value os x v h = (elim (first_overflow os) as (λ o. unless_overflow o (sized x) ≡ Ok v → x ≡ v) [ None ↦ sized-value x v | Some o ↦ λ k. absurd (cc) ]) h

pub ranged_multiply : (p : List Term) (k : ℤ) (v : List Term) → checked (multiplications p k) (multiplied p k) ≡ Ok v → All (λ t. IsCoefficient t.0) v
ranged_multiply p k v e = subst (All (λ t. IsCoefficient t.0)) (value_is (multiplications p k) (multiplied p k) v e) (in_range-multiplied p k (none_overflows (multiplications p k) (multiplied p k) v e))

pub ranged_shift : (k : ℤ) (l : List ℕ) (p : List Term) (r : List ℕ) (v : List Term) → checked (products k p) (shifted k l p r) ≡ Ok v → All (λ t. IsCoefficient t.0) v
ranged_shift k l p r v e = subst (All (λ t. IsCoefficient t.0)) (value_is (products k p) (shifted k l p r) v e) (in_range-shifted k l p r (none_overflows (products k p) (shifted k l p r) v e))

pub ranged_add : (p q v : List Term) → checked (sums p q) (added p q) ≡ Ok v → All (λ t. IsCoefficient t.0) v
ranged_add p q v e = subst (All (λ t. IsCoefficient t.0)) (value_is (sums p q) (added p q) v e) (in_range-added p q (none_overflows (sums p q) (added p q) v e))

pub ranged_scale : (k : ℤ) (p v : List Term) → checked (products k p) (scaled k p) ≡ Ok v → All (λ t. IsCoefficient t.0) v
ranged_scale k p v e = subst (All (λ t. IsCoefficient t.0)) (value_is (products k p) (scaled k p) v e) (in_range-scaled k p (none_overflows (products k p) (scaled k p) v e))
