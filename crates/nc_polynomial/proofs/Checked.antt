-- Operations one by one, and the terms that they make.
use Rattle.std.proofs.Common.{◌≡◌, ◌≢◌, ℕ, zero, suc, ℤ, pos, negsuc, List, [], ◌∷◌, ◌++◌, Option, Some, None, Result, Ok, Err, refl, sym, ap, ◌∙◌, arith, append_assoc}
use Rattle.std.proofs.lemmas.Bool.Decides.{nat_tests}
use Rattle.definitions.specs.Poly.{Term}
use Rattle.coef_int.specs.Operations.{exact_value, first_overflow}
use Rattle.coef_int.specs.Range.{IsCoefficient}
use Rattle.coef_int.specs.declared.Overflow.{Overflow}
use Rattle.nc_polynomial.specs.Faults.{checked, unless_overflow}
use Rattle.nc_polynomial.specs.Terms.{Pair, keep, scaled, products, multiplied, multiplications, shifted, totals, total_operations}
use Rattle.nc_polynomial.specs.declared.fault.PolyFault.{PolyFault}
use Rattle.nc_polynomial.specs.declared.fault.PolyFault.TheVariants as fault

-- terms before what a call returns
abbrev pub join : List Term → Result (List Term) PolyFault → Result (List Term) PolyFault
join out (Ok xs) = Ok (out ++ xs)
join out (Err e) = Err e

-- no terms before it leave a result as it is
pub join-none : (r : Result (List Term) PolyFault) → join [] r ≡ r
join-none (Ok xs) = refl
join-none (Err e) = refl

join-append : (out a xs : List Term) (o : Option Overflow) → join out (unless_overflow o (Ok (a ++ xs))) ≡ join (out ++ a) (unless_overflow o (Ok xs))
join-append out a xs None = ap Ok (sym (append_assoc out a xs))
join-append out a xs (Some o) = refl

pub keep-append : (z : ℤ) (w : List ℕ) (xs : List Term) → keep z w xs ≡ keep z w [] ++ xs
keep-append (pos zero) w xs = refl
keep-append (pos (suc n)) w xs = refl
keep-append (negsuc n) w xs = refl

pub keep-nonzero : (z : ℤ) (w : List ℕ) (p : List Term) → z ≢ pos 0 → keep z w p ≡ (z, w) ∷ p
keep-nonzero (pos zero) w p h = absurd (h refl)
keep-nonzero (pos (suc n)) w p h = refl
keep-nonzero (negsuc n) w p h = refl

pub checked-fits : {A : Type 0} (o : Overflow) (os : List Overflow) (xs : A) → IsCoefficient (exact_value o) → checked (o ∷ os) xs ≡ checked os xs
checked-fits o os xs h = grind (arith, nat_tests)

-- one operation that fits, and the term that it makes
pub one-fits : (o : Overflow) (os : List Overflow) (w : List ℕ) (out xs : List Term) → IsCoefficient (exact_value o) → join out (checked (o ∷ os) (keep (exact_value o) w xs)) ≡ join (out ++ keep (exact_value o) w []) (checked os xs)
one-fits o os w out xs h =
    ap (join out) (checked-fits o os (keep (exact_value o) w xs) h ∙ ap (checked os) (keep-append (exact_value o) w xs))
    ∙ join-append out (keep (exact_value o) w []) xs (first_overflow os)

-- one operation that does not fit is the fault
pub one-fails : (o : Overflow) (os : List Overflow) (out xs : List Term) → ¬ IsCoefficient (exact_value o) → join out (checked (o ∷ os) xs) ≡ Err (fault.Overflow o)
one-fails o os out xs h = grind (arith, nat_tests)

abbrev pub scale_from : ℤ → List Term → Result (List Term) PolyFault
scale_from k p = checked (products k p) (scaled k p)

abbrev pub total_from : List Pair → Result (List Term) PolyFault
total_from pairs = checked (total_operations pairs) (totals pairs)

abbrev pub multiply_from : List Term → ℤ → Result (List Term) PolyFault
multiply_from p k = checked (multiplications p k) (multiplied p k)

abbrev pub shift_from : ℤ → List ℕ → List Term → List ℕ → Result (List Term) PolyFault
shift_from k l p r = checked (products k p) (shifted k l p r)
