-- The first line is within the limits, since the claim is.
use Rattle.equation_chain.proofs.Prelude.{◌≡◌, ℕ, zero, suc, ◌≤◌, ℤ, pos, negsuc, ◌*ℤ◌, true, false, List, [], ◌∷◌, length, None, Ok, Err, sym, ap, subst, ◌∙◌, arith, ltb, ltb-true, if◌then◌else◌, nat_lt, false_from_ne_true, first_overflow, Term, PolyFault, IsCanonical, keep, scaled, products, size_fault, sized, unless_overflow, Explains, multiple_result, no_error, finished-value, not_long, all-scaled, ChainFault, IsMemory, Tells}
use Rattle.nc_polynomial.specs.declared.fault.PolyFault.TheVariants as poly

length-keep : (z : ℤ) (w : List ℕ) (p : List Term) → length (keep z w p) ≤ suc (length p)
length-keep (pos zero) w p = omega arith
length-keep (pos (suc n)) w p = omega arith
length-keep (negsuc n) w p = omega arith

length-scaled : (k : ℤ) (p : List Term) → length (scaled k p) ≤ length p
length-scaled k [] = omega arith
length-scaled k (t ∷ p) =
    let rest = length-scaled k p in
    let more = length-keep (k *ℤ t.0) t.1 (scaled k p) in
    omega (arith, rest, more)

fits : (k : ℤ) (p : List Term) → IsCanonical p → sized (scaled k p) ≡ Ok (scaled k p)
fits k p canonical =
    let q : List Term = scaled k p in
    let few = canonical.few in
    let fewer = length-scaled k p in
    let none : ltb 20000 (length q) ≡ false = false_from_ne_true (ltb 20000 (length q)) (λ is. let many = ltb-true 20000 (length q) is in omega (arith, few, fewer, many)) in
    ap (λ b. if b then Err (size_fault true) else (if nat_lt 20000 (length q) then Err (size_fault false) else Ok q)) (not_long q (all-scaled (λ w. length w ≤ 500) k p canonical.short))
    ∙ ap (λ b. if b then Err (size_fault false) else Ok q) none

multiple_is : (k : ℤ) (p : List Term) → IsCanonical p → first_overflow (products k p) ≡ None → multiple_result k p ≡ Ok (scaled k p)
multiple_is k p canonical none = ap (λ o. unless_overflow o (sized (scaled k p))) none ∙ fits k p canonical

-- only memory can fail
pub multiple_fails : (k : ℤ) (p : List Term) → IsCanonical p → first_overflow (products k p) ≡ None → (number : ℕ) (e : PolyFault) (f : ChainFault) → Explains (multiple_result k p) e → Tells number e f → IsMemory f
multiple_fails k p canonical none number (poly.Overflow o) f is tells = absurd (no_error (scaled k p) (poly.Overflow o) (sym (multiple_is k p canonical none) ∙ is))
multiple_fails k p canonical none number (poly.Size s) f is tells = absurd (no_error (scaled k p) (poly.Size s) (sym (multiple_is k p canonical none) ∙ is))
multiple_fails k p canonical none number (poly.Memory e) f is tells = subst IsMemory (sym tells) tt

pub multiple_value : (k : ℤ) (p v : List Term) → multiple_result k p ≡ Ok v → v ≡ scaled k p
multiple_value k p v is = sym (finished-value (products k p) (scaled k p) v is)
