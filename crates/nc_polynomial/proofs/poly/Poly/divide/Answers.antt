use Rattle.nc_polynomial.proofs.Prelude.{rules, FitsSigned, ◌≡◌, ◌+◌, ◌++◌, [], ◌∷◌, ◌<◌, length, get_or, take, sym, ap, ap₂, subst, ◌∙◌, arith, to_z, of_z, fits_signed_from_abs, to_z-of_z, take_all, ◌∣◌, w128, unsigned_abs, int_div, IsCoefficient, Term, poly_multiple}
use Rattle.nc_polynomial.proofs.Divisors.{quotient_in, quotient_times, canonical_back, multiple-append}
use Rattle.nc_polynomial.proofs.Steps.{take_next}
use Rattle.nc_polynomial.proofs.poly.Poly.divide.Goals as goal

pub nonzero_div-term : goal.nonzero_div-term
nonzero_div-term c =
    let p = c.args.self.now.terms in
    let t : Term = c.term-item.result in
    let k = c.args.by in
    let same = c.as_slice-term-items.ensures in
    let item : t ≡ get_or p c.loop-term.term-index t = c.term-item.is ∙ ap (λ xs. get_or xs c.loop-term.term-index t) same in
    let inside : c.loop-term.term-index < length p = omega (arith, ap length same) in
    let divides : unsigned_abs k ∣ unsigned_abs t.0 = subst (λ (u : Term). unsigned_abs k ∣ unsigned_abs u.0) (sym item) (c.requires.divides c.loop-term.term-index t inside) in
    let in_range : IsCoefficient t.0 = subst (λ (u : Term). IsCoefficient u.0) (sym item) (c.args.self.now.canonical.shaped.in_range c.loop-term.term-index t inside) in
    let fits : FitsSigned w128 (int_div t.0 k) = fits_signed_from_abs w128 (int_div t.0 k) (quotient_in t.0 k in_range c.requires.nonzero divides) in
    let back = to_z-of_z w128 k c.ranges.by in
    (search rules, subst (λ z. FitsSigned w128 (int_div z (to_z w128 (of_z w128 k)))) (sym (to_z-of_z w128 t.0 (fits_signed_from_abs w128 t.0 in_range))) (subst (λ z. FitsSigned w128 (int_div t.0 z)) (sym back) fits))

pub loop-term-preserved : goal.loop-term-preserved
loop-term-preserved c =
    let p = c.args.self.now.terms in
    let i = c.loop-term.term-index in
    let t : Term = c.term-item.result in
    let k = c.args.by in
    let same = c.as_slice-term-items.ensures in
    let inside : i < length p = omega (arith, ap length same) in
    let item : t ≡ get_or p i t = c.term-item.is ∙ ap (λ xs. get_or xs i t) same in
    let divides : unsigned_abs k ∣ unsigned_abs t.0 = subst (λ (u : Term). unsigned_abs k ∣ unsigned_abs u.0) (sym item) (c.requires.divides i t inside) in
    let pushed : c.push.new.self ≡ c.loop-term.quotients ++ (int_div t.0 k, t.1) ∷ [] = search rules in
    let back = to_z-of_z w128 k c.ranges.by in
    let kept : poly_multiple k c.loop-term.quotients ≡ take i p = subst (λ z. poly_multiple z c.loop-term.quotients ≡ take i p) back c.loop-term.invariant in
    let front : take (i + 1) p ≡ take i p ++ t ∷ [] = take_next p i t inside item in
    let same : poly_multiple k c.push.new.self ≡ take (i + 1) p =
    ap (poly_multiple k) pushed ∙ multiple-append k c.loop-term.quotients (int_div t.0 k, t.1)
    ∙ ap₂ (λ q z. q ++ (z, t.1) ∷ []) kept (quotient_times t.0 k divides) ∙ sym front in
    subst (λ z. poly_multiple z c.push.new.self ≡ take (i + 1) p) (sym back) same

pub invariant_of-result : goal.invariant_of-result
invariant_of-result c =
    let p = c.args.self.now.terms in
    let kept : poly_multiple c.args.by c.loop-term.quotients ≡ take c.loop-term.term-index p =
    subst (λ z. poly_multiple z c.loop-term.quotients ≡ take c.loop-term.term-index p) (to_z-of_z w128 c.args.by c.ranges.by) c.loop-term.invariant in
    let whole : poly_multiple c.args.by c.loop-term.quotients ≡ p = kept ∙ take_all c.loop-term.term-index p (omega (arith, ap length c.as_slice-term-items.ensures)) in
    record { canonical = canonical_back c.args.by c.requires.nonzero c.loop-term.quotients p whole c.args.self.now.canonical }

pub returns : goal.returns
returns c =
    let p = c.args.self.now.terms in
    let kept : poly_multiple c.args.by c.loop-term.quotients ≡ take c.loop-term.term-index p =
    subst (λ z. poly_multiple z c.loop-term.quotients ≡ take c.loop-term.term-index p) (to_z-of_z w128 c.args.by c.ranges.by) c.loop-term.invariant in
    kept ∙ take_all c.loop-term.term-index p (omega (arith, ap length c.as_slice-term-items.ensures))
