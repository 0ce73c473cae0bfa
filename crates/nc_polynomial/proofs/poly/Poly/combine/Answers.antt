use Rattle.nc_polynomial.proofs.Prelude.{rules, FitsSigned, ◌≡◌, ℤ, List, ◌++◌, Ok, Err, sym, ◌∙◌, subst, to_z, of_z, to_z-of_z, w128, Term, poly_multiple, scaled, products, added, sums, sized, checked, Explains, combined}
use Rattle.nc_polynomial.proofs.Chains.{passes, passed_sum, explains-first, explains-last, explains-itself, ends, shaped_scale, shaped_add}
use Rattle.nc_polynomial.proofs.Results.{ok_part}
use Rattle.nc_polynomial.proofs.Values.{combination_value, merged_value}
use Rattle.nc_polynomial.proofs.poly.Poly.combine.Goals as goal

-- no product by the factor overflows, of the terms as the code holds them
products_fit : (k : ℤ) (p terms kept : List Term) → FitsSigned w128 k → terms ≡ p
    → checked (products (to_z w128 (of_z w128 k)) terms) (scaled (to_z w128 (of_z w128 k)) terms) ≡ Ok (poly_multiple (to_z w128 (of_z w128 k)) kept)
    → checked (products k p) (scaled k p) ≡ Ok (poly_multiple k kept)
products_fit k p terms kept fits same h =
    subst (λ (l : List Term). checked (products k l) (scaled k l) ≡ Ok (poly_multiple k kept)) same
    (subst (λ n. checked (products n terms) (scaled n terms) ≡ Ok (poly_multiple n kept)) (to_z-of_z w128 k fits) h)

pub returns-in_err-left-clause-exact : goal.returns-in_err-left-clause-exact
returns-in_err-left-clause-exact c =
    let a = c.args.a in
    let b = c.args.b in
    let p = c.args.p.now.terms in
    let q = c.args.q.now.terms in
    let e = c.in_err-left.field-0.0 in
    let fails : checked (products a p) (scaled a p) ≡ Err e = search rules in
    let back : c.from_residual.result ≡ Err e = search rules in
    rw back (explains-first (products a p) (products b q ++ sums (scaled a p) (scaled b q)) (scaled a p) (sized (added (scaled a p) (scaled b q))) e (explains-itself _ e fails))

pub returns-in_err-right-clause-exact : goal.returns-in_err-right-clause-exact
returns-in_err-right-clause-exact c =
    let a = c.args.a in
    let b = c.args.b in
    let p = c.args.p.now.terms in
    let q = c.args.q.now.terms in
    let sum = sized (added (scaled a p) (scaled b q)) in
    let e = c.in_err-right.field-0.0 in
    let left : checked (products a p) (scaled a p) ≡ Ok (poly_multiple a c.in_ok-left.left.now) =
    products_fit a p c.as_slice.result.now c.in_ok-left.left.now c.ranges.a c.as_slice.ensures c.in_ok-left.ensures.exact in
    let fails : checked (products b q) (scaled b q) ≡ Err e = search rules in
    let back : c.from_residual-in_err-right.result ≡ Err e = search rules in
    rw back (subst (λ r. Explains r e) (sym (passes (products a p) (products b q ++ sums (scaled a p) (scaled b q)) (scaled a p) (poly_multiple a c.in_ok-left.left.now) sum left))
    (explains-first (products b q) (sums (scaled a p) (scaled b q)) (scaled b q) sum e (explains-itself _ e fails)))

pub returns-in_err-merge_multiples-clause-exact : goal.returns-in_err-merge_multiples-clause-exact
returns-in_err-merge_multiples-clause-exact c =
    let a = c.args.a in
    let b = c.args.b in
    let p = c.args.p.now.terms in
    let q = c.args.q.now.terms in
    let l = poly_multiple a c.in_ok-left.left.now in
    let r = poly_multiple b c.in_ok-right.right.now in
    let e = c.in_err-merge_multiples.field-0.0 in
    let left : checked (products a p) (scaled a p) ≡ Ok l =
    products_fit a p c.as_slice.result.now c.in_ok-left.left.now c.ranges.a c.as_slice.ensures c.in_ok-left.ensures.exact in
    let right : checked (products b q) (scaled b q) ≡ Ok r =
    products_fit b q c.as_slice-2.result.now c.in_ok-right.right.now c.ranges.b c.as_slice-2.ensures c.in_ok-right.ensures.exact in
    let why : Explains (checked (sums l r) (added l r)) e = search rules in
    let back : c.from_residual-in_err-merge_multiples.result ≡ Err e = search rules in
    rw (back, passed_sum a p b q l r left right) (explains-last (sums l r) (added l r) (sized (added l r)) e why)

pub from_descending-requires : goal.from_descending-requires
from_descending-requires c =
    let a = c.args.a in
    let b = c.args.b in
    let p = c.args.p.now in
    let q = c.args.q.now in
    let l = poly_multiple a c.in_ok-left.left.now in
    let r = poly_multiple b c.in_ok-right.right.now in
    let left : checked (products a p.terms) (scaled a p.terms) ≡ Ok l =
    products_fit a p.terms c.as_slice.result.now c.in_ok-left.left.now c.ranges.a c.as_slice.ensures c.in_ok-left.ensures.exact in
    let right : checked (products b q.terms) (scaled b q.terms) ≡ Ok r =
    products_fit b q.terms c.as_slice-2.result.now c.in_ok-right.right.now c.ranges.b c.as_slice-2.ensures c.in_ok-right.ensures.exact in
    let merged : checked (sums l r) (added l r) ≡ Ok c.in_ok-merge_multiples.field-0 = search rules in
    shaped_add l r c.in_ok-merge_multiples.field-0 (shaped_scale a p.terms l p.canonical.shaped left) (shaped_scale b q.terms r q.canonical.shaped right) merged

pub returns-clause-exact : goal.returns-clause-exact
returns-clause-exact c =
    let a = c.args.a in
    let b = c.args.b in
    let p = c.args.p.now.terms in
    let q = c.args.q.now.terms in
    let l = poly_multiple a c.in_ok-left.left.now in
    let r = poly_multiple b c.in_ok-right.right.now in
    let left : checked (products a p) (scaled a p) ≡ Ok l =
    products_fit a p c.as_slice.result.now c.in_ok-left.left.now c.ranges.a c.as_slice.ensures c.in_ok-left.ensures.exact in
    let right : checked (products b q) (scaled b q) ≡ Ok r =
    products_fit b q c.as_slice-2.result.now c.in_ok-right.right.now c.ranges.b c.as_slice-2.ensures c.in_ok-right.ensures.exact in
    let merged : checked (sums l r) (added l r) ≡ Ok c.in_ok-merge_multiples.field-0 = search rules in
    let last : combined a p b q ≡ sized c.in_ok-merge_multiples.field-0 = passed_sum a p b q l r left right ∙ ends (sums l r) (added l r) c.in_ok-merge_multiples.field-0 merged in
    rw last c.from_descending.ensures

pub returns-clause-combination : goal.returns-clause-combination
returns-clause-combination c =
    let a = c.args.a in
    let b = c.args.b in
    let p = c.args.p.now.terms in
    let q = c.args.q.now.terms in
    let l = poly_multiple a c.in_ok-left.left.now in
    let r = poly_multiple b c.in_ok-right.right.now in
    let v = c.in_ok-merge_multiples.field-0 in
    let left : checked (products a p) (scaled a p) ≡ Ok l =
    products_fit a p c.as_slice.result.now c.in_ok-left.left.now c.ranges.a c.as_slice.ensures c.in_ok-left.ensures.exact in
    let right : checked (products b q) (scaled b q) ≡ Ok r =
    products_fit b q c.as_slice-2.result.now c.in_ok-right.right.now c.ranges.b c.as_slice-2.ensures c.in_ok-right.ensures.exact in
    let merged : checked (sums l r) (added l r) ≡ Ok v = search rules in
    ok_part c.from_descending.result _ (λ s limits. combination_value a p b q l r s.terms left right (merged_value l r v s.terms merged limits)) c.from_descending.ensures
