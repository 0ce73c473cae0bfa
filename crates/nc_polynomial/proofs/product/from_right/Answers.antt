use Rattle.nc_polynomial.proofs.Prelude.{rules, ◌≡◌, ◌+◌, ◌≤◌, ◌*ℤ◌, ◌++◌, [], ◌∷◌, length, take, drop, Err, sym, ap, subst, ◌∙◌, drop_all, take-append-drop, IsCoefficient, Term, Explains, product_step, product_from, IsCanonical}
use Rattle.nc_polynomial.proofs.OneTerm.{behind, times_term, canonical_none, canonical-step, made-step, from-step, from-step_fault}
use Rattle.nc_polynomial.proofs.Steps.{take_next, drop_next}
use Rattle.nc_polynomial.proofs.product.from_right.Goals as goal

pub loop-factor-init : goal.loop-factor-init
loop-factor-init c = record { made = search rules; rest = search rules; canonical = search (rules, canonical_none) }

pub returns-in_err-product : goal.returns-in_err-product
returns-in_err-product c =
    let p = c.args.left.now.terms in
    let y : Term = c.args.term.now in
    let i = c.loop-factor.factor-index in
    let t : Term = c.factor-item.result in
    let sum = c.loop-factor.terms in
    let e = c.in_err-product.field-0.0 in
    let given : c.from_residual.result ≡ Err e = search rules in
    let why : Explains (product_step sum t (y ∷ [])) e = search (rules, c.in_err-product.ensures.fault sum c.loop-factor.invariant.canonical.shaped) in
    let back = drop_next p i t (search rules) (search rules) in
    rw given (subst (λ r. Explains r e) (ap (λ l. product_from sum l (y ∷ [])) (sym back) ∙ c.loop-factor.invariant.rest) (from-step_fault sum t (drop (i + 1) p) (y ∷ []) e why))

pub loop-factor-preserved : goal.loop-factor-preserved
loop-factor-preserved c =
    let p = c.args.left.now.terms in
    let y : Term = c.args.term.now in
    let i = c.loop-factor.factor-index in
    let t : Term = c.factor-item.result in
    let sum = c.loop-factor.terms in
    let front = take i p in
    let more = drop (i + 1) p in
    let next = take_next p i t (search rules) (search rules) in
    let back = drop_next p i t (search rules) (search rules) in
    let split = ap (λ rest. front ++ rest) (sym back) ∙ take-append-drop i p in
    let canonical = subst IsCanonical (sym split) c.args.left.now.canonical in
    let fits : IsCoefficient (t.0 *ℤ y.0) = search rules in
    let short : length t.1 + length y.1 ≤ 500 = search rules in
    let made = c.loop-factor.invariant.made in
    let so_far = c.loop-factor.invariant.canonical in
    let pushed : c.push.new.self ≡ sum ++ behind y t ∷ [] = search rules in
    record {
      made = pushed ∙ made-step y c.requires.nonzero front t more sum canonical made so_far fits short ∙ ap (times_term y) (sym next);
      rest =
          ap (λ s. product_from s more (y ∷ [])) pushed
          ∙ sym (from-step y c.requires.nonzero front t more sum canonical made so_far fits short)
          ∙ ap (λ l. product_from sum l (y ∷ [])) (sym back) ∙ c.loop-factor.invariant.rest;
      canonical = subst IsCanonical (sym pushed) (canonical-step y c.requires.nonzero front t more sum canonical made so_far fits short);
    }

pub returns : goal.returns
returns c =
    let p = c.args.left.now.terms in
    let y : Term = c.args.term.now in
    let all : drop c.loop-factor.factor-index p ≡ [] = drop_all c.loop-factor.factor-index p (search rules) in
    sym c.loop-factor.invariant.rest ∙ ap (λ l. product_from c.loop-factor.terms l (y ∷ [])) all
