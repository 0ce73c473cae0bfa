use Rattle.nc_polynomial.proofs.Prelude.{rules, ◌≡◌, pos, ◌+◌, ◌++◌, [], ◌∷◌, length, take, get_or, to_z, of_z, sym, ap, subst, ◌∙◌, arith, take_all, IsGcd, unsigned_abs, Term, IsContent}
use mir.Syntax.{w128}
use Rattle.nc_polynomial.proofs.Divisors.{content-more, content-one, content-zero}
use Rattle.nc_polynomial.proofs.Steps.{take_next}
use Rattle.nc_polynomial.proofs.poly.Poly.content.Goals as goal

pub loop-term-preserved : goal.loop-term-preserved
loop-term-preserved c =
    let p = c.args.self.now.terms in
    let i = c.loop-term.term-index in
    let t : Term = c.term-item.result in
    let old = c.loop-term.divisor in
    let new = c.gcd-divisor.result in
    let same = c.as_slice-term-items.ensures in
    let back_t : to_z w128 (of_z w128 t.0) ≡ t.0 = search rules in
    let back_new : to_z w128 (of_z w128 new) ≡ new = search rules in
    let gcd : IsGcd (unsigned_abs old) (unsigned_abs t.0) (unsigned_abs new) = rw (c.loop-term.divisor-is, back_t) at c.gcd-divisor.ensures.divisor in
    let before : IsContent (take i p) old = subst (IsContent (take i p)) c.loop-term.divisor-is c.loop-term.invariant.content in
    let front : take (i + 1) p ≡ take i p ++ t ∷ [] = take_next p i t (omega (arith, ap length same)) (c.term-item.is ∙ ap (λ xs. get_or xs i t) same) in
    let after : IsContent (take (i + 1) p) new = subst (λ q. IsContent q new) (sym front) (content-more (take i p) old t new before gcd c.gcd-divisor.ensures.sign) in
    record { content = subst (IsContent (take (i + 1) p)) (sym back_new) after; in_range = search rules }

-- the divisor at the end
whole : (c : goal.After-loop-term) → IsContent c.args.self.now.terms (to_z w128 c.loop-term.divisor-bits)
whole c =
    subst (λ q. IsContent q (to_z w128 c.loop-term.divisor-bits))
    (take_all c.loop-term.term-index c.args.self.now.terms (omega (arith, ap length c.as_slice-term-items.ensures)))
    c.loop-term.invariant.content

pub returns-clause-exact : goal.returns-clause-exact
returns-clause-exact c = whole c

pub returns-clause-zero : goal.returns-clause-zero
returns-clause-zero c =
    content-zero c.args.self.now.terms (to_z w128 c.loop-term.divisor-bits) c.args.self.now.canonical.shaped.nonzero (whole c)

-- the divisor of the first terms is that of all where it is 1
pub returns-then-divisor-eq1-clause-exact : goal.returns-then-divisor-eq1-clause-exact
returns-then-divisor-eq1-clause-exact c =
    let p = c.args.self.now.terms in
    let one : c.loop-term.divisor ≡ pos 1 = search rules in
    content-one c.loop-term.term-index p (subst (IsContent (take c.loop-term.term-index p)) (c.loop-term.divisor-is ∙ one) c.loop-term.invariant.content)

pub returns-then-divisor-eq1-clause-zero : goal.returns-then-divisor-eq1-clause-zero
returns-then-divisor-eq1-clause-zero c =
    let p = c.args.self.now.terms in
    let one : c.loop-term.divisor ≡ pos 1 = search rules in
    let all = content-one c.loop-term.term-index p (subst (IsContent (take c.loop-term.term-index p)) (c.loop-term.divisor-is ∙ one) c.loop-term.invariant.content) in
    content-zero p (pos 1) c.args.self.now.canonical.shaped.nonzero all
