use Rattle.nc_polynomial.proofs.Prelude.{rules, ◌≡◌, ◌<◌, ◌≤◌, ◌+◌, ℕ, pos, ◌+ℤ◌, List, [], ◌∷◌, ◌++◌, length, take, drop, get_or, sym, ap, subst, ◌∙◌, arith, ints, take_all, take-append-drop, common_steps, btree_map_len, Term, coefficient_of, numbers_of, reversed_star, reversed, coefficient_in, IsCanonical}
use Rattle.nc_polynomial.proofs.Adjoints.{adjoint_terms, adjoint_terms-next, new_word, canonical_table, adjoint_in}
use Rattle.nc_polynomial.proofs.Distinct.{apart-before}
use Rattle.nc_polynomial.proofs.Shapes.{Descends, recursion_from_IsDescending}
use Rattle.nc_polynomial.proofs.Steps.{take_next, drop_next}
use Rattle.nc_polynomial.proofs.Tables.{coefficient_of-table}
use Rattle.nc_polynomial.proofs.Words.{coefficient_in-written}
use Rattle.nc_polynomial.proofs.poly.Poly.adjoint_by.Goals as goal

pub loop-term-preserved : goal.loop-term-preserved
loop-term-preserved c =
    let stars = numbers_of c.args.stars.now in
    let p = c.args.self.now.terms in
    let i = c.loop-term.term-index in
    let t : Term = c.term-item.result in
    let same = c.as_slice-term-items.ensures in
    let inside : i < length p = omega (arith, ap length same) in
    let item : t ≡ get_or p i t = c.term-item.is ∙ ap (λ xs. get_or xs i t) same in
    let front = take_next p i t inside item in
    let split : p ≡ take i p ++ t ∷ drop (i + 1) p = sym (take-append-drop i p) ∙ ap (λ rest. take i p ++ rest) (drop_next p i t inside item) in
    let falls : Descends (take i p ++ t ∷ drop (i + 1) p) = subst Descends split (recursion_from_IsDescending p c.args.self.now.canonical.shaped.descending) in
    let old = c.loop-term.table in
    let new = c.insert.new.self in
    let word = reversed_star stars t.1 in
    let absent : coefficient_in old word ≡ pos 0 =
    c.loop-term.invariant.coefficients word ∙ new_word stars c.requires.involution (take i p) t (apart-before (take i p) t (drop (i + 1) p) falls) in
    let total : t.0 ≡ coefficient_in old word +ℤ t.0 = omega (arith, ints) in
    record {
      ordered = c.insert.ensures.ordered;
      few = grind (arith, common_steps);
      coefficients = λ w.
          coefficient_in-written old new word t.0 t.0 (λ v. search rules) total w
          ∙ ap (λ x. coefficient_of ((t.0, word) ∷ []) w +ℤ x) (c.loop-term.invariant.coefficients w)
          ∙ sym (adjoint_terms-next stars (take i p) t w)
          ∙ ap (λ q. coefficient_of (adjoint_terms stars q) w) (sym front);
    }

pub invariant_of-result : goal.invariant_of-result
invariant_of-result c =
    let stars = numbers_of c.args.stars.now in
    let p = c.args.self.now.terms in
    let table = c.loop-term.table in
    let all : take c.loop-term.term-index p ≡ p = take_all c.loop-term.term-index p (omega (arith, ap length c.as_slice-term-items.ensures)) in
    let same = λ (w : List ℕ). c.loop-term.invariant.coefficients w ∙ ap (λ q. coefficient_of (adjoint_terms stars q) w) all in
    let out : c.in_ok-terms.terms ≡ reversed table.entries [] = search rules in
    let few : btree_map_len table ≤ length p = omega (arith, ap length c.as_slice-term-items.ensures) in
    record { canonical = subst IsCanonical (sym out) (canonical_table stars c.requires.involution p c.args.self.now.canonical table c.loop-term.invariant.ordered few same) }

pub returns : goal.returns
returns c =
    let stars = numbers_of c.args.stars.now in
    let p = c.args.self.now.terms in
    let table = c.loop-term.table in
    let all : take c.loop-term.term-index p ≡ p = take_all c.loop-term.term-index p (omega (arith, ap length c.as_slice-term-items.ensures)) in
    let out : c.in_ok-terms.terms ≡ reversed table.entries [] = search rules in
    adjoint_in stars p c.in_ok-terms.terms
    (λ w. ap (λ q. coefficient_of q w) out ∙ coefficient_of-table table c.loop-term.invariant.ordered w ∙ c.loop-term.invariant.coefficients w ∙ ap (λ q. coefficient_of (adjoint_terms stars q) w) all)
