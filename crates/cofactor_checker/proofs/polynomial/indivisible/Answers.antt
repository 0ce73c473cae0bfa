use Rattle.cofactor_checker.proofs.Prelude.{rules, ◌≡◌, [], ◌∷◌, ◌++◌, sym, subst, arith, to_z, of_z, unsigned_abs, DividesEach, IsLeastIndivisible}
use mir.Syntax.{w128}
use Rattle.cofactor_checker.proofs.Each.{clash}
use Rattle.cofactor_checker.proofs.Terms.{empty, last_indivisible, indivisible_before, all_divisible}
use Rattle.cofactor_checker.proofs.polynomial.indivisible.Goals as goal

pub returns-then-not-divides-clause-found : goal.returns-then-not-divides-clause-found
returns-then-not-divides-clause-found c =
    let s = c.args.scale in
    let t = c.in-Some.term.now in
    let g = c.in-Some.greater.now in
    let is : to_z w128 (of_z w128 s) ≡ s = search rules in
    let coefficient : to_z w128 (of_z w128 t.0) ≡ t.0 = search rules in
    let rest_is : c.loop-term.rest.now ≡ g ++ t ∷ [] = search rules in
    let here = last_indivisible s g t (λ divides. clash c.divides.result (c.divides.ensures.1 (rw (is, coefficient) divides)) c.if-not-divides.true) in
    let found = rw is at c.loop-term.invariant.found in
    record { least = found t.1 t.0 (subst (λ l. IsLeastIndivisible s l t.1 t.0) (sym rest_is) here) }

pub loop-term-preserved : goal.loop-term-preserved
loop-term-preserved c =
    let s = c.args.scale in
    let t = c.in-Some.term.now in
    let g = c.in-Some.greater.now in
    let is : to_z w128 (of_z w128 s) ≡ s = search rules in
    let coefficient : to_z w128 (of_z w128 t.0) ≡ t.0 = search rules in
    let rest_is : c.loop-term.rest.now ≡ g ++ t ∷ [] = search rules in
    let divides = rw (is, coefficient) at c.divides.ensures.0 c.if-not-divides.false in
    let found = rw is at c.loop-term.invariant.found in
    let none = rw is at c.loop-term.invariant.none in
    rw is (record {
      found = λ word got later. found word got (subst (λ l. IsLeastIndivisible s l word got) (sym rest_is) (indivisible_before s g t word got divides later));
      none = λ each. none (subst (DividesEach (unsigned_abs s)) (sym rest_is) (all_divisible s g t divides each));
    })

pub returns-clause-none : goal.returns-clause-none
returns-clause-none c =
    let is : to_z w128 (of_z w128 c.args.scale) ≡ c.args.scale = search rules in
    let none = rw is at c.loop-term.invariant.none in
    let rest_is : c.loop-term.rest.now ≡ [] = empty c.loop-term.rest.now c.in_default.ensures.cases in
    record { each = none (subst (DividesEach (unsigned_abs c.args.scale)) (sym rest_is) (λ k d below. absurd (omega arith))) }
