use Rattle.rule_reduce.proofs.Prelude.{rules, ◌≡◌, ℤ, ◌∷◌, Err, sym, ap, ap₂, ◌∙◌, subst, to_z, of_z, All, All-tail, IsCoefficient, Term, Explains, sum_from}
use mir.Syntax.{w128}
use Rattle.rule_reduce.proofs.adding.add_in_place.Goals as goal
use Rattle.rule_reduce.proofs.adding.add_in_place.Goals.{In-Some}

-- the first of the others is taken
taken_is : (c : In-Some) → c.loop-coefficient.others.items ≡ (c.in-Some.coefficient, c.in-Some.word) ∷ c.pop_front.new.self.items
taken_is c =
    c.in-Some.ensures.items
    ∙ ap (λ (t : Term). t ∷ c.pop_front.new.self.items) (ap₂ (λ a w. (a, w)) (sym c.in-Some.coefficient-is) (sym c.in-Some.word-is))

-- the same, as the coefficient is passed on
given_is : (c : In-Some) → c.loop-coefficient.others.items ≡ (to_z w128 (of_z w128 c.in-Some.coefficient), c.in-Some.word) ∷ c.pop_front.new.self.items
given_is c =
    let same : to_z w128 (of_z w128 c.in-Some.coefficient) ≡ c.in-Some.coefficient = search rules in
    taken_is c ∙ ap (λ (a : ℤ). (a, c.in-Some.word) ∷ c.pop_front.new.self.items) (sym same)

others_in : (c : In-Some) → All (λ (t : Term). IsCoefficient t.0) c.pop_front.new.self.items
others_in c =
    let one : Term = (c.in-Some.coefficient, c.in-Some.word) in
    All-tail (λ (t : Term). IsCoefficient t.0) one c.pop_front.new.self.items
    (subst (All (λ (t : Term). IsCoefficient t.0)) (taken_is c) c.loop-coefficient.invariant.others_in)

pub returns-in_err-place-clause-exact : goal.returns-in_err-place-clause-exact
returns-in_err-place-clause-exact c =
    let at = c.loop-coefficient in
    let passed = (goal.at.returns-in_err-place-clause-exact c).In-Some in
    let e = c.in_err-place.field-0.0 in
    let rest = c.pop_front.new.self.items in
    let why : Explains (sum_from at.place at.terms.items ((to_z w128 (of_z w128 c.in-Some.coefficient), c.in-Some.word) ∷ rest)) e =
    c.in_err-place.ensures.exact rest in
    let back : c.from_residual.result ≡ Err e = search rules in
    rw back (subst (λ r. Explains r e) (sym (at.invariant.same ∙ ap (sum_from at.place at.terms.items) (given_is passed))) why)

pub returns-then-moves-eq-MOVE_LIMIT-clause-others_in : goal.returns-then-moves-eq-MOVE_LIMIT-clause-others_in
returns-then-moves-eq-MOVE_LIMIT-clause-others_in c = others_in (goal.at.returns-then-moves-eq-MOVE_LIMIT-clause-others_in c).In-Some

pub loop-coefficient-preserved : goal.loop-coefficient-preserved
loop-coefficient-preserved c =
    let at = c.loop-coefficient in
    let passed = (goal.at.loop-coefficient-preserved c).In-Some in
    let rest = c.pop_front.new.self.items in
    record {
      in_range = c.in_ok-place.ensures.in_range;
      shaped = c.in_ok-place.ensures.shaped;
      few = search rules;
      others_in = others_in passed;
      same = at.invariant.same ∙ ap (sum_from at.place at.terms.items) (given_is passed) ∙ c.in_ok-place.ensures.exact rest;
    }
