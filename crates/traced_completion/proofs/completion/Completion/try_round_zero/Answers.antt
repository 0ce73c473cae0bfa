use Rattle.traced_completion.proofs.Prelude.{rules, ◌≡◌, length, map, Ok, Err, sym, ap, subst, arith, All, IsOver, made_cmp, letters_of, Memory, Recorded, Waiting, polynomials, few_units_closed, generator_work, InTurn, EndsWith, units_first, recorded, state_of, IsNextStore}
use Rattle.traced_completion.proofs.completion.Completion.try_round_zero.Goals as goal

pub reduce_generators-requires-clause-units : goal.reduce_generators-requires-clause-units
reduce_generators-requires-clause-units c =
    let problem = c.args.problem.now in
    let same : c.as_slice-generators.result.now ≡ problem.generators = search rules in
    omega (arith, problem.counted, few_units_closed problem.parts problem.generators problem.closed, ap length same)

pub returns-in-Err-clause-fault : goal.returns-in-Err-clause-fault
returns-in-Err-clause-fault c =
    let old = c.args.self.now in
    let compare = made_cmp old.rules.order in
    let problem = c.args.problem.now in
    let same : c.as_slice-generators.result.now ≡ problem.generators = search rules in
    let fault : EndsWith (InTurn compare (map (generator_work compare old.budget.steps (polynomials c.as_slice-generators.result.now)) (units_first problem.unit_count (length c.as_slice-generators.result.now))) (recorded (state_of old))) c.in-Err.fault = search rules in
    subst (λ n. EndsWith (InTurn compare (map (generator_work compare old.budget.steps (polynomials problem.generators)) (units_first n (length problem.generators))) (recorded (state_of old))) c.in-Err.fault) problem.counted
    (subst (λ gs. EndsWith (InTurn compare (map (generator_work compare old.budget.steps (polynomials gs)) (units_first problem.unit_count (length gs))) (recorded (state_of old))) c.in-Err.fault) same fault)

pub returns-clause-next : goal.returns-clause-next
returns-clause-next c =
    let old = c.args.self.now in
    let order : c.reduce_generators.new.rules.order ≡ old.rules.order = search rules in
    let next : IsNextStore (made_cmp c.reduce_generators.new.rules.order) c.reduce_generators.new.rules.rules 0 0 old.waiting c.advance.new.self = search rules in
    subst (λ o. IsNextStore (made_cmp o) c.reduce_generators.new.rules.rules 0 0 old.waiting c.advance.new.self) order next

pub returns-clause-exact : goal.returns-clause-exact
returns-clause-exact c =
    let old = c.args.self.now in
    let compare = made_cmp old.rules.order in
    let problem = c.args.problem.now in
    let after : Recorded = record { rules = c.reduce_generators.new.rules.rules; made = c.reduce_generators.new.made } in
    let same : c.as_slice-generators.result.now ≡ problem.generators = search rules in
    subst (λ n. InTurn compare (map (generator_work compare old.budget.steps (polynomials problem.generators)) (units_first n (length problem.generators))) (recorded (state_of old)) (Ok after)) problem.counted
    (subst (λ gs. InTurn compare (map (generator_work compare old.budget.steps (polynomials gs)) (units_first problem.unit_count (length gs))) (recorded (state_of old)) (Ok after)) same c.in-Ok.ensures.exact)

pub returns-clause-records : goal.returns-clause-records
returns-clause-records c = c.in-Ok.ensures.records

pub advance-requires-clause-over : goal.advance-requires-clause-over
advance-requires-clause-over c =
    subst (All (λ (w : Waiting). IsOver (letters_of c.reduce_generators.new.rules.order) w.word)) (sym c.requires.none_waiting) (λ k d below. absurd (omega (arith, below)))

pub returns-in_err-advance-clause-exact : goal.returns-in_err-advance-clause-exact
returns-in_err-advance-clause-exact c =
    let back : c.from_residual.result ≡ Err (Memory c.in_err-advance.field-0.0) = search rules in
    rw back tt

pub returns-in_err-advance-clause-fault : goal.returns-in_err-advance-clause-fault
returns-in_err-advance-clause-fault c =
    let back : c.from_residual.result ≡ Err (Memory c.in_err-advance.field-0.0) = search rules in
    rw back tt

pub returns-in_err-advance-clause-next : goal.returns-in_err-advance-clause-next
returns-in_err-advance-clause-next c =
    let back : c.from_residual.result ≡ Err (Memory c.in_err-advance.field-0.0) = search rules in
    rw back tt

pub returns-in_err-advance-clause-records : goal.returns-in_err-advance-clause-records
returns-in_err-advance-clause-records c =
    let back : c.from_residual.result ≡ Err (Memory c.in_err-advance.field-0.0) = search rules in
    rw back tt

pub returns-in_err-advance-clause-waiting_back : goal.returns-in_err-advance-clause-waiting_back
returns-in_err-advance-clause-waiting_back c =
    let back : c.from_residual.result ≡ Err (Memory c.in_err-advance.field-0.0) = search rules in
    rw back c.in_err-advance.ensures.err
