use Rattle.traced_completion.proofs.Prelude.{◌≡◌, ◌+◌, length, map, take, None, Ok, sym, ap, ◌∙◌, subst, arith, IfOk-weaker, append-nil, made_cmp, polynomials, units_in, generator_work, InTurn, units_first, IsNextStore, first_word, RunState, went, recorded, state_of, IsGivingUp}
use Rattle.traced_completion.proofs.ReducibleGenerators.{generators_reducible}
use Rattle.traced_completion.proofs.Transitions.{none_waiting, no_rules, zero_outcome, next_run, given_up}
use Rattle.traced_completion.proofs.completion.Completion.round_zero.Goals as goal

pub try_round_zero-requires-clause-reducible : goal.try_round_zero-requires-clause-reducible
try_round_zero-requires-clause-reducible c = generators_reducible c.args.problem.now _ c.requires.of_problem.letters

pub try_round_zero-requires-clause-none_waiting : goal.try_round_zero-requires-clause-none_waiting
try_round_zero-requires-clause-none_waiting c =
    let old = c.args.self.now in
    none_waiting c.args.problem.now old.budget old.rules.order old.rounds (state_of old) old.waiting c.requires.of_problem c.requires.first

pub returns-in-Ok-clause-exact : goal.returns-in-Ok-clause-exact
returns-in-Ok-clause-exact c =
    let old = c.args.self.now in
    let new = c.try_round_zero.new.self in
    let t : RunState = record { rules = new.rules.rules; made = new.made; treated = new.treated } in
    let treated : new.treated ≡ old.treated = c.try_round_zero.ensures.treated in
    zero_outcome c.args.problem.now old.budget old.rules.order old.rounds (state_of old) old.waiting c.requires.of_problem c.requires.first (Ok (recorded t)) c.in-Ok.ensures.exact (went t)
    (λ i. went (record { rules = new.rules.rules; made = new.made; treated = treated i }))

pub returns-in-Ok-clause-of_problem : goal.returns-in-Ok-clause-of_problem
returns-in-Ok-clause-of_problem c =
    let old = c.args.self.now in
    let new = c.try_round_zero.new.self in
    let problem = c.args.problem.now in
    let is = c.requires.of_problem in
    let t : RunState = record { rules = new.rules.rules; made = new.made; treated = new.treated } in
    let treated : new.treated ≡ old.treated = c.try_round_zero.ensures.treated in
    let none = no_rules problem old.budget old.rules.order old.rounds (state_of old) old.waiting is c.requires.first in
    let no_length : 0 ≡ length old.rules.rules = sym (ap length none) in
    let front : take (length old.rules.rules) new.rules.rules ≡ old.rules.rules = subst (λ n. take n new.rules.rules ≡ old.rules.rules) no_length (sym none) in
    let next : IsNextStore (made_cmp old.rules.order) new.rules.rules (length old.rules.rules) 0 old.waiting new.waiting =
    subst (λ n. IsNextStore (made_cmp old.rules.order) new.rules.rules n 0 old.waiting new.waiting) no_length c.in-Ok.ensures.next in
    let same_length = ap length treated in
    let round =
    zero_outcome problem old.budget old.rules.order old.rounds (state_of old) old.waiting is c.requires.first (Ok (recorded t)) c.in-Ok.ensures.exact (went t)
    (λ i. went (record { rules = new.rules.rules; made = new.made; treated = treated i })) in
    next_run problem old.budget old.rules.order old.rounds (state_of old) old.waiting is t new.waiting 0 front (treated ∙ sym (append-nil old.treated)) next c.in-Ok.ensures.records
    (omega (arith, same_length, is.few_treated)) (omega (arith, same_length, c.try_round_zero.ensures.most)) (omega (arith, c.requires.first)) round
    new.budget new.rules.order (new.rounds + 1) c.try_round_zero.ensures.budget c.try_round_zero.ensures.order (omega (arith, c.try_round_zero.ensures.rounds))

pub returns-in-Err-clause-exact : goal.returns-in-Err-clause-exact
returns-in-Err-clause-exact c =
    let old = c.args.self.now in
    let problem = c.args.problem.now in
    let is = c.requires.of_problem in
    let none = none_waiting problem old.budget old.rules.order old.rounds (state_of old) old.waiting is c.requires.first in
    let tried = c.in-Err.ensures in
    let word = ap first_word (tried.waiting_back ∙ none) in
    let number = tried.rounds ∙ c.requires.first in
    IfOk-weaker c.give_up.result _ _ (λ step giving.
    let there : IsGivingUp c.in-Err.fault 0 None step = subst (λ n. IsGivingUp c.in-Err.fault n None step) number (subst (λ w. IsGivingUp c.in-Err.fault c.try_round_zero.new.self.rounds w step) word giving) in
    let ending = given_up (InTurn (made_cmp old.rules.order) (map (generator_work (made_cmp old.rules.order) old.budget.steps (polynomials problem.generators)) (units_first (length (units_in problem.parts)) (length problem.generators))) (recorded (state_of old))) 0 None old.treated c.in-Err.fault step _ tried.fault there in
    zero_outcome problem old.budget old.rules.order old.rounds (state_of old) old.waiting is c.requires.first ending.result ending.holds _ ending.ends) c.give_up.ensures.stops
