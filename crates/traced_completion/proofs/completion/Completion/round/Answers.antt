use Rattle.traced_completion.proofs.Prelude.{rules, ◌≡◌, ◌<◌, ◌≤◌, ◌+◌, ◌++◌, length, take, Ok, Err, refl, sym, ap, ◌∙◌, subst, arith, IfOk-weaker, length-append, made_cmp, letters_of, IsAmbiguity, Waiting, each_in_turn, first_of, InTwoPasses, ambiguities_of, first_word, RunState, IsRound, setting_of, taken_count, went, stopped, recorded, state_of, IsUnchanged, IsGivingUp}
use Rattle.traced_completion.proofs.StoreLemmas.{pending-all, pending-over}
use Rattle.traced_completion.proofs.Transitions.{stays_completion, on_error, stays_after, taken_back, waiting_made, closed_for_none, spent_outcome, treated_outcome, next_run, given_up, not_spent, is_spent, taken_length}
use Rattle.traced_completion.proofs.completion.Completion.round.Goals as goal

pub try_later_round-requires-clause-ambiguities : goal.try_later_round-requires-clause-ambiguities
try_later_round-requires-clause-ambiguities g c κs within =
    let old = c.args.self.now in
    let is = c.requires.of_problem in
    let all = waiting_made c.args.problem.now old.budget old.rules.order old.rounds (state_of old) old.waiting is in
    pending-all (λ (w : Waiting). IsAmbiguity old.rules.rules w.which) (made_cmp old.rules.order) old.rules.rules old.treated old.waiting all (λ w pending. pending.is)

pub try_later_round-requires-clause-over : goal.try_later_round-requires-clause-over
try_later_round-requires-clause-over g c κs within =
    let old = c.args.self.now in
    let is = c.requires.of_problem in
    let all = waiting_made c.args.problem.now old.budget old.rules.order old.rounds (state_of old) old.waiting is in
    pending-over (letters_of old.rules.order) (made_cmp old.rules.order) old.rules.rules old.treated old.waiting old.rules.each all

pub returns-in-Ok-clause-exact : goal.returns-in-Ok-clause-exact
returns-in-Ok-clause-exact g c =
    let old = c.args.self.now in
    let new = c.try_later_round.new.self in
    let problem = c.args.problem.now in
    let is = c.requires.of_problem in
    let count = c.next_count-count.result in
    let later : 0 < old.rounds = search rules in
    let some : 0 < length old.waiting = search rules in
    let left : length old.treated < old.budget.pairs = search rules in
    let counted : count ≡ taken_count old.budget (state_of old) old.waiting = search rules in
    let t : RunState = record { rules = new.rules.rules; made = new.made; treated = new.treated } in
    let treated : new.treated ≡ old.treated ++ ambiguities_of (take count old.waiting) = c.in-Ok.ensures.treated in
    treated_outcome problem old.budget old.rules.order old.rounds (state_of old) old.waiting is later some (not_spent old.budget.pairs (length old.treated) left) count counted (Ok (recorded t)) c.in-Ok.ensures.exact (went t)
    (λ i. went (record { rules = new.rules.rules; made = new.made; treated = treated i }))

pub returns-in-Ok-clause-of_problem : goal.returns-in-Ok-clause-of_problem
returns-in-Ok-clause-of_problem g c =
    let old = c.args.self.now in
    let new = c.try_later_round.new.self in
    let problem = c.args.problem.now in
    let is = c.requires.of_problem in
    let count = c.next_count-count.result in
    let later : 0 < old.rounds = search rules in
    let some : 0 < length old.waiting = search rules in
    let left : length old.treated < old.budget.pairs = search rules in
    let counted : count ≡ taken_count old.budget (state_of old) old.waiting = search rules in
    let t : RunState = record { rules = new.rules.rules; made = new.made; treated = new.treated } in
    let treated : new.treated ≡ old.treated ++ ambiguities_of (take count old.waiting) = c.in-Ok.ensures.treated in
    let size : length new.treated ≡ length old.treated + count = ap length treated ∙ length-append old.treated (ambiguities_of (take count old.waiting)) ∙ ap (λ n. length old.treated + n) (taken_length count old.waiting (omega (arith, counted))) in
    let round =
    treated_outcome problem old.budget old.rules.order old.rounds (state_of old) old.waiting is later some (not_spent old.budget.pairs (length old.treated) left) count counted (Ok (recorded t)) c.in-Ok.ensures.exact (went t)
    (λ i. went (record { rules = new.rules.rules; made = new.made; treated = treated i })) in
    next_run problem old.budget old.rules.order old.rounds (state_of old) old.waiting is t new.waiting count c.try_later_round.ensures.rules_front treated c.in-Ok.ensures.next c.in-Ok.ensures.records
    (omega (arith, size, counted, left)) (omega (arith, size, is.few_rules, c.try_later_round.ensures.most)) (omega (arith, size, counted, left, some, is.few_rounds)) round
    new.budget new.rules.order (new.rounds + 1) c.try_later_round.ensures.budget c.try_later_round.ensures.order (omega (arith, c.try_later_round.ensures.rounds))

pub returns-in-Err-clause-exact : goal.returns-in-Err-clause-exact
returns-in-Err-clause-exact g c =
    let old = c.args.self.now in
    let problem = c.args.problem.now in
    let is = c.requires.of_problem in
    let count = c.next_count-count.result in
    let compare = made_cmp old.rules.order in
    let later : 0 < old.rounds = search rules in
    let some : 0 < length old.waiting = search rules in
    let left : length old.treated < old.budget.pairs = search rules in
    let counted : count ≡ taken_count old.budget (state_of old) old.waiting = search rules in
    let tried = c.in-Err.ensures in
    let word = ap first_word tried.waiting_back in
    IfOk-weaker c.give_up.result _ _ (λ step giving.
    let there : IsGivingUp c.in-Err.fault old.rounds (first_word old.waiting) step = subst (λ n. IsGivingUp c.in-Err.fault n (first_word old.waiting) step) tried.rounds (subst (λ w. IsGivingUp c.in-Err.fault c.try_later_round.new.self.rounds w step) word giving) in
    let ending =
    given_up (InTwoPasses compare old.budget.steps (each_in_turn (first_of compare old.budget.steps old.rules.rules) (ambiguities_of (take count old.waiting))) (recorded (state_of old))) old.rounds (first_word old.waiting)
    (old.treated ++ ambiguities_of (take count old.waiting)) c.in-Err.fault step _ tried.fault there in
    treated_outcome problem old.budget old.rules.order old.rounds (state_of old) old.waiting is later some (not_spent old.budget.pairs (length old.treated) left) count counted ending.result ending.holds _ ending.ends) c.give_up.ensures.stops

pub returns-in-Err-clause-of_problem : goal.returns-in-Err-clause-of_problem
returns-in-Err-clause-of_problem g c =
    let old = c.args.self.now in
    let tried = c.try_later_round.ensures in
    let back = c.give_up.ensures in
    let same : IsUnchanged old c.give_up.new.self =
    taken_back old c.try_later_round.new.self c.give_up.new.self c.len-rules.result c.len-treated.result c.len-rules.ensures c.len-treated.ensures c.requires.of_problem.records.one_each
    tried.budget tried.rounds tried.order tried.rules_front tried.made_front tried.treated_front c.in-Err.ensures.waiting_back back.budget back.rounds back.order back.rules back.made back.treated back.waiting
    c.in-Err.ensures.light_back back.is_light in
    stays_completion c.args.problem.now old c.give_up.new.self same c.requires.of_problem

pub returns-in-Err-clause-unchanged : goal.returns-in-Err-clause-unchanged
returns-in-Err-clause-unchanged g c =
    let old = c.args.self.now in
    let tried = c.try_later_round.ensures in
    let back = c.give_up.ensures in
    let same : IsUnchanged old c.give_up.new.self =
    taken_back old c.try_later_round.new.self c.give_up.new.self c.len-rules.result c.len-treated.result c.len-rules.ensures c.len-treated.ensures c.requires.of_problem.records.one_each
    tried.budget tried.rounds tried.order tried.rules_front tried.made_front tried.treated_front c.in-Err.ensures.waiting_back back.budget back.rounds back.order back.rules back.made back.treated back.waiting
    c.in-Err.ensures.light_back back.is_light in
    IfOk-weaker c.give_up.result _ _ (λ step giving. stays_after step old c.give_up.new.self same) c.give_up.ensures.stops

pub returns-then-self-eq0-clause-exact : goal.returns-then-self-eq0-clause-exact
returns-then-self-eq0-clause-exact g c = c.round_zero.ensures.exact

pub returns-then-self-eq0-clause-of_problem : goal.returns-then-self-eq0-clause-of_problem
returns-then-self-eq0-clause-of_problem g c = c.round_zero.ensures.of_problem

pub returns-then-self-eq0-clause-unchanged : goal.returns-then-self-eq0-clause-unchanged
returns-then-self-eq0-clause-unchanged g c = c.round_zero.ensures.unchanged

pub returns-then-self-eq0-clause-err : goal.returns-then-self-eq0-clause-err
returns-then-self-eq0-clause-err g c = c.round_zero.ensures.err

pub returns-then-len-eq0-clause-exact : goal.returns-then-len-eq0-clause-exact
returns-then-len-eq0-clause-exact g c =
    let old = c.args.self.now in
    let later : 0 < old.rounds = search rules in
    let none : length old.waiting ≡ 0 = search rules in
    closed_for_none c.args.problem.now old.budget old.rules.order old.rounds (state_of old) old.waiting c.requires.of_problem later none

pub returns-then-len-eq0-clause-of_problem : goal.returns-then-len-eq0-clause-of_problem
returns-then-len-eq0-clause-of_problem g c = c.requires.of_problem

pub returns-then-len-eq0-clause-unchanged : goal.returns-then-len-eq0-clause-unchanged
returns-then-len-eq0-clause-unchanged g c = record { budget = refl; rounds = refl; order = refl; rules = refl; made = refl; treated = refl; waiting = refl; is_light = refl }

pub returns-then-len-self-clause-exact : goal.returns-then-len-self-clause-exact
returns-then-len-self-clause-exact g c =
    let old = c.args.self.now in
    let problem = c.args.problem.now in
    let later : 0 < old.rounds = search rules in
    let some : 0 < length old.waiting = search rules in
    let most : old.budget.pairs ≤ length old.treated = search rules in
    subst (λ halt. IsRound (setting_of problem old.budget) old.rounds (state_of old) (stopped halt)) (sym c.in_ok-spent.ensures)
    (spent_outcome problem old.budget old.rules.order old.rounds (state_of old) old.waiting c.requires.of_problem later some (is_spent old.budget.pairs (length old.treated) most))

pub returns-then-len-self-clause-of_problem : goal.returns-then-len-self-clause-of_problem
returns-then-len-self-clause-of_problem g c = c.requires.of_problem

pub returns-then-len-self-clause-unchanged : goal.returns-then-len-self-clause-unchanged
returns-then-len-self-clause-unchanged g c = record { budget = refl; rounds = refl; order = refl; rules = refl; made = refl; treated = refl; waiting = refl; is_light = refl }

pub returns-in_err-spent-clause-of_problem : goal.returns-in_err-spent-clause-of_problem
returns-in_err-spent-clause-of_problem g c = c.requires.of_problem

pub returns-in_err-spent-clause-exact : goal.returns-in_err-spent-clause-exact
returns-in_err-spent-clause-exact g c =
    let back : c.from_residual.result ≡ Err c.in_err-spent.field-0.0 = search rules in
    rw back tt

pub returns-in_err-spent-clause-unchanged : goal.returns-in_err-spent-clause-unchanged
returns-in_err-spent-clause-unchanged g c =
    let back : c.from_residual.result ≡ Err c.in_err-spent.field-0.0 = search rules in
    rw back tt

pub returns-in_err-spent-clause-err : goal.returns-in_err-spent-clause-err
returns-in_err-spent-clause-err g c =
    let back : c.from_residual.result ≡ Err c.in_err-spent.field-0.0 = search rules in
    rw back (record { budget = refl; rounds = refl; order = refl; rules = refl; made = refl; treated = refl; waiting = refl; is_light = refl })

pub try_later_round-requires-clause-count : goal.try_later_round-requires-clause-count
try_later_round-requires-clause-count g c κs within =
    let old = c.args.self.now in
    let counted : c.next_count-count.result ≡ taken_count old.budget (state_of old) old.waiting = search rules in
    omega (arith, counted)

pub try_later_round-requires-clause-records : goal.try_later_round-requires-clause-records
try_later_round-requires-clause-records g c κs within = c.requires.of_problem.records

pub returns-in-Err-clause-err : goal.returns-in-Err-clause-err
returns-in-Err-clause-err g c =
    let old = c.args.self.now in
    let tried = c.try_later_round.ensures in
    let back = c.give_up.ensures in
    let same : IsUnchanged old c.give_up.new.self =
    taken_back old c.try_later_round.new.self c.give_up.new.self c.len-rules.result c.len-treated.result c.len-rules.ensures c.len-treated.ensures c.requires.of_problem.records.one_each
    tried.budget tried.rounds tried.order tried.rules_front tried.made_front tried.treated_front c.in-Err.ensures.waiting_back back.budget back.rounds back.order back.rules back.made back.treated back.waiting
    c.in-Err.ensures.light_back back.is_light in
    on_error c.give_up.result (IsUnchanged old c.give_up.new.self) same
