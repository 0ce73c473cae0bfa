use Rattle.traced_completion.proofs.Prelude.{rules, ◌≡◌, List, ◌++◌, length, map, take, Ok, Err, sym, subst, arith, ap, ◌∙◌, All, length-map, length-take, All-map, All-take, IsOver, made_cmp, letters_of, Memory, IsAmbiguity, Ambiguity, Waiting, Explains, each_in_turn, first_of, plain_first, IsNextStore, ambiguities_of, recorded, state_of}
use Rattle.traced_completion.proofs.Turns.{first_ends, second_goes, second_ends}
use Rattle.traced_completion.proofs.completion.Completion.try_later_round.Goals as goal

pub returns-clause-next : goal.returns-clause-next
returns-clause-next g c =
    let old = c.args.self.now in
    let order : c.treat_all.new.rules.order ≡ old.rules.order = search rules in
    let known : c.len-known.result ≡ length old.rules.rules = search rules in
    let next : IsNextStore (made_cmp c.treat_all.new.rules.order) c.treat_all.new.rules.rules c.len-known.result c.args.count old.waiting c.advance.new.self = search rules in
    subst (λ o. IsNextStore (made_cmp o) c.treat_all.new.rules.rules (length old.rules.rules) c.args.count old.waiting c.advance.new.self) order
    (subst (λ n. IsNextStore (made_cmp c.treat_all.new.rules.order) c.treat_all.new.rules.rules n c.args.count old.waiting c.advance.new.self) known next)

pub returns-in_err-treat_all-clause-order : goal.returns-in_err-treat_all-clause-order
returns-in_err-treat_all-clause-order g c = c.treat_all.ensures.order

pub returns-in_err-treat_all-clause-rules_front : goal.returns-in_err-treat_all-clause-rules_front
returns-in_err-treat_all-clause-rules_front g c = c.treat_all.ensures.rules_front

pub returns-in_err-treat_all-clause-made_front : goal.returns-in_err-treat_all-clause-made_front
returns-in_err-treat_all-clause-made_front g c = c.treat_all.ensures.made_front

pub returns-in_err-push_treated-clause-order : goal.returns-in_err-push_treated-clause-order
returns-in_err-push_treated-clause-order g c = c.treat_all.ensures.order

pub returns-in_err-push_treated-clause-rules_front : goal.returns-in_err-push_treated-clause-rules_front
returns-in_err-push_treated-clause-rules_front g c = c.treat_all.ensures.rules_front

pub returns-in_err-push_treated-clause-made_front : goal.returns-in_err-push_treated-clause-made_front
returns-in_err-push_treated-clause-made_front g c = c.treat_all.ensures.made_front

pub returns-in_err-push_treated-clause-treated_front : goal.returns-in_err-push_treated-clause-treated_front
returns-in_err-push_treated-clause-treated_front g c = c.push_treated.ensures.front

pub returns-in_err-advance-clause-order : goal.returns-in_err-advance-clause-order
returns-in_err-advance-clause-order g c = c.treat_all.ensures.order

pub returns-in_err-advance-clause-rules_front : goal.returns-in_err-advance-clause-rules_front
returns-in_err-advance-clause-rules_front g c = c.treat_all.ensures.rules_front

pub returns-in_err-advance-clause-made_front : goal.returns-in_err-advance-clause-made_front
returns-in_err-advance-clause-made_front g c = c.treat_all.ensures.made_front

pub returns-in_err-advance-clause-treated_front : goal.returns-in_err-advance-clause-treated_front
returns-in_err-advance-clause-treated_front g c = c.push_treated.ensures.front

pub returns-clause-order : goal.returns-clause-order
returns-clause-order g c = c.treat_all.ensures.order

pub returns-clause-rules_front : goal.returns-clause-rules_front
returns-clause-rules_front g c = c.treat_all.ensures.rules_front

pub returns-clause-made_front : goal.returns-clause-made_front
returns-clause-made_front g c = c.treat_all.ensures.made_front

pub returns-clause-treated_front : goal.returns-clause-treated_front
returns-clause-treated_front g c = c.push_treated.ensures.front

pub returns-in_err-push_treated-clause-treated : goal.returns-in_err-push_treated-clause-treated
returns-in_err-push_treated-clause-treated g c =
    let back : c.from_residual-in_err-push_treated.result ≡ Err (Memory c.in_err-push_treated.field-0.0) = search rules in
    rw back tt

pub returns-in_err-push_treated-clause-records : goal.returns-in_err-push_treated-clause-records
returns-in_err-push_treated-clause-records g c =
    let back : c.from_residual-in_err-push_treated.result ≡ Err (Memory c.in_err-push_treated.field-0.0) = search rules in
    rw back tt

pub returns-in_err-push_treated-clause-next : goal.returns-in_err-push_treated-clause-next
returns-in_err-push_treated-clause-next g c =
    let back : c.from_residual-in_err-push_treated.result ≡ Err (Memory c.in_err-push_treated.field-0.0) = search rules in
    rw back tt

pub returns-in_err-push_treated-clause-exact : goal.returns-in_err-push_treated-clause-exact
returns-in_err-push_treated-clause-exact g c =
    let back : c.from_residual-in_err-push_treated.result ≡ Err (Memory c.in_err-push_treated.field-0.0) = search rules in
    rw back tt

pub returns-in_err-advance-clause-treated : goal.returns-in_err-advance-clause-treated
returns-in_err-advance-clause-treated g c =
    let back : c.from_residual-in_err-advance.result ≡ Err (Memory c.in_err-advance.field-0.0) = search rules in
    rw back tt

pub returns-in_err-advance-clause-records : goal.returns-in_err-advance-clause-records
returns-in_err-advance-clause-records g c =
    let back : c.from_residual-in_err-advance.result ≡ Err (Memory c.in_err-advance.field-0.0) = search rules in
    rw back tt

pub returns-in_err-advance-clause-next : goal.returns-in_err-advance-clause-next
returns-in_err-advance-clause-next g c =
    let back : c.from_residual-in_err-advance.result ≡ Err (Memory c.in_err-advance.field-0.0) = search rules in
    rw back tt

pub returns-in_err-advance-clause-exact : goal.returns-in_err-advance-clause-exact
returns-in_err-advance-clause-exact g c =
    let back : c.from_residual-in_err-advance.result ≡ Err (Memory c.in_err-advance.field-0.0) = search rules in
    rw back tt

pub returns-clause-most : goal.returns-clause-most
returns-clause-most g c =
    let taken : c.deref.result.now ≡ ambiguities_of (take c.args.count c.args.self.now.waiting) = search rules in
    omega (arith, ap length taken, length-map (take c.args.count c.args.self.now.waiting) (λ (w : Waiting). w.which), length-take c.args.count c.args.self.now.waiting, c.in_ok-firsts.ensures.one_each)

pub returns-in_err-advance-clause-most : goal.returns-in_err-advance-clause-most
returns-in_err-advance-clause-most g c =
    let taken : c.deref.result.now ≡ ambiguities_of (take c.args.count c.args.self.now.waiting) = search rules in
    omega (arith, ap length taken, length-map (take c.args.count c.args.self.now.waiting) (λ (w : Waiting). w.which), length-take c.args.count c.args.self.now.waiting, c.in_ok-firsts.ensures.one_each)

pub returns-in_err-push_treated-clause-most : goal.returns-in_err-push_treated-clause-most
returns-in_err-push_treated-clause-most g c =
    let taken : c.deref.result.now ≡ ambiguities_of (take c.args.count c.args.self.now.waiting) = search rules in
    omega (arith, ap length taken, length-map (take c.args.count c.args.self.now.waiting) (λ (w : Waiting). w.which), length-take c.args.count c.args.self.now.waiting, c.in_ok-firsts.ensures.one_each)

pub returns-in_err-treat_all-clause-most : goal.returns-in_err-treat_all-clause-most
returns-in_err-treat_all-clause-most g c =
    let taken : c.deref.result.now ≡ ambiguities_of (take c.args.count c.args.self.now.waiting) = search rules in
    omega (arith, ap length taken, length-map (take c.args.count c.args.self.now.waiting) (λ (w : Waiting). w.which), length-take c.args.count c.args.self.now.waiting, c.in_ok-firsts.ensures.one_each)

pub treat_all-requires-clause-few : goal.treat_all-requires-clause-few
treat_all-requires-clause-few g c =
    let taken : c.deref.result.now ≡ ambiguities_of (take c.args.count c.args.self.now.waiting) = search rules in
    omega (arith, ap length taken, length-map (take c.args.count c.args.self.now.waiting) (λ (w : Waiting). w.which), length-take c.args.count c.args.self.now.waiting, c.in_ok-firsts.ensures.one_each)

pub returns-in_err-firsts-clause-fault : goal.returns-in_err-firsts-clause-fault
returns-in_err-firsts-clause-fault g c =
    let old = c.args.self.now in
    let compare = made_cmp old.rules.order in
    let why : Explains (each_in_turn (first_of compare old.budget.steps old.rules.rules) (ambiguities_of (take c.args.count old.waiting))) c.in_err-firsts.field-0.0 =
    subst (λ (found : List Ambiguity). Explains (each_in_turn (first_of compare old.budget.steps old.rules.rules) found) c.in_err-firsts.field-0.0) (c.deref.ensures.value ∙ c.in_ok-taken.ensures) c.in_err-firsts.ensures.exact in
    let back : c.from_residual-in_err-firsts.result ≡ Err c.in_err-firsts.field-0.0 = search rules in
    rw back (first_ends compare old.budget.steps (recorded (state_of old)) (each_in_turn (first_of compare old.budget.steps old.rules.rules) (ambiguities_of (take c.args.count old.waiting))) c.in_err-firsts.field-0.0 why)

pub returns-in_err-treat_all-clause-fault : goal.returns-in_err-treat_all-clause-fault
returns-in_err-treat_all-clause-fault g c =
    let old = c.args.self.now in
    let compare = made_cmp old.rules.order in
    let firsts : each_in_turn (first_of compare old.budget.steps old.rules.rules) (ambiguities_of (take c.args.count old.waiting)) ≡ Ok (map plain_first c.in_ok-firsts.firsts) =
    subst (λ (found : List Ambiguity). each_in_turn (first_of compare old.budget.steps old.rules.rules) found ≡ Ok (map plain_first c.in_ok-firsts.firsts)) (c.deref.ensures.value ∙ c.in_ok-taken.ensures) c.in_ok-firsts.ensures.exact in
    let back : c.from_residual-in_err-treat_all.result ≡ Err c.in_err-treat_all.field-0.0 = search rules in
    rw back (second_ends compare old.budget.steps (recorded (state_of old)) (each_in_turn (first_of compare old.budget.steps old.rules.rules) (ambiguities_of (take c.args.count old.waiting)))
    (map plain_first c.in_ok-firsts.firsts) c.in_err-treat_all.field-0.0 firsts c.in_err-treat_all.ensures.fault)

pub returns-clause-exact : goal.returns-clause-exact
returns-clause-exact g c =
    let old = c.args.self.now in
    let compare = made_cmp old.rules.order in
    let firsts : each_in_turn (first_of compare old.budget.steps old.rules.rules) (ambiguities_of (take c.args.count old.waiting)) ≡ Ok (map plain_first c.in_ok-firsts.firsts) =
    subst (λ (found : List Ambiguity). each_in_turn (first_of compare old.budget.steps old.rules.rules) found ≡ Ok (map plain_first c.in_ok-firsts.firsts)) (c.deref.ensures.value ∙ c.in_ok-taken.ensures) c.in_ok-firsts.ensures.exact in
    second_goes compare old.budget.steps (recorded (state_of old)) (each_in_turn (first_of compare old.budget.steps old.rules.rules) (ambiguities_of (take c.args.count old.waiting)))
    (map plain_first c.in_ok-firsts.firsts) (Ok (record { rules = c.treat_all.new.rules.rules; made = c.treat_all.new.made })) firsts c.in_ok-treat_all.ensures.exact

pub returns-clause-records : goal.returns-clause-records
returns-clause-records g c = c.in_ok-treat_all.ensures.records

pub returns-clause-treated : goal.returns-clause-treated
returns-clause-treated g c =
    let old = c.args.self.now in
    subst (λ (found : List Ambiguity). c.push_treated.new.treated ≡ old.treated ++ found) (c.deref-2.ensures.value ∙ c.in_ok-taken.ensures) c.in_ok-push_treated.ensures.ok

pub returns-in_err-push_treated-clause-fault : goal.returns-in_err-push_treated-clause-fault
returns-in_err-push_treated-clause-fault g c =
    let back : c.from_residual-in_err-push_treated.result ≡ Err (Memory c.in_err-push_treated.field-0.0) = search rules in
    rw back tt

pub returns-in_err-advance-clause-fault : goal.returns-in_err-advance-clause-fault
returns-in_err-advance-clause-fault g c =
    let back : c.from_residual-in_err-advance.result ≡ Err (Memory c.in_err-advance.field-0.0) = search rules in
    rw back tt

pub returns-in_err-advance-clause-waiting_back : goal.returns-in_err-advance-clause-waiting_back
returns-in_err-advance-clause-waiting_back g c =
    let back : c.from_residual-in_err-advance.result ≡ Err (Memory c.in_err-advance.field-0.0) = search rules in
    rw back c.in_err-advance.ensures.err

pub treat_all-requires-clause-kept : goal.treat_all-requires-clause-kept
treat_all-requires-clause-kept g c = c.in_ok-firsts.ensures.kept

pub treat_all-requires-clause-records : goal.treat_all-requires-clause-records
treat_all-requires-clause-records g c = c.requires.records

pub advance-requires-clause-over : goal.advance-requires-clause-over
advance-requires-clause-over g c = subst (λ o. All (λ (w : Waiting). IsOver (letters_of o) w.word) c.args.self.now.waiting) (sym c.treat_all.ensures.order) c.requires.over

pub advance-requires-clause-taken : goal.advance-requires-clause-taken
advance-requires-clause-taken g c = c.requires.count

pub reduce_all-requires-clause-ambiguities : goal.reduce_all-requires-clause-ambiguities
reduce_all-requires-clause-ambiguities g c κs within =
    let old = c.args.self.now in
    let Among : Waiting → Type 0 = λ w. IsAmbiguity old.rules.rules w.which in
    subst (All (IsAmbiguity old.rules.rules)) (sym (c.deref.ensures.value ∙ c.in_ok-taken.ensures))
    (All-map (IsAmbiguity old.rules.rules) (λ (w : Waiting). w.which) (take c.args.count old.waiting) (All-take Among c.args.count old.waiting c.requires.ambiguities))
