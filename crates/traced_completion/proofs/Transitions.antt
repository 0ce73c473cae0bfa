-- What a round makes of the completion of a problem.
use Rattle.traced_completion.proofs.Prelude.{◌≡◌, ◌<◌, ◌≤◌, ℕ, zero, suc, ◌+◌, List, [], ◌∷◌, ◌++◌, length, map, take, drop, slice_get, Bool, true, false, leb, Option, Some, None, Result, Ok, Err, OnErr, refl, sym, ap, ◌∙◌, subst, arith, All, length-map, length-take-le, take-append-drop, leb-true, leb-false, Compare, asked_cmp, made_cmp, letters_of, AnyOrder, letter_count, Made, IsRecord, Rule, rule_at, ReduceFault, Ambiguity, IsAmbiguity, Problem, polynomials, units_in, Budget, Completion, Step, Went, Closed, Stopped, Waiting, each_in_turn, Recorded, generator_work, first_of, InTurn, InTwoPasses, EndsWith, units_first, AreAllPending, IsNextStore, ambiguities_of, first_word, HasRecords, RunState, Outcome, went, closed, stopped, Setting, start, recorded, taken_count, Ends, TreatsFirst, TreatsPending, IsRound, IsRoundZero, IsRunState, setting_of, IsBudget, state_of, outcome_of, IsUnchanged, IsUnchangedAfter, IsGivingUp, IsRunOf, IsCompletionOf, contains-first}
use Rattle.cofactor_trace.specs.declared.halt.Cause.TheVariants as cause
use Rattle.cofactor_trace.specs.declared.halt.Place.TheVariants as place
use Rattle.rule_reduce.specs.declared.fault.ReduceFault.TheVariants as fault
use Rattle.traced_completion.proofs.StoreLemmas.{nothing-at_first, taken-ambiguities}

-- a completion that stays
unchanged_state : (old new : Completion) → IsUnchanged old new → state_of old ≡ state_of new
unchanged_state old new same = sym (λ i. record { rules = same.rules i; made = same.made i; treated = same.treated i })

pub stays_completion : (problem : Problem) (old new : Completion) → IsUnchanged old new → IsCompletionOf problem old → IsCompletionOf problem new
stays_completion problem old new same is =
    subst (λ w. IsRunOf problem new.budget new.rules.order new.rounds (state_of new) w) (sym same.waiting)
    (subst (λ s. IsRunOf problem new.budget new.rules.order new.rounds s old.waiting) (unchanged_state old new same)
    (subst (λ n. IsRunOf problem new.budget new.rules.order n (state_of old) old.waiting) (sym same.rounds)
    (subst (λ o. IsRunOf problem new.budget o old.rounds (state_of old) old.waiting) (sym same.order)
    (subst (λ b. IsRunOf problem b old.rules.order old.rounds (state_of old) old.waiting) (sym same.budget) is))))

pub on_error : {T E : Type 0} (r : Result T E) (P : Type 0) → P → OnErr r P
on_error (Ok x) P p = tt
on_error (Err e) P p = p

pub stays_after : (step : Step) (old new : Completion) → IsUnchanged old new → IsUnchangedAfter step old new
stays_after Went old new same = tt
stays_after Closed old new same = same
stays_after (Stopped halt) old new same = same

-- what was tried is taken back
pub taken_back : (old tried new : Completion) (rules treated : ℕ) → rules ≡ length old.rules.rules → treated ≡ length old.treated → length old.made ≡ length old.rules.rules
    → tried.budget ≡ old.budget → tried.rounds ≡ old.rounds → tried.rules.order ≡ old.rules.order
    → take (length old.rules.rules) tried.rules.rules ≡ old.rules.rules → take (length old.made) tried.made ≡ old.made → take (length old.treated) tried.treated ≡ old.treated → tried.waiting ≡ old.waiting
    → new.budget ≡ tried.budget → new.rounds ≡ tried.rounds → new.rules.order ≡ tried.rules.order
    → new.rules.rules ≡ take rules tried.rules.rules → new.made ≡ take rules tried.made → new.treated ≡ take treated tried.treated → new.waiting ≡ tried.waiting
    → tried.is_light ≡ old.is_light → new.is_light ≡ tried.is_light → IsUnchanged old new
taken_back old tried new rules treated rules_are treated_are one_each budget rounds order rules_front made_front treated_front waiting budget_back rounds_back order_back rules_back made_back treated_back waiting_back light light_back = record {
  budget = budget_back ∙ budget;
  rounds = rounds_back ∙ rounds;
  order = order_back ∙ order;
  rules = rules_back ∙ ap (λ n. take n tried.rules.rules) rules_are ∙ rules_front;
  made = made_back ∙ ap (λ n. take n tried.made) (rules_are ∙ sym one_each) ∙ made_front;
  treated = treated_back ∙ ap (λ n. take n tried.treated) treated_are ∙ treated_front;
  waiting = waiting_back ∙ waiting;
  is_light = light_back ∙ light;
}

-- the setting
module _ (problem : Problem) (budget : Budget) (order : AnyOrder) (rounds : ℕ) (s : RunState) (waiting : List Waiting) (is : IsRunOf problem budget order rounds s waiting) where
  abbrev setting : Setting
  setting = setting_of problem budget

  abbrev asked : Compare
  asked = asked_cmp problem.parts.order

  pub same_compare : made_cmp order ≡ asked_cmp problem.parts.order
  same_compare = λ i u v. is.compares u v i

  pub waiting_made : AreAllPending (made_cmp order) s.rules s.treated waiting
  waiting_made = subst (λ c. AreAllPending c s.rules s.treated waiting) (sym same_compare) is.all_waiting

  -- what is waiting when ambiguities are treated and rules are appended
  module _ (rules' : List Rule) (count : ℕ) (front : take (length s.rules) rules' ≡ s.rules) where
    appended : rules' ≡ s.rules ++ drop (length s.rules) rules'
    appended = sym (take-append-drop (length s.rules) rules') ∙ ap (λ rs. rs ++ drop (length s.rules) rules') front

    pub next_treated : All (IsAmbiguity rules') (s.treated ++ ambiguities_of (take count waiting))
    next_treated =
        subst (λ rs. All (IsAmbiguity rs) (s.treated ++ ambiguities_of (take count waiting))) (sym appended)
        (taken-ambiguities asked s.rules (drop (length s.rules) rules') s.treated waiting count is.treated is.all_waiting)

    pub next_waiting : (waiting' : List Waiting) → IsNextStore (made_cmp order) rules' (length s.rules) count waiting waiting'
        → AreAllPending asked rules' (s.treated ++ ambiguities_of (take count waiting)) waiting'
    next_waiting waiting' next =
        subst (λ c. AreAllPending c rules' (s.treated ++ ambiguities_of (take count waiting)) waiting') same_compare
        (next s.treated (subst (λ rs. All (IsAmbiguity rs) s.treated) (sym front) is.treated)
        (subst (λ rs. AreAllPending (made_cmp order) rs s.treated waiting) (sym front) waiting_made))

  -- the first round
  module _ (first : rounds ≡ 0) where
    pub at_start : s ≡ start
    at_start = subst (λ n. IsRunState setting n s) first is.run

    no_rule_waiting : (ws : List Waiting) → AreAllPending asked [] s.treated ws → ws ≡ []
    no_rule_waiting [] all = refl
    no_rule_waiting (w ∷ ws) all = absurd (none w.which ((all.members w).0 (contains-first w ws)).is)
      where
        none : (a : Ambiguity) → IsAmbiguity [] a → ⊥
        none a at = no_rule a.i at.first at.first_numbered
          where
            no_rule : (n : ℕ) (g : Rule) → rule_at [] n ≡ Some g → ⊥
            no_rule zero g has = cc
            no_rule (suc n) g has = cc

    pub none_waiting : waiting ≡ []
    none_waiting = no_rule_waiting waiting (subst (λ rs. AreAllPending asked rs s.treated waiting) (ap (λ (t : RunState). t.rules) at_start) is.all_waiting)

    pub no_rules : s.rules ≡ []
    no_rules = ap (λ (t : RunState). t.rules) at_start

    pub zero_outcome : (result : Result Recorded ReduceFault)
        → InTurn (made_cmp order) (map (generator_work (made_cmp order) budget.steps (polynomials problem.generators)) (units_first (length (units_in problem.parts)) (length problem.generators))) (recorded s) result
        → (outcome : Outcome) → Ends 0 None s.treated result outcome → IsRound setting rounds s outcome
    zero_outcome result turn outcome ends =
        let zero_is : IsRoundZero setting s outcome = record {
          result = result;
          generators =
              subst (λ c. InTurn c (map (generator_work c budget.steps (polynomials problem.generators)) (units_first (length (units_in problem.parts)) (length problem.generators))) (recorded s) result) same_compare turn;
          ends = ends;
        } in
        subst (λ n. IsRound setting n s outcome) (sym first) zero_is

  -- a later round
  module _ (later : 0 < rounds) (some : 0 < length waiting) where
    in_later : (outcome : Outcome) → TreatsPending setting rounds s waiting outcome → IsRound setting rounds s outcome
    in_later outcome treats = go rounds later treats
      where
        go : (n : ℕ) → 0 < n → TreatsPending setting n s waiting outcome → IsRound setting n s outcome
        go zero above t = absurd (omega (arith, above))
        go (suc n) above t = record { pending = waiting; all_pending = is.all_waiting; treats = t }

    pub spent_outcome : leb budget.pairs (length s.treated) ≡ true → IsRound setting rounds s (stopped (record { cause = cause.Pairs (length s.treated); place = place.Run; least = first_word waiting }))
    spent_outcome spent = in_later (stopped (record { cause = cause.Pairs (length s.treated); place = place.Run; least = first_word waiting })) (go waiting some)
      where
        go : (ws : List Waiting) → 0 < length ws → TreatsPending setting rounds s ws (stopped (record { cause = cause.Pairs (length s.treated); place = place.Run; least = first_word ws }))
        go [] above = absurd (omega (arith, above))
        go (w ∷ ws) above =
            subst (λ b. TreatsFirst setting rounds s w.word (w ∷ ws) b (stopped (record { cause = cause.Pairs (length s.treated); place = place.Run; least = Some w.word }))) (sym spent) refl

    pub treated_outcome : leb budget.pairs (length s.treated) ≡ false → (count : ℕ) → count ≡ taken_count budget s waiting → (result : Result Recorded ReduceFault)
        → InTwoPasses (made_cmp order) budget.steps (each_in_turn (first_of (made_cmp order) budget.steps s.rules) (ambiguities_of (take count waiting))) (recorded s) result
        → (outcome : Outcome) → Ends rounds (first_word waiting) (s.treated ++ ambiguities_of (take count waiting)) result outcome → IsRound setting rounds s outcome
    treated_outcome left count counted result passes outcome ends = in_later outcome (go waiting refl some)
      where
        passed : InTwoPasses asked budget.steps (each_in_turn (first_of asked budget.steps s.rules) (ambiguities_of (take (taken_count budget s waiting) waiting))) (recorded s) result
        passed =
            subst (λ c. InTwoPasses c budget.steps (each_in_turn (first_of c budget.steps s.rules) (ambiguities_of (take (taken_count budget s waiting) waiting))) (recorded s) result) same_compare
            (subst (λ n. InTwoPasses (made_cmp order) budget.steps (each_in_turn (first_of (made_cmp order) budget.steps s.rules) (ambiguities_of (take n waiting))) (recorded s) result) counted passes)

        ended : Ends rounds (first_word waiting) (s.treated ++ ambiguities_of (take (taken_count budget s waiting) waiting)) result outcome
        ended = subst (λ n. Ends rounds (first_word waiting) (s.treated ++ ambiguities_of (take n waiting)) result outcome) counted ends

        go : (ws : List Waiting) → waiting ≡ ws → 0 < length ws → TreatsPending setting rounds s ws outcome
        go [] same above = absurd (omega (arith, above))
        go (w ∷ ws) same above =
            subst (λ b. TreatsFirst setting rounds s w.word (w ∷ ws) b outcome) (sym left) (record {
              result = result;
              passes = subst (λ vs. InTwoPasses asked budget.steps (each_in_turn (first_of asked budget.steps s.rules) (ambiguities_of (take (taken_count budget s vs) vs))) (recorded s) result) same passed;
              ends = subst (λ vs. Ends rounds (first_word vs) (s.treated ++ ambiguities_of (take (taken_count budget s vs) vs)) result outcome) same ended;
            })

  pub closed_outcome : 0 < rounds → waiting ≡ [] → IsRound setting rounds s closed
  closed_outcome later none = go rounds later
    where
      go : (n : ℕ) → 0 < n → IsRound setting n s closed
      go zero above = absurd (omega (arith, above))
      go (suc n) above = record { pending = []; all_pending = subst (λ ws. AreAllPending asked s.rules s.treated ws) none is.all_waiting; treats = refl }

  pub closed_for_none : 0 < rounds → length waiting ≡ 0 → IsRound setting rounds s closed
  closed_for_none later none = closed_outcome later (go waiting none)
    where
      go : (ws : List Waiting) → length ws ≡ 0 → ws ≡ []
      go [] k = refl
      go (w ∷ ws) k = absurd (omega (arith, k))

  -- the run after the round
  pub next_run : (t : RunState) (waiting' : List Waiting) (count : ℕ) → take (length s.rules) t.rules ≡ s.rules → t.treated ≡ s.treated ++ ambiguities_of (take count waiting)
      → IsNextStore (made_cmp order) t.rules (length s.rules) count waiting waiting' → HasRecords (recorded t)
      → length t.treated ≤ budget.pairs → length t.rules ≤ length problem.generators + length t.treated → suc rounds ≤ suc (length t.treated)
      → IsRound setting rounds s (went t)
      → (budget' : Budget) (order' : AnyOrder) (rounds' : ℕ) → budget' ≡ budget → order' ≡ order → rounds' ≡ suc rounds → IsRunOf problem budget' order' rounds' t waiting'
  next_run t waiting' count front treated next records few_treated few_rules few_rounds round budget' order' rounds' same_budget same_order same_rounds =
      let here : IsRunOf problem budget order (suc rounds) t waiting' = record {
        compares = is.compares;
        letters = is.letters;
        in_budget = is.in_budget;
        run = record { before = s; is_before = is.run; round = round };
        treated = subst (All (IsAmbiguity t.rules)) (sym treated) (next_treated t.rules count front);
        all_waiting = subst (λ ts. AreAllPending asked t.rules ts waiting') (sym treated) (next_waiting t.rules count front waiting' next);
        records = records;
        few_treated = few_treated;
        few_rules = few_rules;
        few_rounds = few_rounds;
      } in
      subst (λ n. IsRunOf problem budget' order' n t waiting') (sym same_rounds)
      (subst (λ o. IsRunOf problem budget' o (suc rounds) t waiting') (sym same_order) (subst (λ b. IsRunOf problem b order (suc rounds) t waiting') (sym same_budget) here))

-- the run before round 0
none_there : (m : Made) → ◌≡◌ {A = Option Made} None (Some m) → ⊥
none_there m is = cc

no_record : (place : ℕ) (m : Made) → slice_get [] place ≡ Some m → IsRecord place m
no_record zero m is = absurd (none_there m is)
no_record (suc n) m is = absurd (none_there m is)

pub first_run : (problem : Problem) (budget : Budget) (order : AnyOrder) (rules : List Rule) (made : List Made) (treated : List Ambiguity) (waiting : List Waiting)
    → ((u v : List ℕ) → made_cmp order u v ≡ asked_cmp problem.parts.order u v) → letter_count problem.parts.quiver ≤ letters_of order → IsBudget budget
    → rules ≡ [] → made ≡ [] → treated ≡ [] → waiting ≡ [] → IsRunOf problem budget order 0 (record { rules = rules; made = made; treated = treated }) waiting
first_run problem budget order rules made treated waiting compares letters in_budget rules_are made_are treated_are waiting_are =
    let there : start ≡ record { rules = rules; made = made; treated = treated } = sym (λ i. record { rules = rules_are i; made = made_are i; treated = treated_are i }) in
    let here : IsRunOf problem budget order 0 start [] = record {
      compares = compares;
      letters = letters;
      in_budget = in_budget;
      run = refl;
      treated = λ k d below. absurd (omega (arith, below));
      all_waiting = nothing-at_first (asked_cmp problem.parts.order) [];
      records = record { one_each = refl; records = record { at = no_record } };
      few_treated = omega arith;
      few_rules = omega arith;
      few_rounds = omega arith;
    } in
    subst (λ s. IsRunOf problem budget order 0 s waiting) there (subst (IsRunOf problem budget order 0 start) (sym waiting_are) here)

-- how the works end, and the outcome
pub record Ending (P : Result Recorded ReduceFault → Type 0) (number : ℕ) (least : Option (List ℕ)) (treated : List Ambiguity) (outcome : Outcome) : Type 0 where
  pub result : Result Recorded ReduceFault
  pub holds : P result
  pub ends : Ends number least treated result outcome

pub given_up : (P : Result Recorded ReduceFault → Type 0) (number : ℕ) (least : Option (List ℕ)) (treated : List Ambiguity) (e : ReduceFault) (step : Step) (t : RunState)
    → EndsWith P e → IsGivingUp e number least step → Ending P number least treated (outcome_of step t)
given_up P number least treated (fault.Steps limit) step t ends giving = record { result = Err (fault.Steps limit); holds = ends; ends = record { reason = giving.reason; reason_of = giving.reason_of; stops = ap (λ x. outcome_of x t) giving.stops } }
given_up P number least treated (fault.Overflow o) step t ends giving = record { result = Err (fault.Overflow o); holds = ends; ends = record { reason = giving.reason; reason_of = giving.reason_of; stops = ap (λ x. outcome_of x t) giving.stops } }
given_up P number least treated (fault.Size z) step t ends giving = record { result = Err (fault.Size z); holds = ends; ends = record { reason = giving.reason; reason_of = giving.reason_of; stops = ap (λ x. outcome_of x t) giving.stops } }
given_up P number least treated (fault.Memory e) step t ends giving = absurd giving.reason_of

-- numbers
pub is_spent : (pairs treated : ℕ) → pairs ≤ treated → leb pairs treated ≡ true
is_spent pairs treated most = go (leb pairs treated) refl
  where
    go : (b : Bool) → leb pairs treated ≡ b → leb pairs treated ≡ true
    go true is = is
    go false is = absurd (omega (arith, most, leb-false pairs treated is))

pub not_spent : (pairs treated : ℕ) → treated < pairs → leb pairs treated ≡ false
not_spent pairs treated left = go (leb pairs treated) refl
  where
    go : (b : Bool) → leb pairs treated ≡ b → leb pairs treated ≡ false
    go true is = absurd (omega (arith, left, leb-true pairs treated is))
    go false is = is

pub taken_length : (count : ℕ) (waiting : List Waiting) → count ≤ length waiting → length (ambiguities_of (take count waiting)) ≡ count
taken_length count waiting most = length-map (take count waiting) (λ (w : Waiting). w.which) ∙ length-take-le count waiting most
