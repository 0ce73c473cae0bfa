-- What each step of a run keeps holds in all its states, and before a step with a fault.
use Rattle.outcome_laws.proofs.Prelude.{◌≡◌, ◌≤◌, ◌<◌, ℕ, zero, suc, Bool, List, [], ◌∷◌, ◌++◌, map, length, Option, None, Result, Ok, Err, refl, sym, subst, append-nil, append_assoc, All, All-nil, All-head, All-tail, first_overflow, Term, generator_at, Quiver, Compare, IsAdmissible, Rule, State, ReduceFault, normal_form_of, Ambiguity, IsAmbiguity, s_polynomial_of, IsTypedInPlay, start_is_kept, Recorded, Rest, rest_with, Adds, and_then, halted, each_in_turn, Work, generator_rows, generator_work, First, first_of, rows_operations, second_rows, second_rest, second_reduction, second_work, Goes, InTurn, InTwoPasses, Setting, RunState, went, start, recorded, IsRunState, IsGenerator, done_after}
use Rattle.outcome_laws.proofs.Results.{same_value, went_on, halted_value, second_value, failed_first}
use Rattle.outcome_laws.proofs.RoundEnds.{Takes, ZeroTurns, LaterTurns, taken_by, taken_are, zero_ends, later_ends}
use Rattle.outcome_laws.proofs.RunsKept.{BeginsWith, begins_with, IsFirst, first_with, KeptNow, generator_kept, at_once_kept, ambiguity_kept}

-- works, each with what it is for
pub data AreWorks {A : Type 0} (IsWork : A → Work → Type 0) : List A → List Work → Type 0 where
  no_works : AreWorks IsWork [] []
  work_then : (x : A) (work : Work) (xs : List A) (works : List Work) → IsWork x work → AreWorks IsWork xs works → AreWorks IsWork (x ∷ xs) (work ∷ works)

-- what holds after all works, or where one fails
abbrev pub Comes : {A : Type 0} → (List A → Recorded → Type 0) → (ReduceFault → Type 0) → List A → Result Recorded ReduceFault → Type 0
Comes P Fails all (Ok after) = P all after
Comes P Fails all (Err e) = Fails e

in_turn : {A : Type 0} (compare : Compare) (IsWork : A → Work → Type 0) (P : List A → Recorded → Type 0) (Fails : ReduceFault → Type 0)
    → ((x : A) (work : Work) (done : List A) (before after : Recorded) (rest : Option Rest) → IsWork x work → P done before → work before.rules ≡ Ok rest → Adds compare rest before after → P (done ++ x ∷ []) after)
    → ((x : A) (work : Work) (done : List A) (before : Recorded) (e : ReduceFault) → IsWork x work → P done before → work before.rules ≡ Err e → Fails e)
    → (xs : List A) (works : List Work) (done : List A) (before : Recorded) (result : Result Recorded ReduceFault) → AreWorks IsWork xs works → P done before
    → InTurn compare works before result
    → Comes P Fails (done ++ xs) result
in_turn compare IsWork P Fails keeps fails _ _ done before result no_works holds turn =
    subst (Comes P Fails (done ++ [])) (sym turn) (subst (λ d. P d before) (sym (append-nil done)) holds)
in_turn {A} compare IsWork P Fails keeps fails _ _ done before result (work_then x work xs works is others) holds turn =
    go (work before.rules) refl turn (λ between now next. in_turn compare IsWork P Fails keeps fails xs works (done ++ x ∷ []) between result others now next)
  where
    go : (r : Result (Option Rest) ReduceFault) → work before.rules ≡ r → Goes compare r before (λ between. InTurn compare works between result) result
        → ((between : Recorded) → P (done ++ x ∷ []) between → InTurn compare works between result → Comes P Fails ((done ++ x ∷ []) ++ xs) result)
        → Comes P Fails (done ++ x ∷ xs) result
    go (Err e) ends on later = subst (Comes P Fails (done ++ x ∷ xs)) (sym on) (fails x work done before e is holds ends)
    go (Ok rest) ends on later =
        subst (λ all. Comes P Fails all result) (append_assoc done (x ∷ []) xs) (later on.between (keeps x work done before on.between rest is holds ends on.added) on.next)

-- the works of a run
module _ (setting : Setting) where
  data IsGeneratorWork : ℕ → Work → Type 0 where
    generator_turn : (n : ℕ) → (1 ≤ n) × (n ≤ length setting.generators) → IsGeneratorWork n (generator_work setting.compare setting.budget.steps setting.generators n)

  generator_works : (numbers : List ℕ) → All (λ n. (1 ≤ n) × (n ≤ length setting.generators)) numbers
      → AreWorks IsGeneratorWork numbers (map (generator_work setting.compare setting.budget.steps setting.generators) numbers)
  generator_works [] in_range = no_works
  generator_works (n ∷ numbers) in_range =
      work_then n _ numbers _ (generator_turn n (All-head (λ n. (1 ≤ n) × (n ≤ length setting.generators)) n numbers in_range))
      (generator_works numbers (All-tail (λ n. (1 ≤ n) × (n ≤ length setting.generators)) n numbers in_range))

  module _ (rules : List Rule) where
    abbrev first_reduction : Ambiguity → Result First ReduceFault
    first_reduction = first_of setting.compare setting.budget.steps rules

    data IsSecondWork : Ambiguity → Work → Type 0 where
      ambiguity_turn : (a : Ambiguity) (s : State) → IsFirst setting rules a s → IsSecondWork a (second_work setting.compare setting.budget.steps (first_with rules a s))

    second_is : (a : Ambiguity) (f : First) → IsAmbiguity rules a → first_reduction a ≡ Ok f → IsSecondWork a (second_work setting.compare setting.budget.steps f)
    second_is a f is ends =
        let poly = went_on (halted (s_polynomial_of rules a)) (λ p. and_then (normal_form_of setting.compare rules p setting.budget.steps) (λ s. Ok (first_with rules a s))) f ends in
        let state = went_on (normal_form_of setting.compare rules poly.value setting.budget.steps) (λ s. Ok (first_with rules a s)) f poly.rest in
        subst (λ (g : First). IsSecondWork a (second_work setting.compare setting.budget.steps g)) (same_value (first_with rules a state.value) f state.rest)
        (ambiguity_turn a state.value (record { is = is; polynomial = poly.value; made = halted_value (s_polynomial_of rules a) poly.value poly.given; reduced = state.given }))

    second_works : (taken : List Ambiguity) (firsts : List First) → All (IsAmbiguity rules) taken → each_in_turn first_reduction taken ≡ Ok firsts
        → AreWorks IsSecondWork taken (map (second_work setting.compare setting.budget.steps) firsts)
    second_works [] firsts are ends =
        subst (λ (fs : List First). AreWorks IsSecondWork [] (map (second_work setting.compare setting.budget.steps) fs)) (same_value [] firsts ends) no_works
    second_works (a ∷ taken) firsts are ends =
        let one = went_on (first_reduction a) (λ f. and_then (each_in_turn first_reduction taken) (λ fs. Ok (f ∷ fs))) firsts ends in
        let others = went_on (each_in_turn first_reduction taken) (λ fs. Ok (one.value ∷ fs)) firsts one.rest in
        subst (λ (fs : List First). AreWorks IsSecondWork (a ∷ taken) (map (second_work setting.compare setting.budget.steps) fs)) (same_value (one.value ∷ others.value) firsts others.rest)
        (work_then a _ taken _ (second_is a one.value (All-head (IsAmbiguity rules) a taken are) one.given) (second_works taken others.value (All-tail (IsAmbiguity rules) a taken are) others.given))

module _ (q : Quiver) (play : ℕ → Bool) (letters : ℕ) (rank : List ℕ → List ℕ) (setting : Setting) (laws : IsAdmissible letters setting.compare rank) (each : All (IsGenerator q play letters) setting.generators) where
  abbrev Invariant : Recorded → List ℕ → List Ambiguity → Type 0
  Invariant = KeptNow q play letters rank setting laws each

  -- a generator has its turn
  pub record AtGenerator (P : Recorded → Type 0) (n : ℕ) (before : Recorded) : Type 0 where
    pub in_range : (1 ≤ n) × (n ≤ length setting.generators)
    pub done : List ℕ
    pub treated : List Ambiguity
    pub kept : Invariant before done treated
    pub holds : P before

  -- an ambiguity of the rules from before the round has its turn
  pub record AtAmbiguity (P : Recorded → Type 0) (rules : List Rule) (a : Ambiguity) (first : State) (before : Recorded) : Type 0 where
    pub is_first : IsFirst setting rules a first
    pub begins : BeginsWith rules before.rules
    pub done : List ℕ
    pub treated : List Ambiguity
    pub kept : Invariant before done treated
    pub holds : P before

  -- A property of the rules and their records that each step keeps, beside the invariant.
  pub record IsKept (P : Recorded → Type 0) : Type 0 where
    pub at_start : P (recorded start)
    pub generator : (n : ℕ) (before after : Recorded) (s : State) → AtGenerator P n before
        → normal_form_of setting.compare before.rules (generator_at setting.generators n) setting.budget.steps ≡ Ok s
        → Adds setting.compare (rest_with s.rest (generator_rows n s.multiplier s.rows)) before after → P after
    pub ambiguity : (rules : List Rule) (a : Ambiguity) (first : State) (before after : Recorded) (s : State) → AtAmbiguity P rules a first before
        → normal_form_of setting.compare before.rules first.rest setting.budget.steps ≡ Ok s
        → (0 < length s.rest → first_overflow (rows_operations (first_with rules a first) s) ≡ None)
        → Adds setting.compare (rest_with s.rest (second_rows (first_with rules a first) s)) before after → P after

  pub nothing_kept : IsKept (λ r. Unit {0})
  nothing_kept = record { at_start = tt; generator = λ n before after s at ends adds. tt; ambiguity = λ rules a first before after s at ends fits adds. tt }

  module _ (in_range : All (λ k. (1 ≤ k) × (k ≤ length setting.generators)) setting.in_turn) (P : Recorded → Type 0) (kept : IsKept P) where
    abbrev pub Now : List ℕ → List Ambiguity → Recorded → Type 0
    Now done treated r = Invariant r done treated × P r

    -- round 0
    pub record GeneratorFails (e : ReduceFault) : Type 0 where
      pub number : ℕ
      pub before : Recorded
      pub at : AtGenerator P number before
      pub fails : normal_form_of setting.compare before.rules (generator_at setting.generators number) setting.budget.steps ≡ Err e

    abbrev reduces : ℕ → List Rule → Result State ReduceFault
    reduces n rules = normal_form_of setting.compare rules (generator_at setting.generators n) setting.budget.steps

    abbrev rest_of : ℕ → State → Option Rest
    rest_of n s = rest_with s.rest (generator_rows n s.multiplier s.rows)

    one_generator : (treated : List Ambiguity) (x : ℕ) (work : Work) (done : List ℕ) (before after : Recorded) (rest : Option Rest) → IsGeneratorWork setting x work
        → Now done treated before
        → work before.rules ≡ Ok rest → Adds setting.compare rest before after → Now (done ++ x ∷ []) treated after
    one_generator treated _ _ done before after rest (generator_turn n inside) now ends adds =
        let went = went_on (reduces n before.rules) (λ s. Ok (rest_of n s)) rest ends in
        let added = subst (λ r. Adds setting.compare r before after) (sym (same_value (rest_of n went.value) rest went.rest)) adds in (
          generator_kept q play letters rank setting laws each n inside before after done treated went.value now.0 went.given added,
          kept.generator n before after went.value (record { in_range = inside; done = done; treated = treated; kept = now.0; holds = now.1 }) went.given added,
        )

    generator_fails : (treated : List Ambiguity) (x : ℕ) (work : Work) (done : List ℕ) (before : Recorded) (e : ReduceFault) → IsGeneratorWork setting x work
        → Now done treated before
        → work before.rules ≡ Err e → GeneratorFails e
    generator_fails treated _ _ done before e (generator_turn n inside) now ends = record {
      number = n;
      before = before;
      at = record { in_range = inside; done = done; treated = treated; kept = now.0; holds = now.1 };
      fails = failed_first (reduces n before.rules) (rest_of n) e ends;
    }

    pub zero_turns : (s : RunState) → Now [] s.treated (recorded s) → (result : Result Recorded ReduceFault) → ZeroTurns setting s result
        → Comes (λ done r. Now done s.treated r) GeneratorFails setting.in_turn result
    zero_turns s now result turns =
        in_turn setting.compare (IsGeneratorWork setting) (λ done r. Now done s.treated r) GeneratorFails (one_generator s.treated) (generator_fails s.treated) setting.in_turn
        (map (generator_work setting.compare setting.budget.steps setting.generators) setting.in_turn) [] (recorded s) result (generator_works setting setting.in_turn in_range) now turns

    -- a later round
    pub data LaterFails (rules : List Rule) (taken : List Ambiguity) (e : ReduceFault) : Type 0 where
      in_first : each_in_turn (first_of setting.compare setting.budget.steps rules) taken ≡ Err e → LaterFails rules taken e
      in_second : (a : Ambiguity) (first : State) (before : Recorded) → AtAmbiguity P rules a first before
          → second_work setting.compare setting.budget.steps (first_with rules a first) before.rules ≡ Err e → LaterFails rules taken e

    module _ (rules : List Rule) (done : List ℕ) where
      abbrev pub Later : List Ambiguity → Recorded → Type 0
      Later treated r = BeginsWith rules r.rules × Now done treated r

      one_ambiguity : (x : Ambiguity) (work : Work) (treated : List Ambiguity) (before after : Recorded) (rest : Option Rest) → IsSecondWork setting rules x work
          → Later treated before
          → work before.rules ≡ Ok rest → Adds setting.compare rest before after → Later (treated ++ x ∷ []) after
      one_ambiguity _ _ treated before after rest (ambiguity_turn a first is) now ends adds =
          (begins_with rules setting.compare rest before after now.0 adds, go first.rest refl ends)
        where
          go : (p : List Term) → first.rest ≡ p → second_reduction setting.compare setting.budget.steps (first_with rules a first) before.rules p ≡ Ok rest
              → Now done (treated ++ a ∷ []) after
          go [] none k =
              subst (Now done (treated ++ a ∷ [])) (sym (subst (λ r. Adds setting.compare r before after) (sym (same_value None rest k)) adds))
              (at_once_kept q play letters rank setting laws each rules a first is before now.0 done treated now.1.0 none, now.1.1)
          go (t ∷ p) some k =
              let went = went_on (normal_form_of setting.compare before.rules (t ∷ p) setting.budget.steps) (λ s. second_rest (first_with rules a first) s s.rest) rest k in
              let s = went.value in
              let value = second_value (first_with rules a first) s s.rest rest went.rest in
              let added = subst (λ r. Adds setting.compare r before after) (sym value.0) adds in
              let reduced = subst (λ v. normal_form_of setting.compare before.rules v setting.budget.steps ≡ Ok s) (sym some) went.given in (
                ambiguity_kept q play letters rank setting laws each rules a first is before now.0 done treated now.1.0 after s reduced added,
                kept.ambiguity rules a first before after s (record { is_first = is; begins = now.0; done = done; treated = treated; kept = now.1.0; holds = now.1.1 }) reduced value.1 added,
              )

      ambiguity_fails : (taken : List Ambiguity) (x : Ambiguity) (work : Work) (treated : List Ambiguity) (before : Recorded) (e : ReduceFault)
          → IsSecondWork setting rules x work → Later treated before
          → work before.rules ≡ Err e → LaterFails rules taken e
      ambiguity_fails taken _ _ treated before e (ambiguity_turn a first is) now ends =
          in_second a first before (record { is_first = is; begins = now.0; done = done; treated = treated; kept = now.1.0; holds = now.1.1 }) ends

    pub later_turns : (s : RunState) (done : List ℕ) → Now done s.treated (recorded s) → (takes : Takes setting s) (result : Result Recorded ReduceFault)
        → LaterTurns setting s takes result
        → Comes (Later s.rules done) (LaterFails s.rules (taken_by setting s takes)) (s.treated ++ taken_by setting s takes) result
    later_turns s done now takes result turns = go (each_in_turn (first_of setting.compare setting.budget.steps s.rules) taken) refl turns
      where
        taken : List Ambiguity
        taken = taken_by setting s takes

        go : (r : Result (List First) ReduceFault) → each_in_turn (first_of setting.compare setting.budget.steps s.rules) taken ≡ r
            → InTwoPasses setting.compare setting.budget.steps r (recorded s) result
            → Comes (Later s.rules done) (LaterFails s.rules taken) (s.treated ++ taken) result
        go (Err e) ends two = subst (Comes (Later s.rules done) (LaterFails s.rules taken) (s.treated ++ taken)) (sym two) (in_first ends)
        go (Ok firsts) ends two =
            in_turn setting.compare (IsSecondWork setting s.rules) (Later s.rules done) (LaterFails s.rules taken) (one_ambiguity s.rules done) (ambiguity_fails s.rules done taken) taken
            (map (second_work setting.compare setting.budget.steps) firsts) s.treated (recorded s) result (second_works setting s.rules taken firsts (taken_are setting s takes) ends)
            (record { more = []; is = sym (append-nil s.rules) }, now) two

    -- states
    pub run : (n : ℕ) (s : RunState) → IsRunState setting n s → Now (done_after setting n) s.treated (recorded s)
    run zero s is =
        subst (λ (t : RunState). Now [] t.treated (recorded t)) (sym is) ((start_is_kept letters setting.compare setting.generators, All-nil (λ (g : Rule). IsTypedInPlay q play g.poly.terms)), kept.at_start)
    run (suc zero) s is =
        let ends = zero_ends setting is.before (went s) is.round in
        subst (λ treated. Now setting.in_turn treated (recorded s)) (sym ends.1) (zero_turns is.before (run zero is.before is.is_before) (Ok (recorded s)) ends.0)
    run (suc (suc n)) s is =
        let ends = later_ends setting is.before (suc n) (went s) is.round in
        subst (λ treated. Now setting.in_turn treated (recorded s)) (sym ends.treated) (later_turns is.before setting.in_turn (run (suc n) is.before is.is_before) ends.takes (Ok (recorded s)) ends.turns).1
