-- The states of a run: their rules, and how many there are.
use Rattle.traced_completion.proofs.Prelude.{◌≡◌, ◌<◌, ◌≤◌, ◌+◌, ℕ, zero, suc, List, [], ◌∷◌, ◌++◌, length, map, take, Bool, true, false, leb, Option, Some, None, Result, Ok, Err, refl, sym, ap, ◌∙◌, subst, arith, get_or, All, leb-false, length-append, length-map, All-append, All-map, All-take, All-nil, All-cons, All-tail, Term, generator_at, Compare, Row, Rule, State, ReduceFault, PolyFault, Overflow, first_overflow, IsRule, normal_form_of, Ambiguity, IsAmbiguity, s_rows_of, s_polynomial_of, IsWord, AreWords, words_from, normal_words, s_words, Waiting, and_then, halted, each_in_turn, unless_overflow, Recorded, Rest, rest_with, Adds, Work, generator_rows, generator_work, First, first_of, second_rest, second_reduction, second_rows, rows_operations, second_work, Goes, InTurn, InTwoPasses, AreAllPending, ambiguities_of, Setting, RunState, went, closed, stopped, Ends, recorded, taken_count, IsTreated, TreatsFirst, TreatsPending, IsRoundZero, IsLaterRound, HasWords, StatesHaveRules, IsBounded, StatesAreBounded, Halt, all_one}
use Rattle.traced_completion.proofs.StoreLemmas.{pending-all}
use Rattle.traced_completion.proofs.FirstReductions.{each_length}
use Rattle.traced_completion.proofs.Transitions.{taken_length}
use Rattle.traced_completion.proofs.RunRules.{made_is_rule}

ok_is : {A : Type 0} (x y : A) → ◌≡◌ {A = Result A ReduceFault} (Ok x) (Ok y) → x ≡ y
ok_is x y same = cc

ok_err : {A : Type 0} (x : A) (e : ReduceFault) → ◌≡◌ {A = Result A ReduceFault} (Ok x) (Err e) → ⊥
ok_err x e same = cc

some_is : (x y : Rest) → ◌≡◌ {A = Option Rest} (Some x) (Some y) → x ≡ y
some_is x y same = cc

some_none : (x : Rest) → ◌≡◌ {A = Option Rest} None (Some x) → ⊥
some_none x same = cc

went_is : (s t : RunState) → went s ≡ went t → s ≡ t
went_is s t same = cc

went_closed : (t : RunState) → went t ≡ closed → ⊥
went_closed t same = cc

-- what works keep
module _ (letters : ℕ) (compare : Compare) where
  -- what is left by rules is of words
  abbrev KeepsWords : Work → Type 0
  KeepsWords work = (rules : List Rule) → All (IsRule letters compare) rules → (rest : Rest) → work rules ≡ Ok (Some rest) → AreWords letters rest.polynomial

  rest_words : (p : List Term) (rows : List Row) (rest : Rest) → rest_with p rows ≡ Some rest → AreWords letters p → AreWords letters rest.polynomial
  rest_words [] rows rest same words = absurd (some_none rest same)
  rest_words (t ∷ p) rows rest same words = subst (AreWords letters) (ap (λ (r : Rest). r.polynomial) (some_is _ rest same)) words

  generator_keeps : (steps : ℕ) (generators : List (List Term)) (number : ℕ) → AreWords letters (generator_at generators number) → KeepsWords (generator_work compare steps generators number)
  generator_keeps steps generators number words rules are_rules rest same = go (normal_form_of compare rules (generator_at generators number) steps) refl same
    where
      go : (r : Result State ReduceFault) → normal_form_of compare rules (generator_at generators number) steps ≡ r → and_then r (λ s. Ok (rest_with s.rest (generator_rows number s.multiplier s.rows))) ≡ Ok (Some rest) → AreWords letters rest.polynomial
      go (Err e) ends k = absurd (ok_err (Some rest) e (sym k))
      go (Ok s) ends k = rest_words s.rest (generator_rows number s.multiplier s.rows) rest (ok_is _ (Some rest) k) (normal_words letters compare rules are_rules (generator_at generators number) steps s words ends)

  second_left : (f : First) (s : State) (p : List Term) (rest : Rest) → second_rest f s p ≡ Ok (Some rest) → AreWords letters p → AreWords letters rest.polynomial
  second_left f s [] rest same words = absurd (some_none rest (ok_is _ _ same))
  second_left f s (t ∷ p) rest same words = go (first_overflow (rows_operations f s)) same
    where
      go : (o : Option Overflow) → unless_overflow o (rest_with (t ∷ p) (second_rows f s)) ≡ Ok (Some rest) → AreWords letters rest.polynomial
      go None k = rest_words (t ∷ p) (second_rows f s) rest (ok_is _ (Some rest) k) words
      go (Some o) k = absurd (ok_err (Some rest) _ (sym k))

  second_keeps : (steps : ℕ) (f : First) → AreWords letters f.reduced.rest → KeepsWords (second_work compare steps f)
  second_keeps steps f words rules are_rules rest same = on f.reduced.rest words same
    where
      on : (p : List Term) → AreWords letters p → second_reduction compare steps f rules p ≡ Ok (Some rest) → AreWords letters rest.polynomial
      on [] each k = absurd (some_none rest (ok_is _ _ k))
      on (t ∷ p) each k = go (normal_form_of compare rules (t ∷ p) steps) refl k
        where
          go : (r : Result State ReduceFault) → normal_form_of compare rules (t ∷ p) steps ≡ r → and_then r (λ s. second_rest f s s.rest) ≡ Ok (Some rest) → AreWords letters rest.polynomial
          go (Err e) ends m = absurd (ok_err (Some rest) e (sym m))
          go (Ok s) ends m = second_left f s s.rest rest m (normal_words letters compare rules are_rules (t ∷ p) steps s each ends)

  -- the first reductions
  module _ (steps : ℕ) (rules : List Rule) (are_rules : All (IsRule letters compare) rules) where
    first_words : (a : Ambiguity) (f : First) → IsAmbiguity rules a → first_of compare steps rules a ≡ Ok f → AreWords letters f.reduced.rest
    first_words a f is same = go (s_polynomial_of rules a) refl same
      where
        after : (p : List Term) → AreWords letters p → (r : Result State ReduceFault) → normal_form_of compare rules p steps ≡ r → and_then r (λ s. Ok (record { rows = s_rows_of rules a; reduced = s })) ≡ Ok f → AreWords letters f.reduced.rest
        after p words (Err e) ends k = absurd (ok_err f e (sym k))
        after p words (Ok s) ends k = subst (λ (g : First). AreWords letters g.reduced.rest) (ok_is _ f k) (normal_words letters compare rules are_rules p steps s words ends)

        go : (r : Result (List Term) PolyFault) → s_polynomial_of rules a ≡ r
            → and_then (halted r) (λ p. and_then (normal_form_of compare rules p steps) (λ s. Ok (record { rows = s_rows_of rules a; reduced = s }))) ≡ Ok f → AreWords letters f.reduced.rest
        go (Err e) ends k = absurd (ok_err f _ (sym k))
        go (Ok p) ends k = after p (s_words letters compare rules are_rules a is p ends) (normal_form_of compare rules p steps) refl k

    abbrev FirstWords : First → Type 0
    FirstWords f = AreWords letters f.reduced.rest

    firsts_words : (taken : List Ambiguity) (fs : List First) → All (IsAmbiguity rules) taken → each_in_turn (first_of compare steps rules) taken ≡ Ok fs → All FirstWords fs
    firsts_words [] fs each same = subst (All FirstWords) (ok_is [] fs same) (All-nil FirstWords)
    firsts_words (a ∷ taken) fs each same =
        go (first_of compare steps rules a) (each_in_turn (first_of compare steps rules) taken) refl refl (λ gs have. firsts_words taken gs (All-tail (IsAmbiguity rules) a taken each) have) same
      where
        go : (r : Result First ReduceFault) (q : Result (List First) ReduceFault) → first_of compare steps rules a ≡ r → each_in_turn (first_of compare steps rules) taken ≡ q
            → ((gs : List First) → each_in_turn (first_of compare steps rules) taken ≡ Ok gs → All FirstWords gs)
            → and_then r (λ f. and_then q (λ gs. Ok (f ∷ gs))) ≡ Ok fs → All FirstWords fs
        go (Err e) q one others rest k = absurd (ok_err fs e (sym k))
        go (Ok f) (Err e) one others rest k = absurd (ok_err fs e (sym k))
        go (Ok f) (Ok gs) one others rest k = subst (All FirstWords) (ok_is (f ∷ gs) fs k) (All-cons FirstWords f gs (first_words a f (each 0 a (omega arith)) one) (rest gs others))

    second_works : (fs : List First) → All FirstWords fs → All KeepsWords (map (second_work compare steps) fs)
    second_works fs each = All-map KeepsWords (second_work compare steps) fs (λ i f below. second_keeps steps (get_or fs i f) (each i f below))

  -- rules stay rules
  adds_rules : (rest : Option Rest) (before after : Recorded) → Adds compare rest before after → All (IsRule letters compare) before.rules → ((r : Rest) → rest ≡ Some r → AreWords letters r.polynomial) → All (IsRule letters compare) after.rules
  adds_rules None before after same are words = subst (λ (r : Recorded). All (IsRule letters compare) r.rules) (sym same) are
  adds_rules (Some rest) before after more are words =
      subst (λ (r : Recorded). All (IsRule letters compare) r.rules) (sym more.appended)
      (All-append (IsRule letters compare) before.rules (more.rule ∷ []) are
      (all_one (IsRule letters compare) more.rule (made_is_rule letters compare rest more.rule more.made more.made_from (words rest refl))))

  pub turns_rules : (works : List Work) (before t : Recorded) → InTurn compare works before (Ok t) → All (IsRule letters compare) before.rules → All KeepsWords works → All (IsRule letters compare) t.rules
  turns_rules [] before t turn are each = subst (λ (r : Recorded). All (IsRule letters compare) r.rules) (ok_is before t (sym turn)) are
  turns_rules (work ∷ works) before t turn are each = go (work before.rules) refl (λ s next still. turns_rules works s t next still (All-tail KeepsWords work works each)) turn
    where
      go : (r : Result (Option Rest) ReduceFault) → work before.rules ≡ r
          → ((s : Recorded) → InTurn compare works s (Ok t) → All (IsRule letters compare) s.rules → All (IsRule letters compare) t.rules)
          → Goes compare r before (λ s. InTurn compare works s (Ok t)) (Ok t) → All (IsRule letters compare) t.rules
      go (Err e) has rest k = absurd (ok_err t e k)
      go (Ok o) has rest k = rest k.between k.next (adds_rules o before k.between k.added are (λ r same. each 0 work (omega arith) before.rules are r (has ∙ ap Ok same)))

  pub passes_rules : (steps : ℕ) (before t : Recorded) (taken : List Ambiguity) → All (IsAmbiguity before.rules) taken → All (IsRule letters compare) before.rules
      → InTwoPasses compare steps (each_in_turn (first_of compare steps before.rules) taken) before (Ok t) → All (IsRule letters compare) t.rules
  passes_rules steps before t taken each are passes = go (each_in_turn (first_of compare steps before.rules) taken) refl passes
    where
      go : (r : Result (List First) ReduceFault) → each_in_turn (first_of compare steps before.rules) taken ≡ r → InTwoPasses compare steps r before (Ok t) → All (IsRule letters compare) t.rules
      go (Err e) has k = absurd (ok_err t e k)
      go (Ok fs) has k =
          turns_rules (map (second_work compare steps) fs) before t k are
          (second_works steps before.rules are fs (firsts_words steps before.rules are taken fs each has))

  generator_words : (generators : List (List Term)) → All (HasWords letters) generators → (number : ℕ) → AreWords letters (generator_at generators number)
  generator_words generators each zero = All-nil (λ (t : Term). IsWord letters t.1)
  generator_words [] each (suc n) = All-nil (λ (t : Term). IsWord letters t.1)
  generator_words (p ∷ generators) each (suc zero) = let words = each 0 p (omega arith) in words_from letters p words.nonempty words.over
  generator_words (p ∷ generators) each (suc (suc n)) = generator_words generators (All-tail (HasWords letters) p generators each) (suc n)

  generator_works : (steps : ℕ) (generators : List (List Term)) → All (HasWords letters) generators → (numbers : List ℕ) → All KeepsWords (map (generator_work compare steps generators) numbers)
  generator_works steps generators each numbers = All-map KeepsWords (generator_work compare steps generators) numbers (λ i n below. generator_keeps steps generators (get_or numbers i n) (generator_words generators each (get_or numbers i n)))

-- how many rules works add
module _ (compare : Compare) where
  -- one record for each rule, and at most this many rules
  record Counts (most : ℕ) (r : Recorded) : Type 0 where
    one_each : length r.made ≡ length r.rules
    few : length r.rules ≤ most

  adds_counts : (most : ℕ) (rest : Option Rest) (before after : Recorded) → Adds compare rest before after → Counts most before → Counts (suc most) after
  adds_counts most None before after same counts = record {
    one_each = ap (λ (r : Recorded). length r.made) same ∙ counts.one_each ∙ ap (λ (r : Recorded). length r.rules) (sym same);
    few = omega (arith, ap (λ (r : Recorded). length r.rules) same, counts.few);
  }
  adds_counts most (Some rest) before after more counts =
      let rules_length = ap (λ (r : Recorded). length r.rules) more.appended ∙ length-append before.rules (more.rule ∷ []) in
      let made_length = ap (λ (r : Recorded). length r.made) more.appended ∙ length-append before.made (more.made ∷ []) in
      record { one_each = omega (arith, rules_length, made_length, counts.one_each); few = omega (arith, rules_length, counts.few) }

  turns_counts : (most : ℕ) (works : List Work) (before t : Recorded) → InTurn compare works before (Ok t) → Counts most before → Counts (length works + most) t
  turns_counts most [] before t turn counts = record {
    one_each = ap (λ (r : Recorded). length r.made) (ok_is t before turn) ∙ counts.one_each ∙ ap (λ (r : Recorded). length r.rules) (sym (ok_is t before turn));
    few = omega (arith, ap (λ (r : Recorded). length r.rules) (ok_is t before turn), counts.few);
  }
  turns_counts most (work ∷ works) before t turn counts = go (work before.rules) (λ s next still. turns_counts (suc most) works s t next still) turn
    where
      go : (r : Result (Option Rest) ReduceFault) → ((s : Recorded) → InTurn compare works s (Ok t) → Counts (suc most) s → Counts (length works + suc most) t)
          → Goes compare r before (λ s. InTurn compare works s (Ok t)) (Ok t) → Counts (length (work ∷ works) + most) t
      go (Err e) rest k = absurd (ok_err t e k)
      go (Ok o) rest k = let after = rest k.between k.next (adds_counts most o before k.between k.added counts) in record { one_each = after.one_each; few = omega (arith, after.few) }

  passes_counts : (most steps : ℕ) (before t : Recorded) (taken : List Ambiguity) → InTwoPasses compare steps (each_in_turn (first_of compare steps before.rules) taken) before (Ok t) → Counts most before → Counts (length taken + most) t
  passes_counts most steps before t taken passes counts = go (each_in_turn (first_of compare steps before.rules) taken) refl passes
    where
      go : (r : Result (List First) ReduceFault) → each_in_turn (first_of compare steps before.rules) taken ≡ r → InTwoPasses compare steps r before (Ok t) → Counts (length taken + most) t
      go (Err e) has k = absurd (ok_err t e k)
      go (Ok fs) has k =
          let after = turns_counts most (map (second_work compare steps) fs) before t k counts in
          record { one_each = after.one_each; few = omega (arith, after.few, length-map fs (second_work compare steps), each_length (first_of compare steps before.rules) taken fs has) }

-- rounds that were made whole
went_stopped : (s : RunState) (h : Halt) → went s ≡ stopped h → ⊥
went_stopped s h same = cc

ends_ok : (number : ℕ) (least : Option (List ℕ)) (treated : List Ambiguity) (r : Result Recorded ReduceFault) (s : RunState) → Ends number least treated r (went s) → (r ≡ Ok (recorded s)) × (s.treated ≡ treated)
ends_ok number least treated (Ok t) s ends = (ap (λ (x : RunState). Ok (recorded x)) (sym (went_is s _ ends)), ap (λ (x : RunState). x.treated) (went_is s _ ends))
ends_ok number least treated (Err e) s ends = absurd (went_stopped s _ ends.stops)

record Whole (setting : Setting) (s t : RunState) : Type 0 where
  taken : List Ambiguity
  ambiguities : All (IsAmbiguity s.rules) taken
  passes : InTwoPasses setting.compare setting.budget.steps (each_in_turn (first_of setting.compare setting.budget.steps s.rules) taken) (recorded s) (Ok (recorded t))
  treated : t.treated ≡ s.treated ++ taken
  some : 1 ≤ length taken
  few : length s.treated + length taken ≤ setting.budget.pairs

module _ (setting : Setting) (number : ℕ) (s t : RunState) where
  whole_round : (least : List ℕ) (pending : List Waiting) → AreAllPending setting.compare s.rules s.treated pending → 0 < length pending → length s.treated < setting.budget.pairs
      → IsTreated setting number s least (ambiguities_of (take (taken_count setting.budget s pending) pending)) (went t) → Whole setting s t
  whole_round least pending all some left is =
      let count = taken_count setting.budget s pending in
      let ends = ends_ok number (Some least) (s.treated ++ ambiguities_of (take count pending)) is.result t is.ends in
      let size : length (ambiguities_of (take count pending)) ≡ count = taken_length count pending (omega arith) in
      record {
        taken = ambiguities_of (take count pending);
        ambiguities = All-map (IsAmbiguity s.rules) (λ (w : Waiting). w.which) (take count pending)
            (All-take (λ (w : Waiting). IsAmbiguity s.rules w.which) count pending (pending-all (λ (w : Waiting). IsAmbiguity s.rules w.which) setting.compare s.rules s.treated pending all (λ w one. one.is)));
        passes =
            subst (InTwoPasses setting.compare setting.budget.steps (each_in_turn (first_of setting.compare setting.budget.steps s.rules) (ambiguities_of (take count pending))) (recorded s)) ends.0 is.passes;
        treated = ends.1;
        some = omega (arith, size, some, left);
        few = omega (arith, size, some, left);
      }

  later_whole : IsLaterRound setting number s (went t) → Whole setting s t
  later_whole is = go is.pending is.all_pending is.treats
    where
      on : (w : Waiting) (ws : List Waiting) (b : Bool) → leb setting.budget.pairs (length s.treated) ≡ b → AreAllPending setting.compare s.rules s.treated (w ∷ ws) → TreatsFirst setting number s w.word (w ∷ ws) b (went t) → Whole setting s t
      on w ws true spent all treats = absurd (went_stopped t _ treats)
      on w ws false left all treats = whole_round w.word (w ∷ ws) all (omega arith) (leb-false setting.budget.pairs (length s.treated) left) treats

      go : (pending : List Waiting) → AreAllPending setting.compare s.rules s.treated pending → TreatsPending setting number s pending (went t) → Whole setting s t
      go [] all treats = absurd (went_closed t treats)
      go (w ∷ ws) all treats = on w ws (leb setting.budget.pairs (length s.treated)) refl all treats

  zero_turn : IsRoundZero setting s (went t) → InTurn setting.compare (map (generator_work setting.compare setting.budget.steps setting.generators) setting.in_turn) (recorded s) (Ok (recorded t)) × (t.treated ≡ s.treated)
  zero_turn is =
      let ends = ends_ok 0 None s.treated is.result t is.ends in
      (subst (InTurn setting.compare (map (generator_work setting.compare setting.budget.steps setting.generators) setting.in_turn) (recorded s)) ends.0 is.generators, ends.1)

-- states
pub states_rules : StatesHaveRules
states_rules letters setting zero s words is = subst (λ (x : RunState). All (IsRule letters setting.compare) x.rules) (sym is) (λ i g inside. absurd (omega (arith, inside)))
states_rules letters setting (suc zero) s words is =
    let before = states_rules letters setting zero is.before words is.is_before in
    let turn = zero_turn setting 0 is.before s is.round in
    turns_rules letters setting.compare (map (generator_work setting.compare setting.budget.steps setting.generators) setting.in_turn) (recorded is.before) (recorded s) turn.0 before
    (generator_works letters setting.compare setting.budget.steps setting.generators words setting.in_turn)
states_rules letters setting (suc (suc n)) s words is =
    let before = states_rules letters setting (suc n) is.before words is.is_before in
    let whole = later_whole setting (suc n) is.before s is.round in
    passes_rules letters setting.compare setting.budget.steps (recorded is.before) (recorded s) whole.taken whole.ambiguities before whole.passes

pub states_bounded : StatesAreBounded
states_bounded setting zero s is =
    subst (λ (x : RunState). IsBounded setting 0 x) (sym is) (record { one_each = refl; few_rules = omega arith; few_treated = omega arith; few_rounds = omega arith })
states_bounded setting (suc zero) s is =
    let before = is.is_before in
    let turn = zero_turn setting 0 is.before s is.round in
    let none : length is.before.rules ≡ 0 = ap (λ (x : RunState). length x.rules) before in
    let none_made : length is.before.made ≡ 0 = ap (λ (x : RunState). length x.made) before in
    let none_treated : length s.treated ≡ 0 = ap length turn.1 ∙ ap (λ (x : RunState). length x.treated) before in
    let after = turns_counts setting.compare 0 (map (generator_work setting.compare setting.budget.steps setting.generators) setting.in_turn) (recorded is.before) (recorded s) turn.0 (record { one_each = none_made ∙ sym none; few = omega (arith, none) }) in
    record {
      one_each = after.one_each;
      few_rules = omega (arith, after.few, none_treated, length-map setting.in_turn (generator_work setting.compare setting.budget.steps setting.generators));
      few_treated = omega (arith, none_treated);
      few_rounds = omega arith;
    }
states_bounded setting (suc (suc n)) s is =
    let before = states_bounded setting (suc n) is.before is.is_before in
    let whole = later_whole setting (suc n) is.before s is.round in
    let size = ap length whole.treated ∙ length-append is.before.treated whole.taken in
    let after = passes_counts setting.compare (length is.before.rules) setting.budget.steps (recorded is.before) (recorded s) whole.taken whole.passes (record { one_each = before.one_each; few = omega arith }) in
    record {
      one_each = after.one_each;
      few_rules = omega (arith, after.few, size, before.few_rules);
      few_treated = omega (arith, size, whole.few);
      few_rounds = omega (arith, size, whole.some, before.few_rounds);
    }
