use Rattle.rule_reduce.proofs.Prelude.{rules, ◌≡◌, ℕ, ◌+◌, ◌<◌, ◌≤◌, List, ◌∷◌, length, take, drop, get_or, nat_lt, Bool, Option, Some, None, IsTrue, IfSome, IsSomeAnd, true, sym, ap, subst, ◌∙◌, arith, All, Greater, get_or-take, length-take, All-drop, All-tail, IfSome_then, IsCoefficient, Term, word_cmp, IsOver, word_limit, IsCanonical, drop_next, Descends, recursion_from_IsDescending, Compare, measured_cmp, match_of, option_map, measured_letters, Choice, better_choice, choice_from, choice_of, IsSettled, Passes}
use Rattle.rule_reduce.proofs.BetterChoices.{holds-better}
use Rattle.rule_reduce.proofs.Measures.{ends_search, passes_greater}
use Rattle.rule_reduce.proofs.FirstChoices.{plain_order, settled_front, holds-choice}
use Rattle.rule_reduce.proofs.choosing.best_choice.Goals as goal

-- the choice from the terms that are left is that of the next choice from those behind the first
next_choice : (compare : Compare) (entries : List (List ℕ × ℕ)) (p : List Term) (t : Term) (i : ℕ) (best next whole : Option Choice) → drop i p ≡ t ∷ drop (i + 1) p
    → next ≡ better_choice compare entries best t → choice_from compare entries best (drop i p) ≡ whole → choice_from compare entries next (drop (i + 1) p) ≡ whole
next_choice compare entries p t i best next whole back exact same = ap (λ b. choice_from compare entries b (drop (i + 1) p)) exact ∙ ap (choice_from compare entries best) (sym back) ∙ same

-- what holds of each term holds of one at a place
at_place : (P : Term → Type 0) (p : List Term) (t : Term) (i : ℕ) → All P p → i < length p → t ≡ get_or p i t → P t
at_place P p t i all inside is = subst P (sym is) (all i t inside)

-- one of the first terms is above what they are above
in_front : (p : List Term) (t : Term) (i n : ℕ) (w : List ℕ) → All (λ u. word_cmp u.1 w ≡ Greater) (take n p) → i < length p → t ≡ get_or p i t → i < n → word_cmp t.1 w ≡ Greater
in_front p t i n w all inside is front =
    let size = length-take n p in
    let there : i < length (take n p) = omega (arith, size, inside, front) in
    subst (λ (u : Term). word_cmp u.1 w ≡ Greater) (get_or-take n p i t front ∙ sym is) (all i t there)

abbrev IsBehind : List Term → Choice → Type 0
IsBehind p c = All (λ t. word_cmp c.word t.1 ≡ Greater) p

-- a term whose measure passes that of the last word is settled
passed : {X : Type 0} (compare : Compare) (measure : List ℕ → ℕ) → ((u v : List ℕ) → compare u v ≡ measured_cmp measure u v) → (entries : List (List ℕ × ℕ)) (word : X → List ℕ) (last : Option X) (t : Term) (is_above : Bool)
    → IfSome last (λ x. IsTrue is_above → word_cmp t.1 (word x) ≡ Greater) → IfSome last (λ x. IsSettled compare entries (word x) t.1)
    → IfSome (option_map (λ x. measure (word x)) last) (λ b. Passes b (measure t.1) is_above → match_of entries t.1 ≡ None)
passed compare measure by_measure entries word None t is_above above settled = tt
passed compare measure by_measure entries word (Some x) t is_above above settled = λ passes. settled (passes_greater compare measure by_measure (word x) t.1 is_above above passes)

pub improve-better-requires-clause-settled : goal.improve-better-requires-clause-settled
improve-better-requires-clause-settled g c =
    let order = c.args.order.now in
    let compare = g.O.WordOrder.compare order in
    let measure = g.O.WordOrder.measure_of order in
    let entries = c.args.index.now in
    let p = c.args.terms.now in
    let i = c.loop-place.place in
    let n = c.args.above in
    let t : Term = c.index-terms-place.result in
    let settled = IfSome_then c.args.last c.requires.settled
    (λ w all. subst (λ (u : Term). IsSettled compare entries w.now u.1) (sym c.index-terms-place.is) (all i t c.loop-place-test.true)) in
    let front : IsTrue (nat_lt i n) → i < n = λ yes. search (rules, yes) in
    let above = IfSome_then c.args.last c.requires.above
    (λ w all yes. in_front p t i n w.now all c.loop-place-test.true c.index-terms-place.is (front yes)) in
    let bound = c.last_measure-bound.ensures in
    let whole = passed compare measure (λ u v. g.met.O.WordOrder.by_measure order u v) entries (λ w. w.now) c.args.last t (nat_lt i n) above settled in
    subst (λ o. IfSome o (λ b. Passes b (measure t.1) (nat_lt i n) → match_of entries t.1 ≡ None)) (sym bound) whole

pub improve-better-requires-clause-behind : goal.improve-better-requires-clause-behind
improve-better-requires-clause-behind g c =
    let p = c.args.terms.now in
    let i = c.loop-place.place in
    let t : Term = c.index-terms-place.result in
    let back : drop i p ≡ t ∷ drop (i + 1) p = drop_next p i t c.loop-place-test.true c.index-terms-place.is in
    IfSome_then c.loop-place.best.found c.loop-place.invariant.behind (λ b below. subst (λ q. IsBehind q b) back below 0 t (omega arith))

pub improve-better-requires-clause-short : goal.improve-better-requires-clause-short
improve-better-requires-clause-short g c =
    let t : Term = c.index-terms-place.result in
    let short : length t.1 ≤ word_limit = at_place (λ u. length u.1 ≤ word_limit) c.args.terms.now t c.loop-place.place c.requires.canonical.short c.loop-place-test.true c.index-terms-place.is in
    omega (arith, short)

pub loop-place-init : goal.loop-place-init
loop-place-init g c =
    record {
      within = omega arith;
      best_in = search rules;
      best_over = search rules;
      best_short = search rules;
      most = search rules;
      behind = search rules;
      descends = recursion_from_IsDescending c.args.terms.now c.requires.canonical.shaped.descending;
      same = search rules;
    }

-- What the choice so far keeps, the better of it and the next term keeps.
kept_by : (P : Choice → Type 0) (compare : Compare) (entries : List (List ℕ × ℕ)) (t : Term) (best next : Option Choice) → next ≡ better_choice compare entries best t
    → ((m : ℕ × ℕ) → P (record { coefficient = t.0; word = t.1; number = m.0; place = m.1 })) → IfSome best P → IfSome next P
kept_by P compare entries t best next exact each held = subst (λ (o : Option Choice). IfSome o P) (sym exact) (holds-better P compare entries t each best held)

-- at a place the terms are canonical and over the letters, and those behind it are below its word
module _ (letters : ℕ) (p : List Term) (t : Term) (i : ℕ) (inside : i < length p) (is : t ≡ get_or p i t) (canonical : IsCanonical p) where
  in_range_there : IsCoefficient t.0
  in_range_there = at_place (λ u. IsCoefficient u.0) p t i canonical.shaped.in_range inside is

  over_there : All (λ u. IsOver letters u.1) p → IsOver letters t.1
  over_there over = at_place (λ u. IsOver letters u.1) p t i over inside is

  short_there : length t.1 ≤ measured_letters
  short_there =
      let short : length t.1 ≤ word_limit = at_place (λ u. length u.1 ≤ word_limit) p t i canonical.short inside is in
      omega (arith, short)

  next_behind : (compare : Compare) (entries : List (List ℕ × ℕ)) (best next : Option Choice) → next ≡ better_choice compare entries best t → Descends (drop i p)
      → IfSome best (IsBehind (drop i p)) → IfSome next (IsBehind (drop (i + 1) p))
  next_behind compare entries best next exact descends behind =
      let back : drop i p ≡ t ∷ drop (i + 1) p = drop_next p i t inside is in
      kept_by (IsBehind (drop (i + 1) p)) compare entries t best next exact (λ m. (subst Descends back descends).0)
      (IfSome_then best behind (λ b below. All-tail (λ (u : Term). word_cmp b.word u.1 ≡ Greater) t (drop (i + 1) p) (subst (λ q. IsBehind q b) back below)))

pub loop-place-preserved : goal.loop-place-preserved
loop-place-preserved g c =
    let compare = g.O.WordOrder.compare c.args.order.now in
    let letters = g.O.WordOrder.letters c.args.order.now in
    let entries = c.args.index.now in
    let p = c.args.terms.now in
    let i = c.loop-place.place in
    let t : Term = c.index-terms-place.result in
    let inside = c.loop-place-test.true in
    let is = c.index-terms-place.is in
    let at = c.loop-place.invariant in
    let canonical = c.requires.canonical in
    let next = c.improve-better.result.0.found in
    let back : drop i p ≡ t ∷ drop (i + 1) p = drop_next p i t inside is in
    let exact : next ≡ better_choice compare entries c.loop-place.best.found t = c.improve-better.ensures.better in
    record {
      within = omega (arith, inside);
      best_in = kept_by (λ b. IsCoefficient b.coefficient) compare entries t c.loop-place.best.found next exact (λ m. in_range_there letters p t i inside is canonical) at.best_in;
      best_over = kept_by (λ b. IsOver letters b.word) compare entries t c.loop-place.best.found next exact (λ m. over_there letters p t i inside is canonical c.requires.over) at.best_over;
      best_short = kept_by (λ b. length b.word ≤ measured_letters) compare entries t c.loop-place.best.found next exact (λ m. short_there letters p t i inside is canonical) at.best_short;
      most = c.improve-better.ensures.most;
      behind = next_behind letters p t i inside is canonical compare entries c.loop-place.best.found next exact at.descends at.behind;
      descends = (subst Descends back at.descends).1;
      same = next_choice compare entries p t i c.loop-place.best.found next (choice_of compare entries p) back exact at.same;
    }

pub returns-then-is_last-clause-in_range : goal.returns-then-is_last-clause-in_range
returns-then-is_last-clause-in_range g c =
    let compare = g.O.WordOrder.compare c.args.order.now in
    let t : Term = c.index-terms-place.result in
    let exact : c.improve-better.result.0.found ≡ better_choice compare c.args.index.now c.loop-place.best.found t = c.improve-better.ensures.better in
    kept_by (λ b. IsCoefficient b.coefficient) compare c.args.index.now t c.loop-place.best.found c.improve-better.result.0.found exact
    (λ m. in_range_there 0 c.args.terms.now t c.loop-place.place c.loop-place-test.true c.index-terms-place.is c.requires.canonical) c.loop-place.invariant.best_in

pub returns-then-is_last-clause-over : goal.returns-then-is_last-clause-over
returns-then-is_last-clause-over g c =
    let compare = g.O.WordOrder.compare c.args.order.now in
    let letters = g.O.WordOrder.letters c.args.order.now in
    let t : Term = c.index-terms-place.result in
    let exact : c.improve-better.result.0.found ≡ better_choice compare c.args.index.now c.loop-place.best.found t = c.improve-better.ensures.better in
    kept_by (λ b. IsOver letters b.word) compare c.args.index.now t c.loop-place.best.found c.improve-better.result.0.found exact
    (λ m. over_there letters c.args.terms.now t c.loop-place.place c.loop-place-test.true c.index-terms-place.is c.requires.canonical c.requires.over) c.loop-place.invariant.best_over

pub returns-then-is_last-clause-short : goal.returns-then-is_last-clause-short
returns-then-is_last-clause-short g c =
    let compare = g.O.WordOrder.compare c.args.order.now in
    let t : Term = c.index-terms-place.result in
    let exact : c.improve-better.result.0.found ≡ better_choice compare c.args.index.now c.loop-place.best.found t = c.improve-better.ensures.better in
    kept_by (λ b. length b.word ≤ measured_letters) compare c.args.index.now t c.loop-place.best.found c.improve-better.result.0.found exact
    (λ m. short_there 0 c.args.terms.now t c.loop-place.place c.loop-place-test.true c.index-terms-place.is c.requires.canonical) c.loop-place.invariant.best_short

pub returns-then-is_last-clause-exact : goal.returns-then-is_last-clause-exact
returns-then-is_last-clause-exact g c =
    let order = c.args.order.now in
    let compare = g.O.WordOrder.compare order in
    let measure = g.O.WordOrder.measure_of order in
    let entries = c.args.index.now in
    let p = c.args.terms.now in
    let i = c.loop-place.place in
    let t : Term = c.index-terms-place.result in
    let inside = c.loop-place-test.true in
    let is = c.index-terms-place.is in
    let at = c.loop-place.invariant in
    let next = c.improve-better.result.0.found in
    let back : drop i p ≡ t ∷ drop (i + 1) p = drop_next p i t inside is in
    let exact : next ≡ better_choice compare entries c.loop-place.best.found t = c.improve-better.ensures.better in
    let behind = next_behind 0 p t i inside is c.requires.canonical compare entries c.loop-place.best.found next exact at.descends at.behind in
    let settled = IfSome_then c.args.last c.requires.settled
    (λ w all. All-drop (λ u. IsSettled compare entries w.now u.1) (i + 1) p all) in
    let bound : c.last_measure-bound.result ≡ option_map (λ w. measure w.now) c.args.last = c.last_measure-bound.ensures in
    let told : IsSomeAnd c.last_measure-bound.result (λ m. IsSomeAnd next (λ b. m ≤ measure b.word)) = c.improve-better.ensures.last c.if-is_last.true in
    let reached = subst (λ o. IsSomeAnd o (λ m. IsSomeAnd next (λ b. m ≤ measure b.word))) bound told in
    let stays = ends_search compare measure (λ u v. g.met.O.WordOrder.by_measure order u v) entries (λ w. w.now) c.args.last next (drop (i + 1) p) reached settled behind in
    sym stays ∙ next_choice compare entries p t i c.loop-place.best.found next (choice_of compare entries p) back exact at.same

pub first_choice-requires-clause-settled : goal.first_choice-requires-clause-settled
first_choice-requires-clause-settled g c =
    let order = c.args.order.now in
    let compare = g.O.WordOrder.compare order in
    let entries = c.args.index.now in
    let yes : g.O.WordOrder.is_plain order ≡ true = search rules in
    let plain = plain_order compare (g.O.WordOrder.measure_of order) (λ u v. g.met.O.WordOrder.by_measure order u v) (λ w. g.met.O.WordOrder.unmeasured order w yes) in
    settled_front compare entries plain (λ w. w.now) c.args.last c.args.terms.now c.args.above c.requires.above c.requires.none_above c.requires.settled

pub returns-then-is_canonical-clause-exact : goal.returns-then-is_canonical-clause-exact
returns-then-is_canonical-clause-exact g c =
    let order = c.args.order.now in
    let compare = g.O.WordOrder.compare order in
    let entries = c.args.index.now in
    let yes : g.O.WordOrder.is_plain order ≡ true = search rules in
    let plain = plain_order compare (g.O.WordOrder.measure_of order) (λ u v. g.met.O.WordOrder.by_measure order u v) (λ w. g.met.O.WordOrder.unmeasured order w yes) in
    c.first_choice.ensures compare plain

pub returns-then-is_canonical-clause-in_range : goal.returns-then-is_canonical-clause-in_range
returns-then-is_canonical-clause-in_range g c =
    let order = c.args.order.now in
    let compare = g.O.WordOrder.compare order in
    let entries = c.args.index.now in
    let yes : g.O.WordOrder.is_plain order ≡ true = search rules in
    let plain = plain_order compare (g.O.WordOrder.measure_of order) (λ u v. g.met.O.WordOrder.by_measure order u v) (λ w. g.met.O.WordOrder.unmeasured order w yes) in
    let p = c.args.terms.now in
    subst (λ (o : Option Choice). IfSome o (λ b. IsCoefficient b.coefficient)) (sym (c.first_choice.ensures compare plain)) (holds-choice compare entries (λ b. IsCoefficient b.coefficient) p None (λ k d inside m. c.requires.canonical.shaped.in_range k d inside) tt)

pub returns-then-is_canonical-clause-over : goal.returns-then-is_canonical-clause-over
returns-then-is_canonical-clause-over g c =
    let order = c.args.order.now in
    let compare = g.O.WordOrder.compare order in
    let entries = c.args.index.now in
    let yes : g.O.WordOrder.is_plain order ≡ true = search rules in
    let plain = plain_order compare (g.O.WordOrder.measure_of order) (λ u v. g.met.O.WordOrder.by_measure order u v) (λ w. g.met.O.WordOrder.unmeasured order w yes) in
    let p = c.args.terms.now in
    let letters = g.O.WordOrder.letters order in
    subst (λ (o : Option Choice). IfSome o (λ b. IsOver letters b.word)) (sym (c.first_choice.ensures compare plain)) (holds-choice compare entries (λ b. IsOver letters b.word) p None (λ k d inside m. c.requires.over k d inside) tt)

pub returns-then-is_canonical-clause-short : goal.returns-then-is_canonical-clause-short
returns-then-is_canonical-clause-short g c =
    let order = c.args.order.now in
    let compare = g.O.WordOrder.compare order in
    let entries = c.args.index.now in
    let yes : g.O.WordOrder.is_plain order ≡ true = search rules in
    let plain = plain_order compare (g.O.WordOrder.measure_of order) (λ u v. g.met.O.WordOrder.by_measure order u v) (λ w. g.met.O.WordOrder.unmeasured order w yes) in
    let p = c.args.terms.now in
    let few : (n : ℕ) → n ≤ word_limit → n ≤ measured_letters = λ n short. omega (arith, short) in
    subst (λ (o : Option Choice). IfSome o (λ b. length b.word ≤ measured_letters)) (sym (c.first_choice.ensures compare plain)) (holds-choice compare entries (λ b. length b.word ≤ measured_letters) p None (λ k d inside m. few (length (get_or p k d).1) (c.requires.canonical.short k d inside)) tt)
