use Rattle.cofactor_trace.proofs.Prelude.{rules, ◌≡◌, ◌+◌, ◌-◌, ◌<◌, ◌^◌, ◌++◌, ◌∷◌, [], length, filter, set, unwrap_or, sym, ap, subst, ◌∙◌, arith, All, length-map, IsRecord, direct_of, is_lemma, lemma_at, records, all_front, last_in}
use Rattle.cofactor_trace.proofs.NamingLaws.{IsTaken, taken, lemmas_before, goes_on, starts, all_named, all_found, are_records}
use Rattle.cofactor_trace.proofs.naming.name_rules.Goals as goal
use Rattle.cofactor_trace.proofs.naming.name_rules.Goals.{After-index-made-number}

pub loop-number-init : goal.loop-number-init
loop-number-init c =
    let none : records c.new-lemmas.result.items ≡ [] = ap records c.new-lemmas.ensures.items in
    let sized : length c.in_ok-replacements.replacements.items ≡ length c.args.made.now = search rules in
    record {
      under_way = starts c.args.made.now c.args.target.now c.in_ok-numbers.numbers.items c.in_ok-replacements.replacements.items (records c.new-lemmas.result.items) c.in_ok-numbers.ensures.exact sized none;
      in_range = c.in_ok-numbers.ensures.in_range;
    }

-- the record is taken
at_hand : (c : After-index-made-number)
    → IsTaken c.args.made.now c.args.target.now c.pop.new.self.items c.in-Some.number c.index-made-number.result c.loop-number.replacements.items (records c.loop-number.lemmas.items)
at_hand c =
    let removed : c.loop-number.numbers.items ≡ c.pop.new.self.items ++ c.in-Some.number ∷ [] = search rules in
    (taken c.args.made.now c.args.target.now c.loop-number.numbers.items c.pop.new.self.items c.in-Some.number c.loop-number.replacements.items (records c.loop-number.lemmas.items) removed c.loop-number.invariant.under_way).2
    c.index-made-number.result c.index-made-number.is

pub overflow_sub-number : goal.overflow_sub-number
overflow_sub-number c = (taken c.args.made.now c.args.target.now c.loop-number.numbers.items c.pop.new.self.items c.in-Some.number c.loop-number.replacements.items (records c.loop-number.lemmas.items) (search rules) c.loop-number.invariant.under_way).0

pub bounds-made-number : goal.bounds-made-number
bounds-made-number c = (taken c.args.made.now c.args.target.now c.loop-number.numbers.items c.pop.new.self.items c.in-Some.number c.loop-number.replacements.items (records c.loop-number.lemmas.items) (search rules) c.loop-number.invariant.under_way).1

pub name_rule-requires : goal.name_rule-requires
name_rule-requires c =
    let items = c.loop-number.lemmas.items in
    let front = c.pop.new.self.items in
    let number = c.in-Some.number in
    let removed : c.loop-number.numbers.items ≡ front ++ number ∷ [] = search rules in
    let before = lemmas_before c.args.made.now c.args.target.now front number c.index-made-number.result c.loop-number.replacements.items (records items) (at_hand c) in
    let sized : length (records items) ≡ length items = length-map items (λ m. m.now) in
    let small : number < 2 ^ 32 = last_in (λ n. n < 2 ^ 32) c.loop-number.numbers.items front number removed c.loop-number.invariant.in_range in
    omega (arith, before, sized, small)

pub overflow_sub-number-in-Some : goal.overflow_sub-number-in-Some
overflow_sub-number-in-Some c = (at_hand (goal.at.overflow_sub-number-in-Some c).After-index-made-number).positive

pub index_mut-requires : goal.index_mut-requires
index_mut-requires c =
    let t = at_hand (goal.at.index_mut-requires c).After-index-made-number in
    let inside : c.in-Some.number - 1 < length c.loop-number.replacements.items = subst (λ n. c.in-Some.number - 1 < n) (sym t.sized) t.inside in
    search (rules, inside)

pub loop-number-preserved : goal.loop-number-preserved
loop-number-preserved c =
    let front = c.pop.new.self.items in
    let number = c.in-Some.number in
    let table = c.loop-number.replacements.items in
    let lemmas = records c.loop-number.lemmas.items in
    let more = records c.name_rule.new.lemmas.items in
    let m = c.index-made-number.result in
    let removed : c.loop-number.numbers.items ≡ front ++ number ∷ [] = search rules in
    let t = at_hand (goal.at.loop-number-preserved c).After-index-made-number in
    let sized : length c.loop-number.lemmas.items ≡ length lemmas = sym (length-map c.loop-number.lemmas.items (λ m. m.now)) in
    let value : c.in_ok-replacements-2.field-0 ≡ unwrap_or (direct_of m) (lemma_at (length lemmas + 1)) =
    c.in_ok-replacements-2.ensures.exact ∙ ap (λ n. unwrap_or (direct_of m) (lemma_at (n + 1))) sized in
    let pushed : more ≡ lemmas ++ filter is_lemma (m ∷ []) = c.in_ok-replacements-2.ensures.lemmas in
    record {
      under_way = goes_on c.args.made.now c.args.target.now front number m table lemmas t (set table (number - 1) c.in_ok-replacements-2.field-0) more (ap (set table (number - 1)) value) pushed;
      in_range = all_front (λ n. n < 2 ^ 32) c.loop-number.numbers.items front number removed c.loop-number.invariant.in_range;
    }

pub returns-clause-lemmas : goal.returns-clause-lemmas
returns-clause-lemmas c =
    let none : c.loop-number.numbers.items ≡ [] = search rules in
    all_found c.args.made.now c.args.target.now c.loop-number.numbers.items c.loop-number.replacements.items (records c.loop-number.lemmas.items) none c.loop-number.invariant.under_way

pub returns-clause-named : goal.returns-clause-named
returns-clause-named c =
    let none : c.loop-number.numbers.items ≡ [] = search rules in
    all_named c.args.made.now c.args.target.now c.loop-number.numbers.items c.loop-number.replacements.items (records c.loop-number.lemmas.items) none c.loop-number.invariant.under_way

pub returns-clause-are_records : goal.returns-clause-are_records
returns-clause-are_records c =
    subst (All (IsRecord (length c.args.made.now))) (sym (returns-clause-lemmas c)) (are_records c.args.made.now c.args.target.now c.requires.records)
