use Rattle.rule_reduce.proofs.Prelude.{rules, ◌≡◌, ℕ, Option, pos, ◌<◌, ◌≤◌, ◌+◌, ◌-◌, suc, length, zero, List, [], Some, None, Err, Result, IfSome, arith, sym, ap, ◌∙◌, subst, All, IsCoefficient, Term, IsOver, Compare, measured_letters, Explains, Rule, Choice, State, Progress, Row, ReduceFault, entries_of, choice_of, IsSettled, step_result, halt_of, reduction, normal_form_of, ExplainsHalt, with_rows, Shows, IsBounded}
use Rattle.rule_reduce.specs.declared.fault.ReduceFault.TheVariants as halt
use Rattle.rule_reduce.proofs.Settled.{if_borrowed, step_settles}
use Rattle.rule_reduce.proofs.Rounds.{stops, goes_on, explains_fault, runs_out}
use Rattle.rule_reduce.proofs.Chosen.{found}
use Rattle.rule_reduce.proofs.RowsByRules.{number_within}
use Rattle.rule_reduce.proofs.LettersKept.{step_letters}
use Rattle.rule_reduce.proofs.ShownStates.{LeadsTo}
use Rattle.rule_reduce.proofs.rules.Rules.reduce.Goals as goal

-- the choice by the index is that by the rules' entries
over_entries : (compare : Compare) (index entries : List (List ℕ × ℕ)) (terms : List Term) (c : Option Choice) → index ≡ entries → choice_of compare index terms ≡ c → choice_of compare entries terms ≡ c
over_entries compare index entries terms c same h = subst (λ es. choice_of compare es terms ≡ c) same h

-- a round whose state goes on as the next one leaves the result as it is
after_round : {A : Type 0} (runs : ℕ → State → A) (s next : State) (left now later : ℕ) (whole : A) → later ≡ left → suc left ≡ now → runs (suc left) s ≡ runs left next → runs now s ≡ whole → runs later next ≡ whole
after_round runs s next left now later whole fewer more goes same = ap (λ n. runs n next) fewer ∙ sym goes ∙ ap (λ n. runs n s) more ∙ same

-- where the last round ends, the result ends
ends_as : {A : Type 0} (runs : ℕ → A) (now n : ℕ) (whole end : A) → now ≡ n → runs n ≡ end → runs now ≡ whole → whole ≡ end
ends_as runs now n whole end at is same = sym same ∙ ap runs at ∙ is

pub loop-init : goal.loop-init
loop-init g c =
    let compare = g.O.WordOrder.compare c.args.self.now.order in
    let limit = c.args.steps in
    let p = c.args.poly.now in
    let numbers = g.S.RowStore.numbers in
    let state = c.in_ok-state.state in
    let is : state ≡ record { multiplier = pos 1; rest = p.terms; rows = c.args.rows; used = 0 } = search rules in
    let one : IsCoefficient (pos 1) = search rules in
    let none : numbers c.args.rows ≡ [] = ap numbers c.requires.none ∙ g.met.S.RowStore.of_rows [] in
    let whole : limit - 0 ≡ limit = omega arith in
    record {
      within = omega arith;
      used = omega (arith, ap (λ (s : Progress g.row.S.Denot). s.used) is);
      in_range = subst (IsBounded numbers) (sym is) (record { multiplier = one; rest = p.canonical; rows = subst (All IsCoefficient) (sym none) (λ k d inside. absurd (omega (arith, inside))) });
      over = subst (λ (s : Progress g.row.S.Denot). All (λ t. IsOver (g.O.WordOrder.letters c.args.self.now.order) t.1) s.rest) (sym is) c.requires.over;
      last_short = tt;
      settled = tt;
      same = record {
        rows = [];
        kept = ap (λ (s : Progress g.row.S.Denot). s.rows) is ∙ c.requires.none;
        same = ap (λ n. reduction limit compare c.args.self.now.rules n (with_rows state [])) whole ∙ ap (λ (s : Progress g.row.S.Denot). reduction limit compare c.args.self.now.rules limit (with_rows s [])) is;
      };
    }

pub choose-requires-clause-last_short : goal.choose-requires-clause-last_short
choose-requires-clause-last_short g c = if_borrowed (λ w. length w ≤ measured_letters) c.as_ref.result c.loop.last c.as_ref.ensures.value c.loop.invariant.last_short

pub choose-requires-2-clause-last_short : goal.choose-requires-2-clause-last_short
choose-requires-2-clause-last_short g c = if_borrowed (λ w. length w ≤ measured_letters) c.as_ref-2.result c.loop.last c.as_ref-2.ensures.value c.loop.invariant.last_short

pub returns-in-Err-clause-exact : goal.returns-in-Err-clause-exact
returns-in-Err-clause-exact g c =
    let compare = g.O.WordOrder.compare c.args.self.now.order in
    let all = c.args.self.now.rules in
    let limit = c.args.steps in
    let so_far = c.loop.invariant.same in
    let s = with_rows c.loop.state so_far.rows in
    let choice = c.in-Some.choice in
    let e = c.in-Err.fault in
    let left = limit - c.loop.counter - 1 in
    let pick : choice_of compare (entries_of all) s.rest ≡ Some choice = over_entries compare c.args.self.now.index (entries_of all) s.rest (Some choice) c.args.self.now.indexed (search rules) in
    let same_rules : c.as_slice.result.now ≡ all = search rules in
    let why : Explains (step_result all choice s) e = subst (λ (rs : List Rule). Explains (step_result rs choice s) e) same_rules (c.in-Err.ensures.exact so_far.rows so_far.kept) in
    let more : suc left ≡ limit - c.loop.counter = omega arith in
    let same : reduction limit compare all (suc left) s ≡ normal_form_of compare all c.args.poly.now.terms limit = ap (λ n. reduction limit compare all n s) more ∙ so_far.same in
    let halted : c.halt.result ≡ halt_of e = search rules in
    rw halted (subst (λ (r : Result State ReduceFault). ExplainsHalt r (halt_of e)) same (explains_fault limit compare all s left choice e pick why))

pub loop-preserved : goal.loop-preserved
loop-preserved g c =
    let compare = g.O.WordOrder.compare c.args.self.now.order in
    let letters = g.O.WordOrder.letters c.args.self.now.order in
    let all = c.args.self.now.rules in
    let limit = c.args.steps in
    let so_far = c.loop.invariant.same in
    let s = with_rows c.loop.state so_far.rows in
    let choice = c.in-Some.choice in
    let next = c.in-Ok.next in
    let left = limit - c.loop.counter - 1 in
    let pick : choice_of compare (entries_of all) s.rest ≡ Some choice = over_entries compare c.args.self.now.index (entries_of all) s.rest (Some choice) c.args.self.now.indexed (search rules) in
    let same_rules : c.as_slice.result.now ≡ all = search rules in
    let stepped : Shows g.S.RowStore.of (step_result all choice s) next = subst (λ (rs : List Rule). Shows g.S.RowStore.of (step_result rs choice s) next) same_rules (c.in-Ok.ensures.exact so_far.rows so_far.kept) in
    let after = with_rows next stepped.rows in
    let more : suc left ≡ limit - c.loop.counter = omega arith in
    let fewer : limit - (c.loop.counter + 1) ≡ left = omega arith in
    let rules_over : All (λ f. All (λ u. IsOver letters u.1) f.poly.terms) all = λ k d inside. (c.args.self.now.each k d inside).over in
    let word_over : IsOver letters choice.word = search rules in
    let above : All (λ t. IsSettled compare (entries_of all) choice.word t.1) next.rest = step_settles letters compare (g.O.WordOrder.rank c.args.self.now.order) (g.met.O.WordOrder.admissible c.args.self.now.order) all choice c.args.self.now.each s after pick stepped.is in
    let above_index : All (λ t. IsSettled compare c.args.self.now.index choice.word t.1) next.rest = subst (λ es. All (λ t. IsSettled compare es choice.word t.1) next.rest) (sym c.args.self.now.indexed) above in
    record {
      within = omega arith;
      used = search rules;
      in_range = search rules;
      over = step_letters letters all choice s after stepped.is rules_over word_over c.loop.invariant.over;
      last_short = search rules;
      settled = above_index;
      same = record {
        rows = stepped.rows;
        kept = stepped.kept;
        same = after_round (λ n t. reduction limit compare all n t) s after left (limit - c.loop.counter) (limit - (c.loop.counter + 1)) _ fewer more (goes_on limit compare all s left choice after pick stepped.is) so_far.same;
      };
    }

pub returns-in-Some-2-clause-exact : goal.returns-in-Some-2-clause-exact
returns-in-Some-2-clause-exact g c =
    let compare = g.O.WordOrder.compare c.args.self.now.order in
    let all = c.args.self.now.rules in
    let limit = c.args.steps in
    let so_far = c.loop.invariant.same in
    let s = with_rows c.loop.state so_far.rows in
    let choice = c.in-Some-2.field-0 in
    let pick : choice_of compare (entries_of all) s.rest ≡ Some choice = over_entries compare c.args.self.now.index (entries_of all) s.rest (Some choice) c.args.self.now.indexed (search rules) in
    let none_left : limit - c.loop.counter ≡ zero = omega arith in
    ends_as (λ n. reduction limit compare all n s) (limit - c.loop.counter) zero (normal_form_of compare all c.args.poly.now.terms limit) (Err (halt.Steps limit)) none_left (runs_out limit compare all s choice pick) so_far.same

-- where no word can be reduced, the state is the normal form
stays : {S : Type 0} (of : List Row → S) (limit : ℕ) (compare : Compare) (rules : List Rule) (n : ℕ) (whole : Result State ReduceFault) (p : Progress S)
    → LeadsTo of (reduction limit compare rules n) whole p → choice_of compare (entries_of rules) p.rest ≡ None → Shows of whole p
stays of limit compare rules n whole p so_far none =
    record { rows = so_far.rows; kept = so_far.kept; is = sym so_far.same ∙ stops limit compare rules (with_rows p so_far.rows) n none }

pub returns-in-None-2-clause-exact : goal.returns-in-None-2-clause-exact
returns-in-None-2-clause-exact g c =
    let compare = g.O.WordOrder.compare c.args.self.now.order in
    let all = c.args.self.now.rules in
    let s = c.loop.state in
    let pick : choice_of compare (entries_of all) s.rest ≡ None = over_entries compare c.args.self.now.index (entries_of all) s.rest None c.args.self.now.indexed (search rules) in
    stays g.S.RowStore.of c.args.steps compare all (c.args.steps - c.loop.counter) (normal_form_of compare all c.args.poly.now.terms c.args.steps) s c.loop.invariant.same pick

pub returns-in-None-clause-exact : goal.returns-in-None-clause-exact
returns-in-None-clause-exact g c =
    let compare = g.O.WordOrder.compare c.args.self.now.order in
    let all = c.args.self.now.rules in
    let s = c.loop.state in
    let pick : choice_of compare (entries_of all) s.rest ≡ None = over_entries compare c.args.self.now.index (entries_of all) s.rest None c.args.self.now.indexed (search rules) in
    stays g.S.RowStore.of c.args.steps compare all (c.args.steps - c.loop.counter) (normal_form_of compare all c.args.poly.now.terms c.args.steps) s c.loop.invariant.same pick

-- the rule that is chosen is there
is_there : (compare : Compare) (rules : List Rule) (terms : List Term) (choice : Choice) → choice_of compare (entries_of rules) terms ≡ Some choice → (0 < choice.number) × (choice.number ≤ length rules)
is_there compare rules terms choice pick =
    let match = (found compare rules terms choice pick).match in
    number_within rules choice.number match.rule match.numbered

pub take_step-requires-clause-first : goal.take_step-requires-clause-first
take_step-requires-clause-first g c =
    let compare = g.O.WordOrder.compare c.args.self.now.order in
    let terms = c.loop.state.rest in
    let choice = c.in-Some.choice in
    let pick : choice_of compare (entries_of c.args.self.now.rules) terms ≡ Some choice = over_entries compare c.args.self.now.index (entries_of c.args.self.now.rules) terms (Some choice) c.args.self.now.indexed (search rules) in
    (is_there compare c.args.self.now.rules terms choice pick).0

pub take_step-requires-clause-last : goal.take_step-requires-clause-last
take_step-requires-clause-last g c =
    let compare = g.O.WordOrder.compare c.args.self.now.order in
    let terms = c.loop.state.rest in
    let choice = c.in-Some.choice in
    let pick : choice_of compare (entries_of c.args.self.now.rules) terms ≡ Some choice = over_entries compare c.args.self.now.index (entries_of c.args.self.now.rules) terms (Some choice) c.args.self.now.indexed (search rules) in
    let same : c.as_slice.result.now ≡ c.args.self.now.rules = search rules in
    subst (λ rs. choice.number ≤ length rs) (sym same) (is_there compare c.args.self.now.rules terms choice pick).1

pub choose-requires-clause-settled : goal.choose-requires-clause-settled
choose-requires-clause-settled g c =
    let compare = g.O.WordOrder.compare c.args.self.now.order in
    let index = c.args.self.now.index in
    let settled = subst (λ p. IfSome c.loop.last (λ w. All (λ t. IsSettled compare index w t.1) p)) (sym c.as_slice-terms.ensures) c.loop.invariant.settled in
    if_borrowed (λ w. All (λ t. IsSettled compare index w t.1) c.as_slice-terms.result.now) c.as_ref.result c.loop.last c.as_ref.ensures.value settled

pub choose-requires-2-clause-settled : goal.choose-requires-2-clause-settled
choose-requires-2-clause-settled g c =
    let compare = g.O.WordOrder.compare c.args.self.now.order in
    let index = c.args.self.now.index in
    let settled = subst (λ p. IfSome c.loop.last (λ w. All (λ t. IsSettled compare index w t.1) p)) (sym c.as_slice-2.ensures) c.loop.invariant.settled in
    if_borrowed (λ w. All (λ t. IsSettled compare index w t.1) c.as_slice-2.result.now) c.as_ref-2.result c.loop.last c.as_ref-2.ensures.value settled
