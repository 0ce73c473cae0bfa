use Rattle.cofactor_checker.proofs.Prelude.{rules, ◌≡◌, ◌≢◌, ◌*ℤ◌, [], ◌∷◌, ◌++◌, Some, All, length, to_z, of_z, nil_from_length, IsOrdered, Less, Equal, Greater, word_cmp}
use mir.Syntax.{w128}
use Rattle.std.specs.BTreeMap.{get}
use Rattle.cofactor_checker.proofs.Comparing.{Compares, EndsIn, begins, told, product_fits, entry_left, entry_first, term_left, term_first, both_differ, both_agree}
use Rattle.cofactor_checker.proofs.compare.least_difference.Goals as goal
use Rattle.cofactor_checker.proofs.compare.least_difference.Goals.{In-Some-split_last, In-Some-split_last-2}

pub loop-word-init : goal.loop-word-init
loop-word-init c =
    let ordered : IsOrdered word_cmp c.args.sum.now = search rules in
    let found : All (λ e. get word_cmp c.args.sum.now e.0 ≡ Some e.1) c.args.sum.now.entries = search rules in
    let all : c.into_iter-word-iterator.result ≡ c.args.sum.now.entries = search rules in
    rw all (begins c.args.sum.now _ c.args.claim.now ordered found)

pub returns-in_default : goal.returns-in_default
returns-in_default c =
    let empty : length c.loop-word.rest.now ≡ 0 = search rules in
    let rest_is : c.loop-word.rest.now ≡ [] = nil_from_length c.loop-word.rest.now empty in
    let entries_is : c.loop-word.word-iterator ≡ (c.in-Some.word.now, c.in-Some.coefficient.now) ∷ c.next.new.self = search rules in
    let compares : Compares c.args.sum.now c.args.denominator c.args.claim.now [] ((c.in-Some.word.now, c.in-Some.coefficient.now) ∷ c.next.new.self) = rw (← rest_is, ← entries_is) (search rules) in
    told c.differs.result (entry_left c.requires.running compares) (search rules)

-- an entry and a term are next
turn : (c : In-Some-split_last)
    → EndsIn c.args.sum.now c.args.denominator c.args.claim.now c.in-Some-split_last.greater.now c.in-Some-split_last.term.now ((c.in-Some.word.now, c.in-Some.coefficient.now) ∷ c.next.new.self)
turn c =
    let rest_is : c.loop-word.rest.now ≡ c.in-Some-split_last.greater.now ++ c.in-Some-split_last.term.now ∷ [] = search rules in
    let entries_is : c.loop-word.word-iterator ≡ (c.in-Some.word.now, c.in-Some.coefficient.now) ∷ c.next.new.self = search rules in
    record { compares = rw (← rest_is, ← entries_is) (search rules); running = c.requires.running; shaped = c.requires.shaped; positive = c.requires.denominator; fits = c.requires.products }

pub overflow_mul-want : goal.overflow_mul-want
overflow_mul-want c = let fits = product_fits (turn (goal.at.overflow_mul-want c).In-Some-split_last) in search rules

pub returns-in-Less : goal.returns-in-Less
returns-in-Less c =
    let less : word_cmp c.in-Some.word.now c.in-Some-split_last.term.now.1 ≡ Less = search rules in
    told c.differs-in-Less.result (entry_first (turn (goal.at.returns-in-Less c).In-Some-split_last) less) (search rules)

pub returns-in-Greater : goal.returns-in-Greater
returns-in-Greater c =
    let here = turn (goal.at.returns-in-Greater c).In-Some-split_last in
    let fits = product_fits here in
    let higher : word_cmp c.in-Some.word.now c.in-Some-split_last.term.now.1 ≡ Greater = search rules in
    told c.differs-in-Greater.result (term_first here higher) (search rules)

pub returns-then-want-got : goal.returns-then-want-got
returns-then-want-got c =
    let here = turn (goal.at.returns-then-want-got c).In-Some-split_last in
    let fits = product_fits here in
    let t = c.in-Some-split_last.term.now in
    let equal : word_cmp c.in-Some.word.now t.1 ≡ Equal = search rules in
    let differ : c.args.denominator *ℤ t.0 ≢ c.in-Some.coefficient.now = search rules in
    told c.differs-then-want-got.result (both_differ here equal differ) (search rules)

pub loop-word-preserved : goal.loop-word-preserved
loop-word-preserved c =
    let here = turn (goal.at.loop-word-preserved c).In-Some-split_last in
    let fits = product_fits here in
    let t = c.in-Some-split_last.term.now in
    let equal : word_cmp c.in-Some.word.now t.1 ≡ Equal = search rules in
    let agree : c.args.denominator *ℤ t.0 ≡ c.in-Some.coefficient.now = search rules in
    let is : to_z w128 (of_z w128 c.args.denominator) ≡ c.args.denominator = search rules in
    rw is (both_agree here equal agree)

-- no entry is left
last_turn : (c : In-Some-split_last-2) → EndsIn c.args.sum.now c.args.denominator c.args.claim.now c.in-Some-split_last-2.field-0-1.now c.in-Some-split_last-2.term.now []
last_turn c =
    let rest_is : c.loop-word.rest.now ≡ c.in-Some-split_last-2.field-0-1.now ++ c.in-Some-split_last-2.term.now ∷ [] = search rules in
    let entries_is : c.loop-word.word-iterator ≡ [] = search rules in
    record { compares = rw (← rest_is, ← entries_is) (search rules); running = c.requires.running; shaped = c.requires.shaped; positive = c.requires.denominator; fits = c.requires.products }

pub overflow_mul-denominator : goal.overflow_mul-denominator
overflow_mul-denominator c = let fits = product_fits (last_turn (goal.at.overflow_mul-denominator c).In-Some-split_last-2) in search rules

pub returns-in-Some-split_last-2 : goal.returns-in-Some-split_last-2
returns-in-Some-split_last-2 c =
    let here = last_turn (goal.at.returns-in-Some-split_last-2 c).In-Some-split_last-2 in
    let fits = product_fits here in
    told c.differs-in-Some-split_last-2.result (term_left here) (search rules)
