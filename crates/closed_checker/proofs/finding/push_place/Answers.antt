use Rattle.closed_checker.proofs.Prelude.{rules, ◌≡◌, ◌-◌, ◌<◌, suc, nat_eq, get_or, filter, length, take, drop, arith, nil_from_length, Lead, rank_at}
use Rattle.closed_checker.proofs.Steps.{IsPlace, longer-ranks, going-ranks, ended-sorted, added-more, walked-more, none-longer, overlaps-added, first-added, rest_from}
use Rattle.closed_checker.proofs.finding.push_place.Goals as goal
use Rattle.closed_checker.proofs.finding.push_place.Goals.{Start, After-as_slice, After-is_empty, After-narrow-going_on, After-loop-depth}

at : (c : Start) → IsPlace c.args.table.now c.args.first.now c.args.place
at c = record { sorted = c.requires.sorted; nonempty = c.requires.nonempty; inside = c.requires.inside }

-- the letters from the place on
rest_is : (c : After-as_slice) → take (length c.as_slice.result.now - c.args.place) (drop c.args.place c.as_slice.result.now) ≡ drop c.args.place c.args.first.now.letters
rest_is c = rest_from c.as_slice.result.now c.args.first.now.letters c.args.place c.as_slice.ensures

-- one of them is next
further : (c : After-is_empty) → c.loop-depth.depth < length (drop c.args.place c.args.first.now.letters)
further c = rw (rest_is (goal.at.After-is_empty c).After-as_slice) at c.loop-depth-test.true

-- the words that go on as it does
going : (c : After-narrow-going_on)
    → c.narrow-going_on.result.now ≡ filter (λ (l : Lead). nat_eq (rank_at c.loop-depth.depth l.letters) (suc (get_or (drop c.args.place c.args.first.now.letters) c.loop-depth.depth 0))) c.loop-depth.longer.now
going c = rw (rest_is (goal.at.After-narrow-going_on c).After-as_slice) at c.narrow-going_on.ensures

-- the letters are passed
all : (c : After-loop-depth) → c.loop-depth.depth ≡ length (drop c.args.place c.args.first.now.letters)
all c = let is = rest_is (goal.at.After-loop-depth c).After-as_slice in rw (← is) (omega arith)

pub returns-then-is_empty : goal.returns-then-is_empty
returns-then-is_empty c =
    let passed = goal.at.returns-then-is_empty c in
    none-longer (at passed.Start) c.loop-depth.invariant.walked (further passed.After-is_empty) (nil_from_length c.loop-depth.longer.now (search rules)) c.loop-depth.invariant.added

pub narrow-going_on-requires : goal.narrow-going_on-requires
narrow-going_on-requires c =
    let passed = goal.at.narrow-going_on-requires c in
    longer-ranks (at passed.Start) c.loop-depth.invariant.walked (further passed.After-is_empty)

pub split_ended-requires : goal.split_ended-requires
split_ended-requires c =
    let passed = goal.at.split_ended-requires c in
    going-ranks (at passed.Start) c.loop-depth.invariant.walked (further passed.After-is_empty) (going passed.After-narrow-going_on)

pub push_all-requires : goal.push_all-requires
push_all-requires c =
    let passed = goal.at.push_all-requires c in
    ended-sorted (at passed.Start) c.loop-depth.invariant.walked (further passed.After-is_empty) (going passed.After-narrow-going_on) c.split_ended.ensures.ended

pub loop-depth-preserved : goal.loop-depth-preserved
loop-depth-preserved c =
    let passed = goal.at.loop-depth-preserved c in
    let here = further passed.After-is_empty in
    let on = going passed.After-narrow-going_on in
    record {
      walked = walked-more (at passed.Start) c.loop-depth.invariant.walked here on c.split_ended.ensures.longer;
      added = added-more (at passed.Start) c.loop-depth.invariant.walked here on c.split_ended.ensures.ended c.loop-depth.invariant.added (search rules);
    }

pub returns-in_ok-push_all-2 : goal.returns-in_ok-push_all-2
returns-in_ok-push_all-2 c =
    let passed = goal.at.returns-in_ok-push_all-2 c in
    overlaps-added (at passed.Start) c.loop-depth.invariant.walked (all passed.After-loop-depth) c.loop-depth.invariant.added (omega arith) (search rules)

pub returns-else-place-gt0 : goal.returns-else-place-gt0
returns-else-place-gt0 c =
    let passed = goal.at.returns-else-place-gt0 c in
    first-added (at passed.Start) c.loop-depth.invariant.walked (all passed.After-loop-depth) c.loop-depth.invariant.added (omega arith)
