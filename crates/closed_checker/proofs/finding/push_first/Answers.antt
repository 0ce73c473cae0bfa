use Rattle.closed_checker.proofs.Prelude.{rules, ◌≡◌, ◌≤◌, length, IsAdded, IsOfFirst}
use Rattle.closed_checker.proofs.Walking.{places-more, places-all}
use Rattle.closed_checker.proofs.finding.push_first.Goals as goal

pub loop-place-preserved : goal.loop-place-preserved
loop-place-preserved c =
    let table = c.args.table.now in
    let first = c.args.first.now in
    let made : IsAdded (IsOfFirst table first (λ p. p ≡ c.loop-place.place)) c.loop-place.found c.push_place.new.found = search rules in
    places-more table first c.loop-place.place c.args.found.now c.loop-place.found c.push_place.new.found c.loop-place.invariant made

pub returns : goal.returns
returns c =
    let first = c.args.first.now in
    let past : length first.letters ≤ c.loop-place.place = search rules in
    places-all c.args.table.now first c.requires.nonempty c.loop-place.place c.args.found.now c.loop-place.found past c.loop-place.invariant
