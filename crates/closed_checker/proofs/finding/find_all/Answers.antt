use Rattle.closed_checker.proofs.Prelude.{rules, ◌≡◌, ◌<◌, [], length, get_or, sym, arith, Ambiguity, IsAdded, IsOfFirst}
use Rattle.closed_checker.proofs.Walking.{one-more}
use Rattle.closed_checker.proofs.finding.find_all.Goals as goal

pub loop-first-preserved : goal.loop-first-preserved
loop-first-preserved c =
    let table = c.args.table.now in
    let n = c.loop-first.first-index in
    let l = c.first-item.result in
    let inside : n < length table = omega arith in
    let here : get_or table n l ≡ l = sym c.first-item.is in
    let made : IsAdded (IsOfFirst table l (λ p. Unit {0})) c.loop-first.found c.push_first.new.found = search rules in
    one-more table c.requires.sorted (λ x. IsOfFirst table x (λ p. Unit {0})) (λ (a : Ambiguity). a.i) (λ x a of. of.first_numbered) n l [] c.loop-first.found c.push_first.new.found inside here c.loop-first.invariant made
