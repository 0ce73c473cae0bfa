use Rattle.cofactor_checker.proofs.Prelude.{rules, ◌≡◌, ◌∷◌, Some, Updates, IsUnique, word_cmp, word_eq}
use Rattle.cofactor_checker.proofs.InOrder.{Moves, begins, running_more, moves_more}
use Rattle.cofactor_checker.proofs.table.in_order.Goals as goal

pub loop-key-init : goal.loop-key-init
loop-key-init c =
    let unique : IsUnique word_eq c.args.table = search rules in
    let all : c.into_iter-key-iterator.result ≡ c.args.table.entries = search rules in
    rw all (record { running = search rules; ordered = search rules; moves = begins c.args.table c.new-sum.result c.requires unique (search rules) })

pub loop-key-preserved : goal.loop-key-preserved
loop-key-preserved c =
    let word = c.key.inside.word in
    let entries_are : c.loop-key.key-iterator ≡ (word, c.in-Some.coefficient) ∷ c.next.new.self = search rules in
    let moves : Moves c.args.table ((word, c.in-Some.coefficient) ∷ c.next.new.self) c.loop-key.sum = rw (← entries_are) (search rules) in
    let update : Updates word_cmp c.loop-key.sum c.insert.new.self word (Some c.in-Some.coefficient) = search rules in
    record { running = running_more moves c.insert.new.self update c.loop-key.invariant.running; ordered = search rules; moves = moves_more moves c.insert.new.self update }
