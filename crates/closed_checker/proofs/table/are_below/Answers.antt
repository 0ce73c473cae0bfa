use Rattle.closed_checker.proofs.Prelude.{rules, ◌≡◌, ◌-◌, length, slice_get, Some, arith, ltb-true, rank_at}
use Rattle.closed_checker.proofs.Ends.{last-below}
use Rattle.closed_checker.proofs.table.are_below.Goals as goal

pub returns-in-Some : goal.returns-in-Some
returns-in-Some c told =
    let leads = c.args.leads.now in
    let last = c.in-Some.last.now in
    let there : slice_get leads (length leads - 1) ≡ Some last = search rules in
    let rank : c.rank.result ≡ rank_at c.args.depth last.letters = search rules in
    last-below c.args.depth c.args.bound leads c.requires last there (omega (arith, rank, ltb-true c.rank.result c.args.bound told))
