use Rattle.closed_checker.proofs.Prelude.{rules, ◌≡◌, slice_get, Some, arith, leb-true, rank_at}
use Rattle.closed_checker.proofs.Ends.{first-past}
use Rattle.closed_checker.proofs.table.are_past.Goals as goal

pub returns-in-Some : goal.returns-in-Some
returns-in-Some c told =
    let leads = c.args.leads.now in
    let first = c.in-Some.first.now in
    let there : slice_get leads 0 ≡ Some first = search rules in
    let rank : c.rank.result ≡ rank_at c.args.depth first.letters = search rules in
    first-past c.args.depth c.args.bound leads c.requires first there (omega (arith, rank, leb-true c.args.bound c.rank.result told))
