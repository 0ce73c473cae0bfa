use Rattle.closed_checker.proofs.Prelude.{rules, nat_lt, IsPartitionPoint-from_clause, IsPartitionedBy-ltb, Lead, rank_at}
use Rattle.closed_checker.proofs.table.count_below.Goals as goal

pub returns-clause-point : goal.returns-clause-point
returns-clause-point c =
    let leads = c.args.leads.now in
    let test = λ (l : Lead). nat_lt (rank_at c.args.depth l.letters) c.args.bound in
    let parted = IsPartitionedBy-ltb (λ (l : Lead). rank_at c.args.depth l.letters) leads c.args.bound c.requires in
    IsPartitionPoint-from_clause test _ _ c.partition_point.ensures.partitioned parted (λ a r q k. search rules)
