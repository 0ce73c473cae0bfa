use Rattle.rule_reduce.proofs.Prelude.{rules, ◌≡◌, true, false, IsPartitionPoint, is_gt, IsPartitionPoint-from_clause, Term, word_cmp}
use Rattle.rule_reduce.proofs.InPlace.{all_above, parted_by}
use Rattle.rule_reduce.proofs.adding.count_above.Goals as goal

pub returns-clause-above : goal.returns-clause-above
returns-clause-above c =
    let p = c.args.terms.now in
    let w = c.args.word.now in
    let test = λ (t : Term). is_gt (word_cmp t.1 w) in
    let point : IsPartitionPoint (λ t. test t ≡ true) (λ t. test t ≡ false) p c.partition_point.result =
    IsPartitionPoint-from_clause test _ _ c.partition_point.ensures.partitioned (parted_by p w c.requires.descending) (λ a r q k. search rules) in
    all_above p w c.partition_point.result point.0
