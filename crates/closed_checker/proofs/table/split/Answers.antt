use Rattle.closed_checker.proofs.Prelude.{nat_lt, ◌∙◌, Lead, rank_at}
use Rattle.closed_checker.proofs.Cutting.{cut-front, cut-back}
use Rattle.closed_checker.proofs.table.split.Goals as goal

pub returns-clause-below : goal.returns-clause-below
returns-clause-below c =
    let test = λ (l : Lead). nat_lt (rank_at c.args.depth l.letters) c.args.bound in
    c.split_at.ensures.front ∙ cut-front test c.args.leads.now c.count_below.result c.count_below.ensures.within c.count_below.ensures.point

pub returns-clause-others : goal.returns-clause-others
returns-clause-others c =
    let test = λ (l : Lead). nat_lt (rank_at c.args.depth l.letters) c.args.bound in
    c.split_at.ensures.back ∙ cut-back test c.args.leads.now c.count_below.result c.count_below.ensures.within c.count_below.ensures.point
