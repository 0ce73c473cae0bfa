use Rattle.closed_checker.proofs.Prelude.{rules, ◌+◌, not, nat_lt, nat_eq, filter, sym, ap, ◌∙◌, subst, IsNonDecreasingBy, IsNonDecreasingBy-filter, Lead, rank_at}
use Rattle.closed_checker.proofs.Cutting.{filter-between}
use Rattle.closed_checker.proofs.table.narrow.Goals as goal

pub split-requires-2 : goal.split-requires-2
split-requires-2 c =
    let rank = λ (l : Lead). rank_at c.args.depth l.letters in
    subst (IsNonDecreasingBy rank) (sym c.split.ensures.others)
    (IsNonDecreasingBy-filter rank (λ l. not (nat_lt (rank l) (c.from-least.result + 1))) c.args.leads.now c.requires)

pub returns : goal.returns
returns c =
    let rank = λ (l : Lead). rank_at c.args.depth l.letters in
    c.split-2.ensures.below
    ∙ ap (filter (λ l. nat_lt (rank l) (c.from-least.result + 1 + 1))) c.split.ensures.others
    ∙ filter-between rank (c.from-least.result + 1) c.args.leads.now
    ∙ ap (λ n. filter (λ l. nat_eq (rank l) n) c.args.leads.now) (search rules)
