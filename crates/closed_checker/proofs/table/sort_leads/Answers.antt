use Rattle.closed_checker.proofs.Prelude.{rules, nat_cmp, slice_cmp, nat_list_cmp_total, always_returns_same, ranks_by, IfOk-weaker, Lead, is_lt}
use Rattle.closed_checker.proofs.table.sort_leads.Goals as goal

pub returns-clause-sorted : goal.returns-clause-sorted
returns-clause-sorted c =
    IfOk-weaker c.sort_by.result _ _
    (λ _ h. h (λ (x y : Lead). is_lt (slice_cmp nat_cmp x.letters y.letters)) (ranks_by nat_list_cmp_total (λ (x : Lead). x.letters))
    (always_returns_same _ _ _ (λ a r k h. search rules)))
    c.sort_by.ensures.sorted
