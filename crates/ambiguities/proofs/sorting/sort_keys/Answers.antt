use Rattle.ambiguities.proofs.Prelude.{rules, always_returns_same, ranks_by, IfOk-weaker, key_cmp, is_lt}
use Rattle.ambiguities.proofs.Keyed.{key_cmp-total}
use Rattle.ambiguities.proofs.sorting.sort_keys.Goals as goal

pub returns-clause-sorted : goal.returns-clause-sorted
returns-clause-sorted c =
    IfOk-weaker c.sort_by.result _ _
    (λ _ h. h (λ x y. is_lt (key_cmp x y)) (ranks_by key_cmp-total (λ x. x)) (always_returns_same _ _ _ (λ a r k h. search rules)))
    c.sort_by.ensures.sorted
