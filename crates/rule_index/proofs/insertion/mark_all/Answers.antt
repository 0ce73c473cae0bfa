use Rattle.rule_index.proofs.Prelude.{◌<◌, ◌+◌, ℕ, List, length, get_or, Option, None, arith, refl, subst, sym, length-set, IsMarkedAt}
use Rattle.rule_index.proofs.Ending.{mark-more}
use Rattle.rule_index.proofs.insertion.mark_all.Goals as goal

pub mark-requires : goal.mark-requires
mark-requires c = omega (arith, c.requires (get_or c.args.ends.now c.loop-end.end-index 0) (c.loop-end.end-index, c.loop-end-test.true, refl))

pub loop-end-preserved : goal.loop-end-preserved
loop-end-preserved c =
    let ends = c.args.ends.now in
    let n = c.loop-end.end-index in
    let now = c.loop-end.leasts in
    subst (λ (leasts : List (Option ℕ)). (k : ℕ) → k < length leasts → IsMarkedAt ends (n + 1) c.args.place (get_or c.args.leasts.now k None) (get_or leasts k None) k)
    (sym c.mark.ensures)
    (λ k inside.
    let k_in : k < length now = omega (arith, inside, length-set {A = Option ℕ}) in
    mark-more ends n c.args.place c.args.leasts.now now k k_in (c.loop-end.invariant k k_in))
