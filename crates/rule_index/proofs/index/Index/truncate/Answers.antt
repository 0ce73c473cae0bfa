use Rattle.rule_index.proofs.Prelude.{◌≡◌, ◌<◌, ◌≤◌, ◌+◌, ◌∙◌, length, get_or, take, subst, sym, ap, arith, get_or_read, IsAscending, IsMarked, words_of, IsCounted, IsCut}
use Rattle.rule_index.proofs.Fronts.{ascending-take}
use Rattle.rule_index.proofs.FrontNodes.{words_of-take}
use Rattle.rule_index.proofs.Counted.{marked-cut, counted-cut}
use Rattle.rule_index.proofs.index.Index.truncate.Goals as goal

pub invariant_of-self-inside : goal.invariant_of-self-inside
invariant_of-self-inside c =
    let i = c.self.inside in
    let count = c.min-count.result in
    let nodes = i.tree.nodes.items in
    let words = words_of nodes in
    let sizes = i.sizes.items in
    let size = get_or sizes count 0 in
    let tree = c.cut.new.tree in
    let few : count ≤ length i.entries = omega (arith, c.min-count.ensures, c.len.ensures) in
    let some : 0 < size = i.counted.some count (omega (arith, few)) in
    let read : c.index.result.now ≡ size = get_or_read sizes count c.index.result.now (omega (arith, few, i.counted.sized)) c.index.ensures 0 in
    let cut : IsCut i.tree tree size count = subst (λ n. IsCut i.tree tree n count) read c.cut.ensures in
    let entries_are : c.truncate.new.self ≡ take count i.entries = c.truncate.ensures in
    let words_are : words_of tree.nodes.items ≡ take size words = ap words_of cut.nodes ∙ words_of-take size nodes some in
    let marked : IsMarked (take count i.entries) (take size words) tree.leasts.items = marked-cut i.entries words sizes i.counted count (omega (arith, few)) i.tree.leasts.items tree.leasts.items i.marked cut.sized cut.leasts in
    let counted : IsCounted (take count i.entries) (take size words) (take (count + 1) sizes) = counted-cut i.entries words sizes i.counted count (omega (arith, few)) in (
      subst IsAscending (sym entries_are) (ascending-take i.entries count i.ascending),
      (
        cut.tree,
        (
          subst (λ es. IsMarked es (words_of tree.nodes.items) tree.leasts.items) (sym entries_are) (subst (λ ws. IsMarked (take count i.entries) ws tree.leasts.items) (sym words_are) marked),
          (
            cut.lettered,
            (
              subst (λ es. IsCounted es (words_of tree.nodes.items) c.truncate-2.new.self.items) (sym entries_are)
                  (subst (λ ws. IsCounted (take count i.entries) ws c.truncate-2.new.self.items) (sym words_are) (subst (IsCounted (take count i.entries) (take size words)) (sym c.truncate-2.ensures.items) counted)),
              tt,
            ),
          ),
        ),
      ),
    )
