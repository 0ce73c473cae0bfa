use Rattle.rule_index.proofs.Prelude.{◌≡◌, length, subst, sym, arith, IsPrefixCount, words_of}
use Rattle.rule_index.proofs.Counting.{nodes-count}
use Rattle.rule_index.proofs.Counted.{counted-within}
use Rattle.rule_index.proofs.index.Index.nodes.Goals as goal

pub returns : goal.returns
returns c =
    let i = c.self.inside in
    let nodes = i.tree.nodes.items in
    let count : c.len.result ≡ length nodes = omega (arith, c.len.ensures) in
    subst (λ n. IsPrefixCount c.args.self.now n) (sym count)
    (subst (λ entries. IsPrefixCount entries (length nodes)) c.self.view_is
    (nodes-count i.entries nodes i.grown.chained.some i.grown.spelled i.marked.listed (counted-within i.entries (words_of nodes) i.sizes.items i.counted)))
