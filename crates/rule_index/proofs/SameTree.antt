-- A tree whose lists are others that hold the same.
use Rattle.rule_index.proofs.Prelude.{◌≡◌, ℕ, List, sym, subst, Node, IsTree}

pub tree_of_same : (nodes nodes' : List Node) (heads heads' nexts nexts' links links' : List ℕ) → nodes' ≡ nodes → heads' ≡ heads → nexts' ≡ nexts → links' ≡ links → IsTree nodes heads nexts links → IsTree nodes' heads' nexts' links'
tree_of_same nodes nodes' heads heads' nexts nexts' links links' same_nodes same_heads same_nexts same_links tree =
    subst (λ ns. IsTree ns heads' nexts' links') (sym same_nodes)
    (subst (λ hs. IsTree nodes hs nexts' links') (sym same_heads)
    (subst (λ xs. IsTree nodes heads xs links') (sym same_nexts)
    (subst (λ ls. IsTree nodes heads nexts ls) (sym same_links) tree)))
