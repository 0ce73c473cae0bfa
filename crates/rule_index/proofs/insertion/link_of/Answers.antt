use Rattle.rule_index.proofs.Prelude.{◌≡◌, ◌++◌, ◌∷◌, [], get_or, arith, subst, get_or_read, word_at, IsLongest, words_of}
use Rattle.rule_index.proofs.Reading.{link-step}
use Rattle.rule_index.proofs.insertion.link_of.Goals as goal

pub returns : goal.returns
returns c =
    let nodes = c.args.tree.now.nodes.items in
    let links = c.args.tree.now.links.items in
    let spelled = c.requires.tree.spelled in
    let linked = c.requires.tree.linked in
    let at = c.args.at in
    let letter = c.args.letter in
    let next = c.step.result in
    let link : c.index.result.now ≡ get_or links at 0 = get_or_read links at c.index.result.now (omega (arith, linked.sized, spelled.sized, c.requires.inside)) c.index.ensures 0 in
    let step : IsLongest nodes (word_at (words_of nodes) c.index.result.now ++ letter ∷ []) next =
    subst (λ ns. IsLongest ns (word_at (words_of ns) c.index.result.now ++ letter ∷ []) next) c.deref.ensures.value c.step.ensures in
    link-step nodes spelled links linked at letter next (omega arith) c.requires.inside (subst (λ l. IsLongest nodes (word_at (words_of nodes) l ++ letter ∷ []) next) link step)
