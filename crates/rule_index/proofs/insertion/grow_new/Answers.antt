use Rattle.rule_index.proofs.Prelude.{◌≡◌, ◌<◌, ◌+◌, ◌++◌, ◌∷◌, [], length, get_or, arith, subst, sym, ap, ◌∙◌, with_items, length_push, with_items_is, Tree, word_at, IsRelinked, IsGrown, added_node, words_of}
use Rattle.rule_index.proofs.Pushing.{push-below}
use Rattle.rule_index.proofs.Growing.{grown-new}
use Rattle.rule_index.proofs.insertion.grow_new.Goals as goal

pub relink-requires-clause-ends : goal.relink-requires-clause-ends
relink-requires-clause-ends c = λ k l.
    omega (arith, c.requires.ends.inside k l, c.requires.tree.linked.sized, c.deref_mut.ensures.len, ap length c.add.ensures.links, length_push c.args.tree.now.links.items c.link_of-link.result)

pub relink-requires-clause-links : goal.relink-requires-clause-links
relink-requires-clause-links c = λ k.
    let old = c.args.tree.now in
    let nodes = old.nodes.items in
    let before : c.deref_mut.result.now ≡ old.links.items ++ c.link_of-link.result ∷ [] = c.deref_mut.ensures.value ∙ c.add.ensures.links in
    let count : length c.deref.result.now ≡ length nodes + 1 = ap length (c.deref.ensures.value ∙ c.add.ensures.nodes) ∙ length_push nodes (added_node nodes c.args.at c.args.letter) in
    let old_in = c.requires.tree.linked.link_in in
    let inside : get_or (old.links.items ++ c.link_of-link.result ∷ []) k 0 < length nodes =
    push-below old.links.items c.link_of-link.result (length nodes) c.link_of-link.ensures.inside (λ j. omega (arith, old_in j, c.requires.tree.spelled.sized)) k in
    omega (arith, count, inside, ap (λ ls. get_or ls k 0) before)

pub returns : goal.returns
returns c =
    let old = c.args.tree.now in
    let link = c.link_of-link.result in
    let ends = c.args.ends.now in
    let new : Tree = record { nodes = c.add.new.tree.nodes; heads = c.add.new.tree.heads; nexts = c.add.new.tree.nexts; letter_heads = c.add.new.tree.letter_heads; letter_nexts = c.add.new.tree.letter_nexts; links = with_items c.add.new.tree.links c.relink.new.links; leasts = c.add.new.tree.leasts } in
    let count : c.len-node.result ≡ length old.nodes.items = omega (arith, c.len-node.ensures) in
    let links : new.links.items ≡ c.relink.new.links = with_items_is c.add.new.tree.links c.relink.new.links (omega (arith, c.relink.auto.links, c.deref_mut.ensures.len)) in
    let before : c.deref_mut.result.now ≡ old.links.items ++ link ∷ [] = c.deref_mut.ensures.value ∙ c.add.ensures.links in
    subst (λ node. IsGrown old new (word_at (words_of old.nodes.items) c.args.at ++ c.args.letter ∷ []) ends node) (sym count)
    (grown-new old new c.requires.tree c.requires.sized c.args.at c.args.letter link ends c.requires.inside c.requires.absent c.requires.ends c.link_of-link.ensures
    c.add.ensures.nodes c.add.ensures.chained c.add.ensures.lettered c.add.ensures.leasts
    (ap length links ∙ c.relink.auto.links ∙ ap length before)
    (λ k below.
    let m0 = c.relink.ensures k (subst (λ ls. k < length ls) (sym before) below) in
    let m1 : IsRelinked c.deref.result.now ends (length ends) (length old.nodes.items) (get_or c.deref_mut.result.now k 0) (get_or c.relink.new.links k 0) k =
    subst (λ node. IsRelinked c.deref.result.now ends (length ends) node (get_or c.deref_mut.result.now k 0) (get_or c.relink.new.links k 0) k) count m0 in
    let m2 : IsRelinked new.nodes.items ends (length ends) (length old.nodes.items) (get_or c.deref_mut.result.now k 0) (get_or c.relink.new.links k 0) k =
    subst (λ ns. IsRelinked ns ends (length ends) (length old.nodes.items) (get_or c.deref_mut.result.now k 0) (get_or c.relink.new.links k 0) k) c.deref.ensures.value m1 in
    let m3 : IsRelinked new.nodes.items ends (length ends) (length old.nodes.items) (get_or (old.links.items ++ link ∷ []) k 0) (get_or c.relink.new.links k 0) k =
    subst (λ ls. IsRelinked new.nodes.items ends (length ends) (length old.nodes.items) (get_or ls k 0) (get_or c.relink.new.links k 0) k) before m2 in
    subst (λ ls. IsRelinked new.nodes.items ends (length ends) (length old.nodes.items) (get_or (old.links.items ++ link ∷ []) k 0) (get_or ls k 0) k) (sym links) m3)
    (λ more r. let r' = c.add.ensures.room more r in record { nodes = r'.nodes; nexts = r'.nexts; letter_nexts = r'.letter_nexts; links = r'.links; leasts = r'.leasts }))
