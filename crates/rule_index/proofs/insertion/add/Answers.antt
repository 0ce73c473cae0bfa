use Rattle.rule_index.proofs.Prelude.{◌≡◌, ◌∙◌, ◌+◌, ◌++◌, ◌∷◌, [], ℕ, length, subst, sym, ap, arith, get_or_read, Node, IsChained, IsLettered, added_node, node_at, root}
use Rattle.rule_index.proofs.Chained.{chained-longer, lettered-longer}
use Rattle.rule_index.proofs.insertion.add.Goals as goal

pub chain_one-requires-clause-chained : goal.chain_one-requires-clause-chained
chain_one-requires-clause-chained c =
    let old = c.args.tree.now in
    let nodes = old.nodes.items in
    let new = added_node nodes c.args.at c.args.letter in
    let count : c.len-node.result ≡ length nodes = omega (arith, c.len-node.ensures) in
    let read : c.index.result.now ≡ node_at nodes c.args.at = get_or_read nodes c.args.at c.index.result.now c.requires.inside c.index.ensures root in
    let nodes_are : c.deref.result.now ≡ nodes ++ new ∷ [] =
    c.deref.ensures.value ∙ c.put.ensures.items ∙ ap (λ (m : Node). nodes ++ record { parent = c.args.at; letter = c.args.letter; depth = m.depth + 1 } ∷ []) read in
    let heads_are : c.deref_mut.result.now ≡ old.heads.items = c.deref_mut.ensures.value in
    let nexts_are : c.deref_mut-2.result.now ≡ old.nexts.items ++ 0 ∷ [] = c.deref_mut-2.ensures.value ∙ c.put-2.ensures.items in
    subst (λ ns. IsChained ns c.len-node.result c.deref_mut.result.now c.deref_mut-2.result.now) (sym nodes_are)
    (subst (λ (n : ℕ). IsChained (nodes ++ new ∷ []) n c.deref_mut.result.now c.deref_mut-2.result.now) (sym count)
    (subst (λ hs. IsChained (nodes ++ new ∷ []) (length nodes) hs c.deref_mut-2.result.now) (sym heads_are)
    (subst (λ xs. IsChained (nodes ++ new ∷ []) (length nodes) old.heads.items xs) (sym nexts_are)
    (chained-longer nodes old.heads.items old.nexts.items new c.requires.tree.chained))))

pub chain_letter-requires-clause-lettered : goal.chain_letter-requires-clause-lettered
chain_letter-requires-clause-lettered c =
    let old = c.args.tree.now in
    let nodes = old.nodes.items in
    let new = added_node nodes c.args.at c.args.letter in
    let count : c.len-node.result ≡ length nodes = omega (arith, c.len-node.ensures) in
    let read : c.index.result.now ≡ node_at nodes c.args.at = get_or_read nodes c.args.at c.index.result.now c.requires.inside c.index.ensures root in
    let nodes_are : c.deref-2.result.now ≡ nodes ++ new ∷ [] =
    c.deref-2.ensures.value ∙ c.put.ensures.items ∙ ap (λ (m : Node). nodes ++ record { parent = c.args.at; letter = c.args.letter; depth = m.depth + 1 } ∷ []) read in
    let heads_are : c.deref_mut-3.result.now ≡ old.letter_heads.items = c.deref_mut-3.ensures.value in
    let nexts_are : c.deref_mut-4.result.now ≡ old.letter_nexts.items ++ 0 ∷ [] = c.deref_mut-4.ensures.value ∙ c.put-3.ensures.items in
    subst (λ ns. IsLettered ns c.len-node.result c.deref_mut-3.result.now c.deref_mut-4.result.now) (sym nodes_are)
    (subst (λ (n : ℕ). IsLettered (nodes ++ new ∷ []) n c.deref_mut-3.result.now c.deref_mut-4.result.now) (sym count)
    (subst (λ hs. IsLettered (nodes ++ new ∷ []) (length nodes) hs c.deref_mut-4.result.now) (sym heads_are)
    (subst (λ xs. IsLettered (nodes ++ new ∷ []) (length nodes) old.letter_heads.items xs) (sym nexts_are)
    (lettered-longer nodes old.letter_heads.items old.letter_nexts.items new c.requires.lettered))))

pub returns-clause-nodes : goal.returns-clause-nodes
returns-clause-nodes c =
    let nodes = c.args.tree.now.nodes.items in
    let read : c.index.result.now ≡ node_at nodes c.args.at = get_or_read nodes c.args.at c.index.result.now c.requires.inside c.index.ensures root in
    c.put.ensures.items ∙ ap (λ (m : Node). nodes ++ record { parent = c.args.at; letter = c.args.letter; depth = m.depth + 1 } ∷ []) read

pub returns-clause-room : goal.returns-clause-room
returns-clause-room c count room = record {
  nodes = omega (arith, room.nodes, c.put.ensures.len, c.put.ensures.capacity);
  nexts = omega (arith, room.nexts, c.put-2.ensures.len, c.put-2.ensures.capacity);
  letter_nexts = omega (arith, room.letter_nexts, c.put-3.ensures.len, c.put-3.ensures.capacity);
  links = omega (arith, room.links, c.put-4.ensures.len, c.put-4.ensures.capacity);
  leasts = omega (arith, room.leasts, c.put-5.ensures.len, c.put-5.ensures.capacity);
}
