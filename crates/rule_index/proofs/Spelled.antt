-- The words of the nodes.
use Rattle.rule_index.proofs.Prelude.{◌≡◌, ℕ, zero, suc, ◌<◌, true, false, List, [], ◌∷◌, ◌++◌, length, get_or, drop, sym, ap, ◌∙◌, subst, arith, same_from_push, length_push, length-drop, false_from_ne_true, Node, has, word_at, longest, node_at, IsChild, IsSpelled, IsLinked}
use Rattle.rule_index.proofs.Suffixes.{has-at, has-place, IsClosed, longest-itself, longest-short, step-none, step-root}

module _ (nodes : List Node) (words : List (List ℕ)) (spelled : IsSpelled nodes words) where
  -- a word that is not empty is that of a child
  pub node-above : (w : List ℕ) (c k : ℕ) → word_at words k ≡ w ++ c ∷ [] → 0 < k
  node-above w c zero e = absurd (omega (arith, ap length (sym spelled.empty ∙ e), length_push w c))
  node-above w c (suc k) e = omega arith

  pub node-parts : (w : List ℕ) (c k : ℕ) → k < length nodes → word_at words k ≡ w ++ c ∷ [] → (word_at words (node_at nodes k).parent ≡ w) × ((node_at nodes k).letter ≡ c)
  node-parts w c k inside e = same_from_push _ w _ c (sym (spelled.spelled k (node-above w c k e) inside) ∙ e)

  pub words-closed : IsClosed words
  words-closed = record {
    front = λ w c e.
        let p = has-place words (w ++ c ∷ []) e in
        let parts = node-parts w c p.node (omega (arith, p.inside, spelled.sized)) p.word_is in
        subst (λ v. has words v ≡ true) parts.0 (has-at words (node_at nodes p.node).parent (omega (arith, spelled.parent_in p.node, spelled.sized)));
  }

  pub child-word : (at c k : ℕ) → IsChild nodes at c k → word_at words k ≡ word_at words at ++ c ∷ []
  child-word at c k child = spelled.spelled k child.above child.inside ∙ ap (λ p. word_at words p ++ (node_at nodes k).letter ∷ []) child.parent_is ∙ ap (λ x. word_at words at ++ x ∷ []) child.letter_is

  pub child-has : (at c k : ℕ) → IsChild nodes at c k → has words (word_at words at ++ c ∷ []) ≡ true
  child-has at c k child = subst (λ v. has words v ≡ true) (child-word at c k child) (has-at words k (omega (arith, child.inside, spelled.sized)))

  pub child-from_word : (at c k : ℕ) → at < length nodes → k < length nodes → word_at words k ≡ word_at words at ++ c ∷ [] → IsChild nodes at c k
  child-from_word at c k at_in k_in e =
      let parts = node-parts (word_at words at) c k k_in e in
      record {
        above = node-above (word_at words at) c k e;
        inside = k_in;
        parent_is = spelled.distinct (node_at nodes k).parent at (spelled.parent_in k) at_in parts.0;
        letter_is = parts.1;
      }

  pub child-single : (at c j k : ℕ) → IsChild nodes at c j → IsChild nodes at c k → j ≡ k
  child-single at c j k first second = spelled.distinct j k first.inside second.inside (child-word at c j first ∙ sym (child-word at c k second))

  pub child-absent : (at c : ℕ) → at < length nodes → ((k : ℕ) → IsChild nodes at c k → ⊥) → has words (word_at words at ++ c ∷ []) ≡ false
  child-absent at c inside none = false_from_ne_true (has words (word_at words at ++ c ∷ [])) (λ e.
      let p = has-place words (word_at words at ++ c ∷ []) e in
      none p.node (child-from_word at c p.node inside (omega (arith, p.inside, spelled.sized)) p.word_is))

  pub word-some : (k : ℕ) → 0 < k → k < length nodes → 0 < length (word_at words k)
  word-some k above inside = omega (arith, ap length (spelled.spelled k above inside), length_push (word_at words (node_at nodes k).parent) (node_at nodes k).letter)

  pub step-child : (at c k : ℕ) → IsChild nodes at c k → word_at words k ≡ longest words (word_at words at ++ c ∷ [])
  step-child at c k child = child-word at c k child ∙ sym (longest-itself words (word_at words at ++ c ∷ []) (child-has at c k child))

  -- at the root no link is left
  pub step-end : (at c : ℕ) → at ≡ 0 → at < length nodes → ((k : ℕ) → IsChild nodes at c k → ⊥) → word_at words 0 ≡ longest words (word_at words at ++ c ∷ [])
  step-end at c at_root inside none =
      let is_empty : word_at words at ≡ [] = ap (word_at words) at_root ∙ spelled.empty in
      let absent : has words (c ∷ []) ≡ false = subst (λ s. has words (s ++ c ∷ []) ≡ false) is_empty (child-absent at c inside none) in
      spelled.empty ∙ sym (ap (λ s. longest words (s ++ c ∷ [])) is_empty ∙ step-root words words-closed c absent)

  module _ (links : List ℕ) (linked : IsLinked words links) where
    pub link-shorter : (k : ℕ) → 0 < k → k < length nodes → length (word_at words (get_or links k 0)) < length (word_at words k)
    link-shorter k above inside =
        omega (arith, ap length (linked.link_is k above (omega (arith, spelled.sized))), longest-short words (drop 1 (word_at words k)), length-drop 1 (word_at words k), word-some k above inside)

    -- where there is no child, the link serves as well
    pub step-up : (at c : ℕ) → 0 < at → at < length nodes → ((k : ℕ) → IsChild nodes at c k → ⊥) → longest words (word_at words at ++ c ∷ []) ≡ longest words (word_at words (get_or links at 0) ++ c ∷ [])
    step-up at c above inside none =
        step-none words words-closed c (word_at words at) (child-absent at c inside none) (word-some at above inside)
        ∙ ap (λ s. longest words (s ++ c ∷ [])) (sym (linked.link_is at above (omega (arith, spelled.sized))))
