-- The first nodes, their words and their links.
use Rattle.rule_index.proofs.Prelude.{◌≡◌, inl, inr, ℕ, zero, suc, ◌+◌, ◌<◌, ◌≤◌, List, [], ◌∷◌, ◌++◌, length, get_or, take, drop, refl, sym, ap, ap₂, ◌∙◌, arith, take-append_seam, append_assoc, append-nil, length_push, length-take-le, get_or-take, get_or_past, take_all, cases_lt, Node, word_at, longest, node_at, root, grown, words_of, IsSpelled, IsLinked, IsKept}
use Rattle.rule_index.proofs.FirstWords.{longest-fewer}

record Longer (words all : List (List ℕ)) : Type 0 where
  more : List (List ℕ)
  splits : all ≡ words ++ more

grown-more : (words : List (List ℕ)) (nodes : List Node) → Longer words (grown words nodes)
grown-more words [] = record { more = []; splits = sym (append-nil words) }
grown-more words (m ∷ nodes) =
    let w = word_at words m.parent ++ m.letter ∷ [] in
    let rest = grown-more (words ++ w ∷ []) nodes in
    record { more = w ∷ rest.more; splits = rest.splits ∙ append_assoc words (w ∷ []) rest.more }

grown-take : (words : List (List ℕ)) (n : ℕ) (nodes : List Node) → grown words (take n nodes) ≡ take (length words + n) (grown words nodes)
grown-take words zero nodes =
    let whole = grown-more words nodes in
    let count : length words + 0 ≡ length words = omega arith in
    sym (ap₂ take count whole.splits ∙ take-append_seam words whole.more)
grown-take words (suc n) [] = sym (take_all (length words + suc n) words (omega arith))
grown-take words (suc n) (m ∷ nodes) =
    let w = word_at words m.parent ++ m.letter ∷ [] in
    let count : length (words ++ w ∷ []) + n ≡ length words + suc n = omega (arith, length_push words w) in
    grown-take (words ++ w ∷ []) n nodes ∙ ap (λ k. take k (grown (words ++ w ∷ []) nodes)) count

pub words_of-take : (n : ℕ) (nodes : List Node) → 0 < n → words_of (take n nodes) ≡ take n (words_of nodes)
words_of-take zero nodes some = absurd (omega arith)
words_of-take (suc n) [] some = refl
words_of-take (suc n) (m ∷ nodes) some = let count : length {A = List ℕ} ([] ∷ []) + n ≡ suc n = omega arith in grown-take ([] ∷ []) n nodes ∙ ap (λ k. take k (grown ([] ∷ []) nodes)) count

module _ (nodes : List Node) (size : ℕ) (some : 0 < size) (within : size ≤ length nodes) where
  abbrev front : List Node
  front = take size nodes

  pub count-front : length (take size nodes) ≡ size
  count-front = length-take-le size nodes within

  pub node-front : (k : ℕ) → k < size → node_at (take size nodes) k ≡ node_at nodes k
  node-front k below = get_or-take size nodes k root below

  node-past : (k : ℕ) → size ≤ k → node_at front k ≡ root
  node-past k past = get_or_past front k root (omega (arith, count-front))

  module _ (words : List (List ℕ)) (h : IsSpelled nodes words) where
    pub count-words : length (take size words) ≡ size
    count-words = length-take-le size words (omega (arith, h.sized))

    pub word-front : (k : ℕ) → k < size → word_at (take size words) k ≡ word_at words k
    word-front k below = get_or-take size words k [] below

    parent_in : (k : ℕ) → (node_at front k).parent < length front
    parent_in k = elim (cases_lt k size) [
      | inl below ↦ omega (arith, ap (λ n. n.parent) (node-front k below), h.parent_low k, count-front)
      | inr past ↦ omega (arith, ap (λ n. n.parent) (node-past k past), count-front)
    ]

    parent_low : (k : ℕ) → (node_at front k).parent ≤ k
    parent_low k = elim (cases_lt k size) [ inl below ↦ omega (arith, ap (λ n. n.parent) (node-front k below), h.parent_low k) | inr past ↦ omega (arith, ap (λ n. n.parent) (node-past k past)) ]

    depth_low : (k : ℕ) → (node_at front k).depth ≤ k
    depth_low k = elim (cases_lt k size) [ inl below ↦ omega (arith, ap (λ n. n.depth) (node-front k below), h.depth_low k) | inr past ↦ omega (arith, ap (λ n. n.depth) (node-past k past)) ]

    spelled : (k : ℕ) → 0 < k → k < length front → word_at (take size words) k ≡ word_at (take size words) (node_at front k).parent ++ (node_at front k).letter ∷ []
    spelled k above inside =
        let below : k < size = omega (arith, count-front) in
        let is = node-front k below in
        let parent : (node_at nodes k).parent < size = omega (arith, h.parent_low k) in
        word-front k below
        ∙ h.spelled k above (omega arith)
        ∙ ap (λ w. w ++ (node_at nodes k).letter ∷ []) (sym (word-front (node_at nodes k).parent parent))
        ∙ sym (ap (λ n. word_at (take size words) n.parent ++ n.letter ∷ []) is)

    pub spelled-take : IsSpelled (take size nodes) (take size words)
    spelled-take = record {
      sized = count-words ∙ sym count-front;
      empty = word-front 0 some ∙ h.empty;
      top = ap (λ n. n.parent) (node-front 0 some) ∙ h.top;
      parent_in = parent_in;
      parent_low = parent_low;
      spelled = spelled;
      distinct = λ j k j_in k_in e.
          let j_below : j < size = omega (arith, count-front) in
          let k_below : k < size = omega (arith, count-front) in
          h.distinct j k (omega arith) (omega arith) (sym (word-front j j_below) ∙ e ∙ word-front k k_below);
      depth_low = depth_low;
      depth_is = λ k inside.
          let below : k < size = omega (arith, count-front) in
          ap (λ n. n.depth) (node-front k below) ∙ h.depth_is k (omega arith) ∙ ap length (sym (word-front k below));
    }

    module _ (links link : List ℕ) (linked : IsLinked words links) (sized : length link ≡ length links)
        (moved : (k : ℕ) → k < size → IsKept words size (get_or links k 0) (get_or link k 0)) where
      count-links : length (take size link) ≡ size
      count-links = length-take-le size link (omega (arith, sized, linked.sized, h.sized))

      link_in : (k : ℕ) → get_or (take size link) k 0 < length (take size words)
      link_in k = elim (cases_lt k size) [
        | inl below ↦ omega (arith, get_or-take size link k 0 below, (moved k below).inside, count-words)
        | inr past ↦ omega (arith, get_or_past (take size link) k 0 (omega (arith, count-links)), count-words)
      ]

      pub linked-take : IsLinked (take size words) (take size link)
      linked-take = record {
        sized = count-links ∙ sym count-words;
        link_in = link_in;
        link_is = λ k above inside.
            let below : k < size = omega (arith, count-words) in
            let m = moved k below in
            ap (word_at (take size words)) (get_or-take size link k 0 below)
            ∙ word-front (get_or link k 0) m.inside
            ∙ m.word_is
            ∙ ap (longest (take size words)) (linked.link_is k above (omega (arith, h.sized)))
            ∙ longest-fewer size words (drop 1 (word_at words k))
            ∙ ap (λ w. longest (take size words) (drop 1 w)) (sym (word-front k below));
      }
