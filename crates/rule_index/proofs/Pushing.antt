-- One node more.
use Rattle.rule_index.proofs.Prelude.{◌≡◌, ◌≢◌, inl, inr, ℕ, ◌+◌, ◌<◌, ◌≤◌, true, false, List, [], ◌∷◌, ◌++◌, length, get_or, refl, sym, ap, ◌∙◌, subst, arith, length_push, get_or_push, get_or_append_left, get_or_past, cases_lt, eqb_tells, Node, has, word_at, node_at, root, grown, words_of, IsSpelled}
use Rattle.rule_index.proofs.Suffixes.{has-at}

pub push-old : {X : Type 0} (xs : List X) (y d : X) (k : ℕ) → k ≢ length xs → get_or (xs ++ y ∷ []) k d ≡ get_or xs k d
push-old xs y d k apart = elim (cases_lt k (length xs)) [
  | inl below ↦ get_or_append_left xs (y ∷ []) d k below
  | inr above ↦ get_or_past (xs ++ y ∷ []) k d (omega (arith, length_push xs y, apart)) ∙ sym (get_or_past xs k d above)
]

pub push-new : {X : Type 0} (xs : List X) (y d : X) (k : ℕ) → k ≡ length xs → get_or (xs ++ y ∷ []) k d ≡ y
push-new xs y d k e = get_or_push xs y d k (sym e)

pub data Same (k n : ℕ) : Type 0 where
  is_same : k ≡ n → Same k n
  is_other : k ≢ n → Same k n

pub same_or : (k n : ℕ) → Same k n
same_or k n = elim (eqb_tells k n) [ inl s ↦ is_same s.1 | inr o ↦ is_other o.1 ]

pub push-below : (xs : List ℕ) (y n : ℕ) → y < n → ((k : ℕ) → get_or xs k 0 < n) → (k : ℕ) → get_or (xs ++ y ∷ []) k 0 < n
push-below xs y n below all k = elim (same_or k (length xs)) [ is_same e ↦ omega (arith, push-new xs y 0 k e) | is_other o ↦ omega (arith, push-old xs y 0 k o, all k) ]

-- the words of the nodes
grown-append : (words : List (List ℕ)) (nodes : List Node) (n : Node) → grown words (nodes ++ n ∷ []) ≡ grown words nodes ++ (word_at (grown words nodes) n.parent ++ n.letter ∷ []) ∷ []
grown-append words [] n = refl
grown-append words (m ∷ nodes) n = grown-append (words ++ (word_at words m.parent ++ m.letter ∷ []) ∷ []) nodes n

pub words-push : (nodes : List Node) (n : Node) → 0 < length nodes → words_of (nodes ++ n ∷ []) ≡ words_of nodes ++ (word_at (words_of nodes) n.parent ++ n.letter ∷ []) ∷ []
words-push [] n some = absurd (omega arith)
words-push (m ∷ nodes) n some = grown-append ([] ∷ []) nodes n

module _ (nodes : List Node) (words : List (List ℕ)) (h : IsSpelled nodes words) (n : Node) (parent_in : n.parent < length nodes) where
  abbrev word : List ℕ
  word = word_at words n.parent ++ n.letter ∷ []

  word-old : (k : ℕ) → k < length nodes → word_at (words ++ word ∷ []) k ≡ word_at words k
  word-old k below = push-old words word [] k (λ e. omega (arith, h.sized))

  word-new : (k : ℕ) → k ≡ length nodes → word_at (words ++ word ∷ []) k ≡ word
  word-new k e = push-new words word [] k (e ∙ sym h.sized)

  at-old : (k : ℕ) → k ≢ length nodes → node_at (nodes ++ n ∷ []) k ≡ node_at nodes k
  at-old k o = push-old nodes n root k o

  at-new : (k : ℕ) → k ≡ length nodes → node_at (nodes ++ n ∷ []) k ≡ n
  at-new k e = push-new nodes n root k e

  sizes : length (nodes ++ n ∷ []) ≡ length nodes + 1
  sizes = length_push nodes n

  module _ (absent : has words word ≡ false) (deeper : n.depth ≡ (node_at nodes n.parent).depth + 1) where
    not_old : (k : ℕ) → k < length nodes → word_at words k ≡ word → ⊥
    not_old k below e = cc (subst (λ w. has words w ≡ true) e (has-at words k (omega (arith, h.sized))))

    spelled : (k : ℕ) → 0 < k → k < length (nodes ++ n ∷ []) → word_at (words ++ word ∷ []) k ≡ word_at (words ++ word ∷ []) (node_at (nodes ++ n ∷ []) k).parent ++ (node_at (nodes ++ n ∷ []) k).letter ∷ []
    spelled k some within = elim (same_or k (length nodes)) [
      | is_same e ↦ word-new k e ∙ sym (ap (λ m. word_at (words ++ word ∷ []) m.parent ++ m.letter ∷ []) (at-new k e) ∙ ap (λ w. w ++ n.letter ∷ []) (word-old n.parent parent_in))
      | is_other o ↦
          let below : k < length nodes = omega (arith, sizes, o) in
          word-old k below
          ∙ h.spelled k some below
          ∙ sym (ap (λ m. word_at (words ++ word ∷ []) m.parent ++ m.letter ∷ []) (at-old k o) ∙ ap (λ w. w ++ (node_at nodes k).letter ∷ []) (word-old (node_at nodes k).parent (h.parent_in k)))
    ]

    distinct : (j k : ℕ) → j < length (nodes ++ n ∷ []) → k < length (nodes ++ n ∷ []) → word_at (words ++ word ∷ []) j ≡ word_at (words ++ word ∷ []) k → j ≡ k
    distinct j k j_in k_in e = go (same_or j (length nodes)) (same_or k (length nodes))
      where
        go : Same j (length nodes) → Same k (length nodes) → j ≡ k
        go (is_same a) (is_same b) = a ∙ sym b
        go (is_same a) (is_other b) = let below : k < length nodes = omega (arith, sizes, b) in absurd (not_old k below (sym (word-old k below) ∙ sym e ∙ word-new j a))
        go (is_other a) (is_same b) = let below : j < length nodes = omega (arith, sizes, a) in absurd (not_old j below (sym (word-old j below) ∙ e ∙ word-new k b))
        go (is_other a) (is_other b) =
            let j_below : j < length nodes = omega (arith, sizes, a) in
            let k_below : k < length nodes = omega (arith, sizes, b) in
            h.distinct j k j_below k_below (sym (word-old j j_below) ∙ e ∙ word-old k k_below)

    parents_in : (k : ℕ) → (node_at (nodes ++ n ∷ []) k).parent < length (nodes ++ n ∷ [])
    parents_in k = elim (same_or k (length nodes)) [
      | is_same e ↦ omega (arith, ap (λ m. m.parent) (at-new k e), sizes)
      | is_other o ↦ omega (arith, ap (λ m. m.parent) (at-old k o), h.parent_in k, sizes)
    ]

    parents_low : (k : ℕ) → (node_at (nodes ++ n ∷ []) k).parent ≤ k
    parents_low k = elim (same_or k (length nodes)) [
      | is_same e ↦ omega (arith, ap (λ m. m.parent) (at-new k e), parent_in)
      | is_other o ↦ omega (arith, ap (λ m. m.parent) (at-old k o), h.parent_low k)
    ]

    depth_low : (k : ℕ) → (node_at (nodes ++ n ∷ []) k).depth ≤ k
    depth_low k = elim (same_or k (length nodes)) [
      | is_same e ↦ omega (arith, ap (λ m. m.depth) (at-new k e), deeper, h.depth_low n.parent)
      | is_other o ↦ omega (arith, ap (λ m. m.depth) (at-old k o), h.depth_low k)
    ]

    depth_is : (k : ℕ) → k < length (nodes ++ n ∷ []) → (node_at (nodes ++ n ∷ []) k).depth ≡ length (word_at (words ++ word ∷ []) k)
    depth_is k within = elim (same_or k (length nodes)) [
      | is_same e ↦ ap (λ m. m.depth) (at-new k e) ∙ deeper ∙ ap (λ x. x + 1) (h.depth_is n.parent parent_in) ∙ sym (length_push (word_at words n.parent) n.letter) ∙ ap length (sym (word-new k e))
      | is_other o ↦
          let below : k < length nodes = omega (arith, sizes, o) in
          ap (λ m. m.depth) (at-old k o) ∙ h.depth_is k below ∙ ap length (sym (word-old k below))
    ]

    pub spelled-push : IsSpelled (nodes ++ n ∷ []) (words ++ (word_at words n.parent ++ n.letter ∷ []) ∷ [])
    spelled-push = record {
      sized = length_push words word ∙ ap (λ x. x + 1) h.sized ∙ sym sizes;
      empty = word-old 0 (omega arith) ∙ h.empty;
      top = ap (λ m. m.parent) (at-old 0 (λ e. omega arith)) ∙ h.top;
      parent_in = parents_in;
      parent_low = parents_low;
      spelled = spelled;
      distinct = distinct;
      depth_low = depth_low;
      depth_is = depth_is;
    }
