-- One word more, and the links, the ends and the first entries.
use Rattle.rule_index.proofs.Prelude.{◌≡◌, ◌≢◌, inl, inr, ℕ, ◌+◌, ◌<◌, ◌||◌, true, false, List, [], ◌∷◌, ◌++◌, length, get_or, take, drop, Option, None, refl, sym, ap, ◌∙◌, subst, arith, take-length, take-append_seam, length_push, length-drop, get_or_past, All-weaker, cases_lt, cases_Bool, false_from_ne_true, or_left, Node, Tree, same_word, has, word_at, longest, ends_with, first_of, node_at, added_node, words_of, Lists, IsChild, IsTree, IsChained, IsSpelled, IsLinked, IsLongest, IsMarked, IsEnds, IsRelinked, IsGrown, HasLetters, HasRoom}
use Rattle.rule_index.proofs.Suffixes.{has-push, ends-longest, ends-short, longest-other, longest-new, longest-old, same-true}
use Rattle.rule_index.proofs.Firsts.{same_first}
use Rattle.rule_index.proofs.Pushing.{push-old, push-new, Same, is_same, is_other, same_or, spelled-push, words-push}
use Rattle.rule_index.proofs.Spelled.{child-has, child-word, child-absent}

module _ (words : List (List ℕ)) (s : List ℕ) (some : 0 < length s) (absent : has words s ≡ false) where
  abbrev more : List (List ℕ)
  more = words ++ s ∷ []

  more-old : (k : ℕ) → k < length words → word_at more k ≡ word_at words k
  more-old k below = push-old words s [] k (λ e. omega arith)

  more-new : (k : ℕ) → k ≡ length words → word_at more k ≡ s
  more-new k e = push-new words s [] k e

  no_self : ends_with (drop 1 s) s ≡ false
  no_self = false_from_ne_true (ends_with (drop 1 s) s) (λ e. omega (arith, ends-short (drop 1 s) s e, length-drop 1 s))

  pub ends-push : (ends : List ℕ) → IsEnds words s ends → IsEnds more s ends
  ends-push ends h = record {
    above = h.above;
    inside = λ k l. omega (arith, h.inside k l, length_push words s);
    sound = λ k l. subst (λ w. ends_with (drop 1 w) s ≡ true) (sym (more-old k (h.inside k l))) (h.sound k l);
    complete = λ k above within ends'. complete k above within ends' (same_or k (length words));
  }
    where
      complete : (k : ℕ) → 0 < k → k < length more → ends_with (drop 1 (word_at more k)) s ≡ true → Same k (length words) → Lists ends k
      complete k above within e (is_same a) = absurd (cc (subst (λ w. ends_with (drop 1 w) s ≡ true) (more-new k a) e, no_self))
      complete k above within e (is_other o) =
          let below : k < length words = omega (arith, length_push words s, o) in
          h.complete k above below (subst (λ w. ends_with (drop 1 w) s ≡ true) (more-old k below) e)

  -- the links
  module _ (nodes : List Node) (ends links new_links : List ℕ) (link : ℕ)
      (depths : (k : ℕ) → k < length more → (node_at nodes k).depth ≡ length (word_at more k))
      (linked : IsLinked words links) (h : IsEnds words s ends)
      (link_in : link < length words) (link_is : word_at words link ≡ longest words (drop 1 s))
      (size : length new_links ≡ length (links ++ link ∷ []))
      (moved : (k : ℕ) → k < length (links ++ link ∷ []) → IsRelinked nodes ends (length ends) (length words) (get_or (links ++ link ∷ []) k 0) (get_or new_links k 0) k) where
    sizes : length (links ++ link ∷ []) ≡ length more
    sizes = length_push links link ∙ ap (λ x. x + 1) linked.sized ∙ sym (length_push words s)

    before-old : (k : ℕ) → k ≢ length words → get_or (links ++ link ∷ []) k 0 ≡ get_or links k 0
    before-old k o = push-old links link 0 k (λ e. o (e ∙ linked.sized))

    before-new : (k : ℕ) → k ≡ length words → get_or (links ++ link ∷ []) k 0 ≡ link
    before-new k e = push-new links link 0 k (e ∙ sym linked.sized)

    before-in : (k : ℕ) → get_or (links ++ link ∷ []) k 0 < length words
    before-in k = elim (same_or k (length words)) [ is_same e ↦ omega (arith, before-new k e) | is_other o ↦ omega (arith, before-old k o, linked.link_in k) ]

    new_in : (k : ℕ) → get_or new_links k 0 < length more
    new_in k = elim (cases_lt k (length new_links)) [
      | inl below ↦ elim (moved k (omega (arith, size))).either [ inl l ↦ omega (arith, l.0, length_push words s) | inr r ↦ omega (arith, r.0, before-in k, length_push words s) ]
      | inr above ↦ omega (arith, get_or_past new_links k 0 above, length_push words s)
    ]

    depth_old : (k : ℕ) → k < length words → (node_at nodes k).depth ≡ length (word_at words k)
    depth_old k below = depths k (omega (arith, length_push words s)) ∙ ap length (more-old k below)

    depth_new : (node_at nodes (length words)).depth ≡ length s
    depth_new = depths (length words) (omega (arith, length_push words s)) ∙ ap length (more-new (length words) refl)

    -- an old node
    link_old : (k : ℕ) → 0 < k → k < length words → IsRelinked nodes ends (length ends) (length words) (get_or links k 0) (get_or new_links k 0) k
        → word_at more (get_or new_links k 0) ≡ longest more (drop 1 (word_at words k))
    link_old k above below m =
        let t = drop 1 (word_at words k) in
        let before : (node_at nodes (get_or links k 0)).depth ≡ length (longest words t) = depth_old (get_or links k 0) (linked.link_in k) ∙ ap length (linked.link_is k above below) in
        elim m.either [
          | inl l ↦ more-new (get_or new_links k 0) l.0 ∙ sym (longest-new words s t (h.sound k l.1) (omega (arith, l.2, before, depth_new)))
          | inr r ↦
              let same : longest more t ≡ longest words t = elim (cases_Bool (ends_with t s)) [
                | inl e ↦ longest-old words s t e (omega (arith, r.1 (h.complete k above below e), before, depth_new))
                | inr e ↦ longest-other words s t e
              ] in
              ap (word_at more) r.0 ∙ more-old (get_or links k 0) (linked.link_in k) ∙ linked.link_is k above below ∙ sym same
        ]

    -- the new one
    link_new : (k : ℕ) → k ≡ length words → IsRelinked nodes ends (length ends) (length words) link (get_or new_links k 0) k → word_at more (get_or new_links k 0) ≡ longest more (drop 1 s)
    link_new k e m = elim m.either [
      | inl l ↦ absurd (omega (arith, h.inside k l.1))
      | inr r ↦ ap (word_at more) r.0 ∙ more-old link link_in ∙ link_is ∙ sym (longest-other words s (drop 1 s) no_self)
    ]

    pub linked-push : IsLinked more new_links
    linked-push = record {
      sized = size ∙ sizes;
      link_in = new_in;
      link_is = λ k above within. elim (same_or k (length words)) [
        | is_same e ↦
            link_new k e (subst (λ b. IsRelinked nodes ends (length ends) (length words) b (get_or new_links k 0) k) (before-new k e) (moved k (omega (arith, within, sizes))))
            ∙ ap (λ w. longest more (drop 1 w)) (sym (more-new k e))
        | is_other o ↦
            let below : k < length words = omega (arith, length_push words s, o) in
            link_old k above below (subst (λ b. IsRelinked nodes ends (length ends) (length words) b (get_or new_links k 0) k) (before-old k o) (moved k (omega (arith, within, sizes))))
            ∙ ap (λ w. longest more (drop 1 w)) (sym (more-old k below))
      ];
    }

  -- the first entries
  pub marked-push : (entries : List (List ℕ × ℕ)) (leasts : List (Option ℕ)) (link : ℕ) → IsMarked entries words leasts → link < length words → word_at words link ≡ longest words (drop 1 s)
      → IsMarked entries more (leasts ++ get_or leasts link None ∷ [])
  marked-push entries leasts link h link_in link_is = record {
    sized = length_push leasts (get_or leasts link None) ∙ ap (λ x. x + 1) h.sized ∙ sym (length_push words s);
    least_is = λ k within. elim (same_or k (length words)) [
      | is_same e ↦
          push-new leasts (get_or leasts link None) None k (e ∙ sym h.sized)
          ∙ h.least_is link link_in
          ∙ ap (λ w. first_of (ends_with w) entries) link_is
          ∙ same_first (ends_with (longest words (drop 1 s))) (ends_with s) entries (λ i e below. agree s some absent (get_or entries i e).0 (h.listed i e below))
          ∙ ap (λ w. first_of (ends_with w) entries) (sym (more-new k e))
      | is_other o ↦
          let below : k < length words = omega (arith, length_push words s, o) in
          push-old leasts (get_or leasts link None) None k (λ e. o (e ∙ h.sized))
          ∙ h.least_is k below
          ∙ ap (λ w. first_of (ends_with w) entries) (sym (more-old k below))
    ];
    listed = All-weaker (λ e. has words e.0 ≡ true) (λ e. has more e.0 ≡ true) (λ e listed. has-push words s e.0 ∙ or_left (has words e.0) (same_word e.0 s) listed) entries h.listed;
  }
    where
      agree : (t : List ℕ) → 0 < length t → has words t ≡ false → (w : List ℕ) → has words w ≡ true → ends_with (longest words (drop 1 t)) w ≡ ends_with t w
      agree [] some_t absent_t w listed = absurd (omega arith)
      agree (x ∷ t) some_t absent_t w listed =
          let apart = false_from_ne_true (same_word (x ∷ t) w) (λ same. cc (subst (λ v. has words v ≡ true) (sym (same-true (x ∷ t) w same)) listed)) in
          ends-longest words t w listed ∙ sym (ap (λ b. b || ends_with t w) apart)

has_too : (words : List (List ℕ)) (w word : List ℕ) → has words word ≡ true → has words w ≡ (has words w || same_word w word)
has_too words w word e =
    let listed = λ (s : same_word w word ≡ true). subst (λ v. has words v ≡ true) (sym (same-true w word s)) e in
    grind arith

-- the node is there already
pub grown-same : (tree : Tree) → IsTree tree.nodes.items tree.heads.items tree.nexts.items tree.links.items → HasLetters tree → length tree.leasts.items ≡ length tree.nodes.items → (at letter node : ℕ) (ends : List ℕ)
    → IsEnds (words_of tree.nodes.items) (word_at (words_of tree.nodes.items) at ++ letter ∷ []) ends → IsChild tree.nodes.items at letter node
    → IsGrown tree tree (word_at (words_of tree.nodes.items) at ++ letter ∷ []) ends node
grown-same tree h letters size at letter node ends are child =
    let nodes = tree.nodes.items in
    let words = words_of nodes in
    record {
      tree = h;
      inside = child.inside;
      word_is = child-word nodes words h.spelled at letter node child;
      ends_are = are;
      sized = size;
      marked = λ entries m. m;
      only = λ w. has_too words w (word_at words at ++ letter ∷ []) (child-has nodes words h.spelled at letter node child);
      room = λ count r. record { nodes = omega (arith, r.nodes); nexts = omega (arith, r.nexts); letter_nexts = omega (arith, r.letter_nexts); links = omega (arith, r.links); leasts = omega (arith, r.leasts) };
      front = take-length nodes;
      lettered = letters;
    }

-- the node is new
module _ (old new : Tree) (h : IsTree old.nodes.items old.heads.items old.nexts.items old.links.items) (size : length old.leasts.items ≡ length old.nodes.items)
    (at letter link : ℕ) (ends : List ℕ) (inside : at < length old.nodes.items) (none : (k : ℕ) → IsChild old.nodes.items at letter k → ⊥)
    (are : IsEnds (words_of old.nodes.items) (word_at (words_of old.nodes.items) at ++ letter ∷ []) ends)
    (link_is : IsLongest old.nodes.items (drop 1 (word_at (words_of old.nodes.items) at ++ letter ∷ [])) link)
    (nodes_are : new.nodes.items ≡ old.nodes.items ++ added_node old.nodes.items at letter ∷ [])
    (chained : IsChained new.nodes.items (length new.nodes.items) new.heads.items new.nexts.items)
    (letters : HasLetters new)
    (leasts_are : new.leasts.items ≡ old.leasts.items ++ get_or old.leasts.items link None ∷ [])
    (links_size : length new.links.items ≡ length (old.links.items ++ link ∷ []))
    (moved : (k : ℕ) → k < length (old.links.items ++ link ∷ []) → IsRelinked new.nodes.items ends (length ends) (length old.nodes.items) (get_or (old.links.items ++ link ∷ []) k 0) (get_or new.links.items k 0) k)
    (room : (count : ℕ) → HasRoom old (count + 1) → HasRoom new count) where
  abbrev nodes : List Node
  nodes = old.nodes.items

  abbrev words : List (List ℕ)
  words = words_of nodes

  abbrev word : List ℕ
  word = word_at words at ++ letter ∷ []

  abbrev n : Node
  n = added_node nodes at letter

  absent_word : has words word ≡ false
  absent_word = child-absent nodes words h.spelled at letter inside none

  some_letter : 0 < length word
  some_letter = omega (arith, length_push (word_at words at) letter)

  words_are : words_of new.nodes.items ≡ words ++ word ∷ []
  words_are = ap words_of nodes_are ∙ words-push nodes n h.chained.some

  new_spelled : IsSpelled (nodes ++ n ∷ []) (words ++ word ∷ [])
  new_spelled = spelled-push nodes words h.spelled n inside absent_word refl

  both_spelled : IsSpelled new.nodes.items (words ++ word ∷ [])
  both_spelled = subst (λ ns. IsSpelled ns (words ++ word ∷ [])) (sym nodes_are) new_spelled

  at_end : length nodes ≡ length words
  at_end = sym h.spelled.sized

  new_linked : IsLinked (words ++ word ∷ []) new.links.items
  new_linked =
      linked-push words word some_letter absent_word new.nodes.items ends old.links.items new.links.items link
      (λ k below. both_spelled.depth_is k (omega (arith, below, both_spelled.sized)))
      h.linked are (omega (arith, link_is.inside, at_end)) link_is.word_is links_size
      (λ k below. subst (λ node. IsRelinked new.nodes.items ends (length ends) node (get_or (old.links.items ++ link ∷ []) k 0) (get_or new.links.items k 0) k) at_end (moved k below))

  pub grown-new : IsGrown old new (word_at (words_of old.nodes.items) at ++ letter ∷ []) ends (length old.nodes.items)
  grown-new = record {
    tree = record {
      chained = chained;
      spelled = subst (λ ws. IsSpelled new.nodes.items ws) (sym words_are) both_spelled;
      linked = subst (λ ws. IsLinked ws new.links.items) (sym words_are) new_linked;
    };
    inside = omega (arith, ap length nodes_are, length_push nodes n);
    word_is = ap (λ ws. word_at ws (length nodes)) words_are ∙ push-new words word [] (length nodes) at_end;
    ends_are = subst (λ ws. IsEnds ws word ends) (sym words_are) (ends-push words word some_letter absent_word ends are);
    sized = omega (arith, ap length leasts_are, length_push old.leasts.items (get_or old.leasts.items link None), size, ap length nodes_are, length_push nodes n);
    marked = λ entries m.
        subst (λ ws. IsMarked entries ws new.leasts.items) (sym words_are)
        (subst (λ ls. IsMarked entries (words ++ word ∷ []) ls) (sym leasts_are) (marked-push words word some_letter absent_word entries old.leasts.items link m (omega (arith, link_is.inside, at_end)) link_is.word_is));
    only = λ w. ap (λ ws. has ws w) words_are ∙ has-push words word w;
    room = room;
    front = ap (take (length nodes)) nodes_are ∙ take-append_seam nodes (n ∷ []);
    lettered = letters;
  }
