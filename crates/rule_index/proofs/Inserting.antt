-- A word's letters one after another, and then its place at each node that it ends.
use Rattle.rule_index.proofs.Prelude.{◌≡◌, ◌≢◌, inl, inr, ℕ, zero, suc, ◌+◌, ◌-◌, ◌<◌, ◌&&◌, Bool, true, false, cond, List, [], ◌∷◌, ◌++◌, length, get_or, set, drop, take, Option, Some, None, refl, sym, ap, ap₂, ◌∙◌, subst, arith, eq-eqb, get_or-set_other, get_or-set_same, option_map, take-length, length-set, take_more, take_all, All-push, or_cases, or_right, false_from_ne_true, Node, Tree, begins_with, same_word, has, word_at, ends_with, first_of, marked, words_of, Lists, IsTree, IsSpelled, IsMarked, IsMarkedAt, IsEnds, IsGrown, IsGrowing, IsInserted, HasLetters, HasRoom}
use Rattle.rule_index.proofs.Suffixes.{same-true, has-at}
use Rattle.rule_index.proofs.Pushing.{Same, is_same, is_other, same_or}
use Rattle.rule_index.proofs.Fronts.{front-more}
use Rattle.rule_index.proofs.SameTree.{tree_of_same}
use Rattle.rule_index.proofs.Starting.{others, others-end}
use Rattle.rule_index.proofs.Ending.{ends-itself, marked-twice}

begins-take : (w : List ℕ) (n : ℕ) → begins_with w (take n w) ≡ true
begins-take w zero = refl
begins-take [] (suc n) = refl
begins-take (x ∷ w) (suc n) = ap₂ ◌&&◌ (eq-eqb x x refl) (begins-take w n)

-- one more letter
pub growing-more : (old mid new : Tree) (word : List ℕ) (index at letter next : ℕ) (ends ends' : List ℕ) → IsGrowing old mid word index at ends → index < length word → letter ≡ get_or word index 0
    → IsGrown mid new (word_at (words_of mid.nodes.items) at ++ letter ∷ []) ends' next → IsGrowing old new word (index + 1) next ends'
growing-more old mid new word index at letter next ends ends' h inside read g = record {
  tree = g.tree;
  inside = g.inside;
  word_is = g.word_is ∙ reached;
  ends_are = subst (λ w. IsEnds (words_of new.nodes.items) w ends') reached g.ends_are;
  sized = g.sized;
  marked = λ entries m. g.marked entries (h.marked entries m);
  only = λ w e. elim (or_cases (has (words_of mid.nodes.items) w) (same_word w (word_at (words_of mid.nodes.items) at ++ letter ∷ [])) (sym (g.only w) ∙ e)) [
    | inl e ↦ h.only w e
    | inr s ↦ inr (subst (λ v. begins_with word v ≡ true) (sym (same-true w (word_at (words_of mid.nodes.items) at ++ letter ∷ []) s ∙ reached)) (begins-take word (index + 1)))
  ];
  room = g.room (length word - (index + 1)) (record {
    nodes = omega (arith, h.room.nodes);
    nexts = omega (arith, h.room.nexts);
    letter_nexts = omega (arith, h.room.letter_nexts);
    links = omega (arith, h.room.links);
    leasts = omega (arith, h.room.leasts);
  });
  front = front-more old.nodes.items mid.nodes.items new.nodes.items h.front g.front;
  lettered = g.lettered;
}
  where
    reached : word_at (words_of mid.nodes.items) at ++ letter ∷ [] ≡ take (index + 1) word
    reached = ap (λ w. w ++ letter ∷ []) h.word_is ∙ ap (λ x. take index word ++ x ∷ []) read ∙ sym (take_more word index 0 inside)

-- one entry more
first-push : (p : List ℕ → Bool) (entries : List (List ℕ × ℕ)) (e : List ℕ × ℕ) → first_of p (entries ++ e ∷ []) ≡ cond (p e.0) (marked (first_of p entries) (length entries)) (first_of p entries)
first-push p [] e = refl
first-push p (f ∷ entries) e = go (p f.0) (p e.0) (first_of p entries) (first_of p (entries ++ e ∷ [])) (first-push p entries e)
  where
    go : (b d : Bool) (r s : Option ℕ) → s ≡ cond d (marked r (length entries)) r → cond b (Some 0) (option_map suc s) ≡ cond d (marked (cond b (Some 0) (option_map suc r)) (suc (length entries))) (cond b (Some 0) (option_map suc r))
    go true true r s h = refl
    go true false r s h = refl
    go false true None s h = ap (option_map suc) h
    go false true (Some x) s h = ap (option_map suc) h
    go false false r s h = ap (option_map suc) h

module _ (nodes : List Node) (words : List (List ℕ)) (spelled : IsSpelled nodes words) (word : List ℕ) (at : ℕ) (ends : List ℕ)
    (inside : at < length nodes) (word_is : word_at words at ≡ word) (are : IsEnds words word ends) where
  ends_at : (k : ℕ) → k ≡ at → ends_with (word_at words k) word ≡ true
  ends_at k e = subst (λ w. ends_with w word ≡ true) (sym (ap (word_at words) e ∙ word_is)) (ends-itself word)

  longer : (v : List ℕ) → ends_with (drop 1 v) word ≡ true → ends_with v word ≡ true
  longer [] e = e
  longer (x ∷ v) e = or_right (same_word (x ∷ v) word) (ends_with v word) e

  ends_behind : (k : ℕ) → Lists ends k → ends_with (word_at words k) word ≡ true
  ends_behind k l = longer (word_at words k) (are.sound k l)

  ends_only : (k : ℕ) → k < length nodes → k ≢ at → (Lists ends k → ⊥) → ends_with (word_at words k) word ≡ false
  ends_only k within other none = false_from_ne_true (ends_with (word_at words k) word) (parts (word_at words k) refl)
    where
      same : word_at words k ≡ word → ⊥
      same e = other (spelled.distinct k at within inside (e ∙ sym word_is))

      positive : (k : ℕ) (x : ℕ) (v : List ℕ) → x ∷ v ≡ word_at words k → 0 < k
      positive zero x v e = absurd (omega (arith, ap length (e ∙ spelled.empty)))
      positive (suc k) x v e = omega arith

      parts : (v : List ℕ) → v ≡ word_at words k → ends_with v word ≡ true → ⊥
      parts [] v_is e = same (sym v_is ∙ same-true [] word e)
      parts (x ∷ v) v_is e = elim (or_cases (same_word (x ∷ v) word) (ends_with v word) e) [
        | inl s ↦ same (sym v_is ∙ same-true (x ∷ v) word s)
        | inr r ↦ none (are.complete k (positive k x v v_is) (omega (arith, within, spelled.sized)) (subst (λ u. ends_with (drop 1 u) word ≡ true) v_is r))
      ]

  pub marked-word : (entries : List (List ℕ × ℕ)) (number place : ℕ) (leasts first last : List (Option ℕ)) → length entries ≡ place → IsMarked entries words leasts
      → first ≡ set leasts at (marked (get_or leasts at None) place) → length last ≡ length first
      → ((k : ℕ) → k < length first → IsMarkedAt ends (length ends) place (get_or first k None) (get_or last k None) k)
      → IsMarked (entries ++ (word, number) ∷ []) words last
  marked-word entries number place leasts first last count h first_is size moved = record {
    sized = size ∙ first_size ∙ h.sized;
    least_is = λ k within. least k within (same_or k at);
    listed = All-push (λ e. has words e.0 ≡ true) entries (word, number) h.listed (subst (λ w. has words w ≡ true) word_is (has-at words at (omega (arith, inside, spelled.sized))));
  }
    where
      first_size : length first ≡ length leasts
      first_size = ap length first_is ∙ length-set leasts at (marked (get_or leasts at None) place)

      -- where the word ends the node's
      yes : (k : ℕ) → k < length words → ends_with (word_at words k) word ≡ true → get_or last k None ≡ marked (get_or leasts k None) place → get_or last k None ≡ first_of (ends_with (word_at words k)) (entries ++ (word, number) ∷ [])
      yes k within e now =
          now ∙ ap₂ marked (h.least_is k within) (sym count)
          ∙ sym (first-push (ends_with (word_at words k)) entries (word, number) ∙ ap (λ b. cond b (marked (first_of (ends_with (word_at words k)) entries) (length entries)) (first_of (ends_with (word_at words k)) entries)) e)

      no : (k : ℕ) → k < length words → ends_with (word_at words k) word ≡ false → get_or last k None ≡ get_or leasts k None → get_or last k None ≡ first_of (ends_with (word_at words k)) (entries ++ (word, number) ∷ [])
      no k within e now =
          now ∙ h.least_is k within
          ∙ sym (first-push (ends_with (word_at words k)) entries (word, number) ∙ ap (λ b. cond b (marked (first_of (ends_with (word_at words k)) entries) (length entries)) (first_of (ends_with (word_at words k)) entries)) e)

      least : (k : ℕ) → k < length words → Same k at → get_or last k None ≡ first_of (ends_with (word_at words k)) (entries ++ (word, number) ∷ [])
      least k within (is_same e) = yes k within (ends_at k e) (elim (moved k (omega (arith, within, first_size, h.sized))).either [
        | inl l ↦ l.1 ∙ ap (λ o. marked o place) here ∙ marked-twice (get_or leasts k None) place
        | inr r ↦ r.1 ∙ here
      ])
        where
          here : get_or first k None ≡ marked (get_or leasts k None) place
          here =
              ap (λ ls. get_or ls k None) first_is
              ∙ sym (ap (λ j. get_or (set leasts j (marked (get_or leasts j None) place)) k None) e)
              ∙ get_or-set_same leasts k (marked (get_or leasts k None) place) None (omega (arith, within, h.sized))
      least k within (is_other o) = elim (moved k (omega (arith, within, first_size, h.sized))).either [
        | inl l ↦ yes k within (ends_behind k l.0) (l.1 ∙ ap (λ v. marked v place) there)
        | inr r ↦ no k within (ends_only k (omega (arith, within, spelled.sized)) o r.0) (r.1 ∙ there)
      ]
        where
          there : get_or first k None ≡ get_or leasts k None
          there = ap (λ ls. get_or ls k None) first_is ∙ get_or-set_other leasts at k (marked (get_or leasts at None) place) None o

-- all letters, and then the marks
pub inserted : (old mid new : Tree) (word : List ℕ) (place at : ℕ) (ends : List ℕ) (first : List (Option ℕ)) → IsGrowing old mid word (length word) at ends
    → new.nodes.items ≡ mid.nodes.items → HasLetters new → new.heads.items ≡ mid.heads.items → new.nexts.items ≡ mid.nexts.items → new.links.items ≡ mid.links.items
    → first ≡ set mid.leasts.items at (marked (get_or mid.leasts.items at None) place) → length new.leasts.items ≡ length first
    → ((k : ℕ) → k < length first → IsMarkedAt ends (length ends) place (get_or first k None) (get_or new.leasts.items k None) k)
    → IsInserted old new word place
inserted old mid new word place at ends first h nodes_are letters heads_are nexts_are links_are first_is size moved =
    let whole : take (length word) word ≡ word = take_all (length word) word (omega arith) in
    record {
      tree = tree_of_same mid.nodes.items new.nodes.items mid.heads.items new.heads.items mid.nexts.items new.nexts.items mid.links.items new.links.items nodes_are heads_are nexts_are links_are h.tree;
      marked = λ entries number count m.
          subst (λ ns. IsMarked (entries ++ (word, number) ∷ []) (words_of ns) new.leasts.items) (sym nodes_are)
          (marked-word mid.nodes.items (words_of mid.nodes.items) h.tree.spelled word at ends h.inside (h.word_is ∙ whole) (subst (λ w. IsEnds (words_of mid.nodes.items) w ends) whole h.ends_are)
          entries number place mid.leasts.items first new.leasts.items count (h.marked entries m) first_is size moved);
      only = λ w e. h.only w (subst (λ ns. has (words_of ns) w ≡ true) nodes_are e);
      front = ap (take (length old.nodes.items)) nodes_are ∙ h.front;
      lettered = letters;
    }

-- no letter yet
pub growing-none : (tree : Tree) (word : List ℕ) → IsTree tree.nodes.items tree.heads.items tree.nexts.items tree.links.items → HasLetters tree → length tree.leasts.items ≡ length tree.nodes.items → HasRoom tree (length word) → IsGrowing tree tree word 0 0 (others tree.nodes.items)
growing-none tree word h letters size room = record {
  tree = h;
  inside = h.chained.some;
  word_is = h.spelled.empty;
  ends_are = others-end tree.nodes.items (words_of tree.nodes.items) h.spelled;
  sized = size;
  marked = λ entries m. m;
  only = λ w e. inl e;
  room = record { nodes = omega (arith, room.nodes); nexts = omega (arith, room.nexts); letter_nexts = omega (arith, room.letter_nexts); links = omega (arith, room.links); leasts = omega (arith, room.leasts) };
  front = take-length tree.nodes.items;
  lettered = letters;
}
