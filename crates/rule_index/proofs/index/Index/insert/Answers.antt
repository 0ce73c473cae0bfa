use Rattle.rule_index.proofs.Prelude.{◌≡◌, ◌⊎◌, ◌<◌, true, ◌++◌, ◌∷◌, [], ◌∙◌, ℕ, List, length, take, subst, sym, ap, arith, all_pairs_push, Tree, IsAscending, begins_with, has, IsStarts, IsMarked, IsWithin, IsLettered, IsSame, HasLetters, words_of, IsCounted}
use Rattle.rule_index.proofs.Counting.{within-push}
use Rattle.rule_index.proofs.Counted.{counted-within, counted-push}
use Rattle.rule_index.proofs.FrontNodes.{words_of-take}
use Rattle.rule_index.proofs.index.Index.insert.Goals as goal

-- the same nodes in the same buckets of letters
same_letters : (tree before : Tree) → IsSame tree before → HasLetters before → HasLetters tree
same_letters tree before same h =
    subst (λ ns. IsLettered ns (length ns) tree.letter_heads.items tree.letter_nexts.items) (sym same.nodes)
    (subst (λ hs. IsLettered before.nodes.items (length before.nodes.items) hs tree.letter_nexts.items) (sym same.letter_heads)
    (subst (λ xs. IsLettered before.nodes.items (length before.nodes.items) before.letter_heads.items xs) (sym same.letter_nexts) h))

pub insert-requires-clause-starts : goal.insert-requires-clause-starts
insert-requires-clause-starts c =
    let nodes = c.reserve.new.tree.nodes.items in
    subst (λ x. IsStarts nodes (length nodes) x c.in_ok-ends.ends.items) c.letter-first.ensures c.in_ok-ends.ensures

pub invariant_of-self-inside-2 : goal.invariant_of-self-inside-2
invariant_of-self-inside-2 c =
    let i = c.self.inside in
    let word = c.args.word.now in
    let number = c.args.number in
    let entries = c.args.self.now in
    let tree = c.insert.new.tree in
    let old = words_of i.tree.nodes.items in
    let words = words_of tree.nodes.items in
    let seen : i.entries ≡ entries = c.self.view_is in
    let copied : c.in_ok-copy.copy ≡ word = c.in_ok-copy.ensures in
    let pushed : c.push.new.self ≡ i.entries ++ (c.in_ok-copy.copy, number) ∷ [] = c.in_ok-push.ensures.ok in
    let added : c.push.new.self ≡ entries ++ (word, number) ∷ [] = pushed ∙ ap (λ w. i.entries ++ (w, number) ∷ []) copied ∙ ap (λ es. es ++ (word, number) ∷ []) seen in
    let same = c.reserve.ensures.same in
    let done = c.insert.ensures in
    let ascending : IsAscending (entries ++ (word, number) ∷ []) =
    all_pairs_push (λ e f. e.1 < f.1) entries (word, number) (subst IsAscending seen i.ascending) (λ k d inside. c.requires.above k d inside) in
    let marked : IsMarked (entries ++ (word, number) ∷ []) words tree.leasts.items =
    done.marked entries number (sym (c.len-place.ensures ∙ ap length seen))
    (subst (λ ns. IsMarked entries (words_of ns) c.reserve.new.tree.leasts.items) (sym same.nodes)
    (subst (λ ls. IsMarked entries old ls) (sym same.leasts) (subst (λ es. IsMarked es old i.tree.leasts.items) seen i.marked))) in
    let counted_before : IsCounted entries old i.sizes.items = subst (λ es. IsCounted es old i.sizes.items) seen i.counted in
    let within : IsWithin (entries ++ (word, number) ∷ []) words =
    within-push entries word number old words (counted-within entries old i.sizes.items counted_before)
    (subst (λ ns. (w : List ℕ) → has words w ≡ true → (has (words_of ns) w ≡ true) ⊎ (begins_with word w ≡ true)) same.nodes done.only) in
    let nodes_front : take (length i.tree.nodes.items) tree.nodes.items ≡ i.tree.nodes.items =
    subst (λ ns. take (length ns) tree.nodes.items ≡ ns) same.nodes done.front in
    let front : take (length old) words ≡ old =
    ap (λ n. take n words) i.grown.spelled.sized ∙ sym (words_of-take (length i.tree.nodes.items) tree.nodes.items i.grown.chained.some) ∙ ap words_of nodes_front in
    let counted : IsCounted (entries ++ (word, number) ∷ []) words (i.sizes.items ++ length words ∷ []) =
    counted-push entries old i.sizes.items counted_before (word, number) words front within marked.listed in
    let count : c.len-2.result ≡ length words = omega (arith, c.len-2.ensures, done.tree.spelled.sized) in
    let sizes_are : c.put.new.items.items ≡ i.sizes.items ++ length words ∷ [] =
    c.put.ensures.items ∙ ap (λ ns. ns ++ c.len-2.result ∷ []) c.reserve-2.ensures.items ∙ ap (λ n. i.sizes.items ++ n ∷ []) count in (
      subst IsAscending (sym added) ascending,
      (
        done.tree,
        (
          subst (λ es. IsMarked es words tree.leasts.items) (sym added) marked,
          (done.lettered, (subst (λ es. IsCounted es words c.put.new.items.items) (sym added) (subst (IsCounted (entries ++ (word, number) ∷ []) words) (sym sizes_are) counted), tt)),
        ),
      ),
    )

-- where memory is short after the room was taken, the tree is another and holds the same
pub invariant_of-self-inside : goal.invariant_of-self-inside
invariant_of-self-inside c =
    let i = c.self.inside in
    let same = c.reserve.ensures.same in
    let tree = c.reserve.new.tree in (
      i.ascending,
      (
        c.reserve.ensures.tree,
        (
          subst (λ ls. IsMarked i.entries (words_of tree.nodes.items) ls) (sym same.leasts) (subst (λ ns. IsMarked i.entries (words_of ns) i.tree.leasts.items) (sym same.nodes) i.marked),
          (same_letters tree i.tree same i.lettered, (subst (λ ns. IsCounted i.entries (words_of ns) i.sizes.items) (sym same.nodes) i.counted, tt)),
        ),
      ),
    )
