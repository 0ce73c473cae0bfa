use Rattle.rule_index.proofs.Prelude.{◌≡◌, ◌++◌, ◌∷◌, [], length, get_or, take, arith, subst, sym, ap, word_at, IsAdvanced, IsEnds, IsGrown, IsGrowing, words_of}
use Rattle.rule_index.proofs.Ending.{ends-advanced}
use Rattle.rule_index.proofs.Inserting.{growing-more, growing-none}
use Rattle.rule_index.proofs.Starting.{starts-end, others}
use Rattle.rule_index.proofs.insertion.grow_all.Goals as goal

pub grow-at-requires-clause-ends : goal.grow-at-requires-clause-ends
grow-at-requires-clause-ends c =
    let nodes = c.args.tree.now.nodes.items in
    let words = words_of nodes in
    let spelled = c.requires.tree.spelled in
    let letter = c.letter.result.0 in
    let ends : IsEnds words (get_or c.args.word.now 0 0 ∷ []) c.args.ends.now.items = starts-end nodes words spelled (get_or c.args.word.now 0 0) c.args.ends.now.items c.requires.starts in
    subst (λ es. IsEnds words (word_at words 0 ++ letter ∷ []) es) (sym c.deref.ensures.value)
    (subst (λ w. IsEnds words (w ++ letter ∷ []) c.args.ends.now.items) (sym spelled.empty)
    (subst (λ x. IsEnds words (x ∷ []) c.args.ends.now.items) (sym c.letter.ensures) ends))

pub loop-index-init : goal.loop-index-init
loop-index-init c =
    let tree = c.args.tree.now in
    let letter = c.letter.result.0 in
    let grown : IsGrown tree c.grow-at.new.tree (word_at (words_of tree.nodes.items) 0 ++ letter ∷ []) c.args.ends.now.items c.grow-at.result =
    subst (λ es. IsGrown tree c.grow-at.new.tree (word_at (words_of tree.nodes.items) 0 ++ letter ∷ []) es c.grow-at.result) c.deref.ensures.value c.grow-at.ensures in
    growing-more tree tree c.grow-at.new.tree c.args.word.now 0 0 letter c.grow-at.result (others tree.nodes.items) c.args.ends.now.items
    (growing-none tree c.args.word.now c.requires.tree c.requires.lettered c.requires.sized c.requires.room) c.requires.nonempty c.letter.ensures grown

pub advance-requires-clause-inside : goal.advance-requires-clause-inside
advance-requires-clause-inside c = λ k l.
    let h = c.loop-index.invariant in
    omega (arith, h.ends_are.inside k l, h.tree.spelled.sized, ap length c.deref-in-loop-index.ensures.value)

pub grow-at-requires-in-loop-index-clause-ends : goal.grow-at-requires-in-loop-index-clause-ends
grow-at-requires-in-loop-index-clause-ends c =
    let h = c.loop-index.invariant in
    let nodes = c.loop-index.tree.nodes.items in
    let letter = c.letter-letter.result.0 in
    let moved : IsAdvanced nodes letter c.loop-index.ends.items c.advance.new.ends.items = subst (λ ns. IsAdvanced ns letter c.loop-index.ends.items c.advance.new.ends.items) c.deref-in-loop-index.ensures.value c.advance.ensures in
    let next : IsEnds (words_of nodes) (take c.loop-index.index c.args.word.now ++ letter ∷ []) c.advance.new.ends.items =
    ends-advanced nodes (words_of nodes) h.tree.spelled (take c.loop-index.index c.args.word.now) letter c.loop-index.ends.items c.advance.new.ends.items h.ends_are moved in
    subst (λ es. IsEnds (words_of nodes) (word_at (words_of nodes) c.loop-index.at ++ letter ∷ []) es) (sym c.deref-in-loop-index-4.ensures.value)
    (subst (λ w. IsEnds (words_of nodes) (w ++ letter ∷ []) c.advance.new.ends.items) (sym h.word_is) next)

pub loop-index-preserved : goal.loop-index-preserved
loop-index-preserved c =
    let mid = c.loop-index.tree in
    let letter = c.letter-letter.result.0 in
    let grown : IsGrown mid c.grow-at-in-loop-index.new.tree (word_at (words_of mid.nodes.items) c.loop-index.at ++ letter ∷ []) c.advance.new.ends.items c.grow-at-in-loop-index.result =
    subst (λ es. IsGrown mid c.grow-at-in-loop-index.new.tree (word_at (words_of mid.nodes.items) c.loop-index.at ++ letter ∷ []) es c.grow-at-in-loop-index.result) c.deref-in-loop-index-4.ensures.value c.grow-at-in-loop-index.ensures in
    growing-more c.args.tree.now mid c.grow-at-in-loop-index.new.tree c.args.word.now c.loop-index.index c.loop-index.at letter c.grow-at-in-loop-index.result c.loop-index.ends.items c.advance.new.ends.items
    c.loop-index.invariant (omega arith) c.letter-letter.ensures grown

pub returns : goal.returns
returns c =
    let all : c.loop-index.index ≡ length c.args.word.now = omega (arith, c.loop-index.auto.index, c.loop-index.auto.index-end, c.loop-index-test.false, c.len-index-end.ensures.exact, c.requires.nonempty) in
    subst (λ n. IsGrowing c.args.tree.now c.loop-index.tree c.args.word.now n c.loop-index.at c.loop-index.ends.items) all c.loop-index.invariant
