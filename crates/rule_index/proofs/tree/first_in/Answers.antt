use Rattle.rule_index.proofs.Prelude.{◌≡◌, [], ◌∷◌, ◌++◌, ◌+◌, take, subst, sym, ap, ◌∙◌, arith, take_more, word_at, IsLongest, words_of, first_of, occurs}
use Rattle.rule_index.proofs.Reading.{longest-read, first-read}
use Rattle.rule_index.proofs.tree.first_in.Goals as goal

pub loop-place-preserved : goal.loop-place-preserved
loop-place-preserved c =
    let nodes = c.args.tree.now.nodes.items in
    let spelled = c.requires.tree.spelled in
    let word = c.args.word.now in
    let place = c.loop-place.place in
    let letter = c.letter-letter.result.0 in
    let next = c.step-at.result in
    let more : take (place + 1) word ≡ take place word ++ letter ∷ [] =
    take_more word place 0 (omega arith) ∙ ap (λ x. take place word ++ x ∷ []) (sym c.letter-letter.ensures) in
    let step : IsLongest nodes (word_at (words_of nodes) c.loop-place.at ++ letter ∷ []) next =
    subst (λ ns. IsLongest ns (word_at (words_of ns) c.loop-place.at ++ letter ∷ []) next) c.deref.ensures.value c.step-at.ensures in
    let after : IsLongest nodes (take place word ++ letter ∷ []) next = longest-read nodes spelled (take place word) letter next c.loop-place.at c.loop-place.invariant.longest step in
    record {
      longest = subst (λ t. IsLongest nodes t next) (sym more) after;
      first = λ entries marked.
          c.sooner-found.ensures
          ∙ first-read nodes spelled (take place word) letter next entries c.args.tree.now.leasts.items c.loop-place.found c.index.result.now after marked (c.loop-place.invariant.first entries marked) c.index.ensures
          ∙ ap (λ t. first_of (occurs t) entries) (sym more);
    }
