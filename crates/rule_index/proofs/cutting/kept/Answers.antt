use Rattle.rule_index.proofs.Prelude.{◌≡◌, ◌<◌, length, get_or, take, sym, ap, ◌∙◌, subst, arith, get_or_read, word_at, longest, words_of}
use Rattle.rule_index.proofs.FirstWords.{kept-more, kept-shorter, kept-here}
use Rattle.rule_index.proofs.cutting.kept.Goals as goal

pub loop-at-smaller : goal.loop-at-smaller
loop-at-smaller c =
    let nodes = c.args.tree.now.nodes.items in
    let links = c.args.tree.now.links.items in
    let at = c.loop-at.at in
    let read : c.index-at.result.now ≡ get_or links at 0 = get_or_read links at c.index-at.result.now (omega (arith, c.requires.sized, c.loop-at.invariant.inside)) c.index-at.ensures 0 in
    subst (λ k. length (word_at (words_of nodes) k) < length (word_at (words_of nodes) at)) (sym read)
    (kept-shorter nodes (words_of nodes) c.requires.spelled c.args.size c.requires.some links c.requires.linked at (omega arith) c.loop-at.invariant.inside)

pub loop-at-preserved : goal.loop-at-preserved
loop-at-preserved c =
    let nodes = c.args.tree.now.nodes.items in
    let links = c.args.tree.now.links.items in
    let at = c.loop-at.at in
    let size = c.args.size in
    let read : c.index-at.result.now ≡ get_or links at 0 = get_or_read links at c.index-at.result.now (omega (arith, c.requires.sized, c.loop-at.invariant.inside)) c.index-at.ensures 0 in
    record {
      inside = omega (arith, read, c.requires.linked.link_in at, c.requires.spelled.sized);
      same = ap (λ k. longest (take size (words_of nodes)) (word_at (words_of nodes) k)) read
          ∙ kept-more nodes (words_of nodes) c.requires.spelled size c.requires.some links c.requires.linked at (omega arith) c.loop-at.invariant.inside
          ∙ c.loop-at.invariant.same;
    }

pub returns : goal.returns
returns c =
    let nodes = c.args.tree.now.nodes.items in
    record {
      inside = omega arith;
      word_is = sym (kept-here nodes (words_of nodes) c.requires.spelled c.args.size c.requires.some c.loop-at.at (omega arith) c.requires.few) ∙ c.loop-at.invariant.same;
    }
