use Rattle.rule_index.proofs.Prelude.{sym, ◌∙◌, arith, words_of}
use Rattle.rule_index.proofs.Spelled.{step-up, step-end, step-child, link-shorter}
use Rattle.rule_index.proofs.tree.step.Goals as goal

pub returns-in-Some : goal.returns-in-Some
returns-in-Some c =
    let nodes = c.args.nodes.now in
    let child = c.in-Some.ensures.found in
    record {
      inside = child.inside;
      word_is = step-child nodes (words_of nodes) c.requires.tree.spelled c.up.at c.args.letter c.in-Some.node child ∙ c.up.invariant.same;
    }

pub returns-then-at-eq0 : goal.returns-then-at-eq0
returns-then-at-eq0 c =
    let nodes = c.args.nodes.now in
    record {
      inside = c.requires.tree.chained.some;
      word_is = step-end nodes (words_of nodes) c.requires.tree.spelled c.up.at c.args.letter c.if-at-eq0.true c.up.invariant.inside c.in_default.ensures.absent ∙ c.up.invariant.same;
    }

pub up-smaller : goal.up-smaller
up-smaller c = link-shorter c.args.nodes.now (words_of c.args.nodes.now) c.requires.tree.spelled c.args.links.now c.requires.tree.linked c.up.at (omega arith) c.up.invariant.inside

pub up-preserved : goal.up-preserved
up-preserved c =
    let nodes = c.args.nodes.now in
    let spelled = c.requires.tree.spelled in
    let linked = c.requires.tree.linked in
    record {
      inside = omega (arith, linked.link_in c.up.at, spelled.sized);
      same = sym (step-up nodes (words_of nodes) spelled c.args.links.now linked c.up.at c.args.letter (omega arith) c.up.invariant.inside c.in_default.ensures.absent) ∙ c.up.invariant.same;
    }
