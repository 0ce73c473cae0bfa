use Rattle.rule_index.proofs.Prelude.{subst, IsChild}
use Rattle.rule_index.proofs.Growing.{grown-same}
use Rattle.rule_index.proofs.insertion.grow.Goals as goal

pub returns-in-Some : goal.returns-in-Some
returns-in-Some c =
    let tree = c.args.tree.now in
    grown-same tree c.requires.tree c.requires.lettered c.requires.sized c.args.at c.args.letter c.in-Some.node c.args.ends.now c.requires.ends
    (subst (λ ns. IsChild ns c.args.at c.args.letter c.in-Some.node) c.deref.ensures.value c.in-Some.ensures.found)
