use Rattle.rule_index.proofs.Prelude.{◌<◌, ◌+◌, ℕ, List, length, get_or, arith, refl, subst, sym, length-set, IsRelinked}
use Rattle.rule_index.proofs.Relinking.{relink-more, relink-inside}
use Rattle.rule_index.proofs.insertion.relink.Goals as goal

pub relink_one-requires : goal.relink_one-requires
relink_one-requires c = record {
  end_in = omega (arith, c.requires.ends (get_or c.args.ends.now c.loop-end.end-index 0) (c.loop-end.end-index, c.loop-end-test.true, refl));
  link_in = c.loop-end.invariant.inside (get_or c.args.ends.now c.loop-end.end-index 0);
  inside = c.requires.inside;
}

pub loop-end-preserved : goal.loop-end-preserved
loop-end-preserved c =
    let nodes = c.args.nodes.now in
    let ends = c.args.ends.now in
    let n = c.loop-end.end-index in
    let now = c.loop-end.links in
    let end_in : get_or ends n 0 < length now = omega (arith, c.requires.ends (get_or ends n 0) (n, c.loop-end-test.true, refl)) in
    subst (λ (links : List ℕ). record {
      inside : (k : ℕ) → get_or links k 0 < length nodes;
      each : (k : ℕ) → k < length links → IsRelinked nodes ends (n + 1) c.args.node (get_or c.args.links.now k 0) (get_or links k 0) k;
    })
    (sym c.relink_one.ensures)
    (record {
      inside = relink-inside nodes ends n c.args.node now (length nodes) c.requires.inside end_in c.loop-end.invariant.inside;
      each = λ k inside.
          let k_in : k < length now = omega (arith, inside, length-set {A = ℕ}) in
          relink-more nodes ends n c.args.node c.args.links.now now k k_in (c.loop-end.invariant.each k k_in);
    })
