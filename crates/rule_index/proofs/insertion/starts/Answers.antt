use Rattle.rule_index.proofs.Prelude.{◌≡◌, ◌<◌, ◌++◌, ◌∷◌, [], ◌∙◌, ℕ, true, false, Vec, Global, length, get_or, refl, subst, sym, ap, arith, get_or_read, Node, letter_bucket_of, node_at, root}
use Rattle.rule_index.proofs.Starting.{IsStartsAbove, starts-push, starts-skip}
use Rattle.rule_index.proofs.insertion.starts.Goals as goal
use Rattle.rule_index.proofs.insertion.starts.Goals.{then-is_start+in_ok-push, else-is_start}

pub loop-node-preserved : goal.loop-node-preserved
loop-node-preserved c =
    let tree = c.args.tree.now in
    let nodes = tree.nodes.items in
    let buckets = length tree.letter_heads.items in
    let nexts = tree.letter_nexts.items in
    let n = c.loop-node.node in
    let letter = c.args.letter in
    let before = c.loop-node.starts.items in
    let h = c.loop-node.invariant in
    let lettered = c.requires.lettered in
    let next = c.index-node.result.now in
    let some : 0 < n = omega arith in
    let read : c.index.result.now ≡ node_at nodes n = get_or_read nodes n c.index.result.now h.inside c.index.ensures root in
    let next_is : next ≡ get_or nexts n 0 = get_or_read nexts n next (omega (arith, h.inside, lettered.sized)) c.index-node.ensures 0 in
    let below : next < n = omega (arith, next_is, lettered.next_below n some h.inside) in
    let between : (k : ℕ) → next < k → k < n → (node_at nodes k).letter ≡ letter → ⊥ = λ k high low e.
    omega (arith, lettered.next_last k n (omega (arith, high)) low h.inside (ap (letter_bucket_of buckets) e ∙ sym (h.bucket some)), next_is, high) in
    let starts : IsStartsAbove nodes next letter c.if-is_start.starts.items = elim c.if-is_start.branch [
      | then-is_start+in_ok-push w ↦
          let yes : (0 < (node_at nodes n).parent) × ((node_at nodes n).letter ≡ letter) = subst (λ (m : Node). (0 < m.parent) × (m.letter ≡ letter)) read (w.if-is_start.ensures.0 refl) in
          let items : c.if-is_start.starts.items ≡ before ++ n ∷ [] = ap (λ (v : Vec ℕ Global). v.items) w.starts-is ∙ w.in_ok-push.ensures.items in
          subst (λ items. IsStartsAbove nodes next letter items) (sym items) (starts-push nodes n next letter before h.above between h.inside yes.0 yes.1)
      | else-is_start w ↦
          let items : c.if-is_start.starts.items ≡ before = ap (λ (v : Vec ℕ Global). v.items) w.starts-is in
          subst (λ items. IsStartsAbove nodes next letter items) (sym items)
          (starts-skip nodes n next letter before h.above between
          (λ above e. let no : false ≡ true = w.if-is_start.ensures.1 (subst (λ (m : Node). (0 < m.parent) × (m.letter ≡ letter)) (sym read) (above, e)) in absurd (cc)))
    ] in
    record {
      inside = omega (arith, below, h.inside);
      bucket = λ up. ap (λ k. letter_bucket_of buckets (node_at nodes k).letter) next_is ∙ lettered.next_bucket n some h.inside (omega (arith, up, next_is)) ∙ h.bucket some;
      above = starts;
    }
