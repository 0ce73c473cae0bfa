use Rattle.ambiguities.proofs.Prelude.{rules, ◌≡◌, ℕ, List, IfOk, sym, subst, IfOk-weaker, IsOver, overlap_word_of}
use Rattle.ambiguities.proofs.Bounds.{over_overlap_word}
use Rattle.ambiguities.proofs.overlap.overlap_word.Goals as goal

pub returns-clause-over : goal.returns-clause-over
returns-clause-over g c =
    let order = c.args.rules.now.order in
    let letters = g.O.WordOrder.letters order in
    let all = c.args.rules.now.rules in
    let a = c.args.which.now in
    let over = over_overlap_word letters (g.O.WordOrder.compare order) all a c.args.rules.now.each c.requires in
    let exact : IfOk c.make_word.result (λ w. w ≡ overlap_word_of all a) = search rules in
    IfOk-weaker c.make_word.result _ _ (λ (w : List ℕ) (same : w ≡ overlap_word_of all a). subst (IsOver letters) (sym same) over) exact
