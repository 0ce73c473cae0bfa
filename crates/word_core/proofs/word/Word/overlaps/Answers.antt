use Rattle.word_core.proofs.Prelude.{◌≡◌, ◌↔◌, ℕ, List, IfOk, rules, subst, sym, IfOk-weaker, overlap_places, OverlapsAt, Contains}
use Rattle.word_core.proofs.Overlaps.{overlap_places-tells}
use Rattle.word_core.proofs.word.Word.overlaps.Goals as goal

pub returns-clause-each : goal.returns-clause-each
returns-clause-each c =
    let left = c.args.self.now in
    let right = c.args.right.now in
    let exact : IfOk c.overlaps.result (λ places. places ≡ overlap_places left right) = search rules in
    let tells = overlap_places-tells left right in
    let each = λ (places : List ℕ) (same : places ≡ overlap_places left right) (place : ℕ).
    subst (λ xs. Contains xs place ↔ OverlapsAt left right place) (sym same) (tells place) in
    IfOk-weaker c.overlaps.result _ _ each exact
