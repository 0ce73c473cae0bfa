use Rattle.ambiguities.proofs.Prelude.{◌≡◌, ◌∷◌, ◌++◌, [], List, sym, ap, ◌∙◌, append_assoc, map-append, into_iter_items, Key, Waiting}
use Rattle.ambiguities.proofs.sorting.take_waiting.Goals as goal

pub loop-key-preserved : goal.loop-key-preserved
loop-key-preserved c =
    let kept = c.loop-key.invariant in
    let key : Key = c.in-Some.key in
    let rest : List Key = into_iter_items c.next.new.self in
    let next : into_iter_items c.loop-key.key-iterator ≡ key ∷ rest = c.in-Some.ensures.steps.0 in
    let pushed : c.push.new.self.items ≡ c.loop-key.items.items ++ key.waiting ∷ [] = c.in_ok-push.ensures.items in
    record {
      passed = kept.passed ++ key ∷ [];
      all = kept.all ∙ ap (λ xs. kept.passed ++ xs) next ∙ sym (append_assoc kept.passed (key ∷ []) rest);
      moved = pushed ∙ ap (λ (xs : List Waiting). xs ++ key.waiting ∷ []) kept.moved ∙ sym (map-append (λ (k : Key). k.waiting) kept.passed (key ∷ []));
    }
