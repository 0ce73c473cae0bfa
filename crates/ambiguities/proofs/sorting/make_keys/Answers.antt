use Rattle.ambiguities.proofs.Prelude.{◌^◌, ◌++◌, ◌∷◌, [], List, map, take, get_or, sym, ap, ap₂, ◌∙◌, subst, All, map-append, take_more, All-push, IsOver, Ambiguity, Overlap, Key, key_of}
use Rattle.ambiguities.proofs.sorting.make_keys.Goals as goal

pub loop-which-preserved : goal.loop-which-preserved
loop-which-preserved g c =
    let Over : Key → Type 0 = λ k. IsOver (2 ^ 16) k.waiting.word in
    let made : Ambiguity → Key = key_of (g.O.WordOrder.measure_of c.args.rules.now.order) c.args.rules.now.rules in
    let found = c.args.found.now in
    let i = c.loop-which.which-index in
    let none : Ambiguity = record { i = 0; j = 0; kind = Overlap; place = 0 } in
    let key : Key = c.in_ok-make_key.field-0 in
    record {
      exact = c.in_ok-push.ensures.items ∙ ap₂ (λ (xs : List Key) (k : Key). xs ++ k ∷ []) c.loop-which.invariant.exact c.in_ok-make_key.ensures.exact
          ∙ sym (map-append made (take i found) (get_or found i none ∷ [])) ∙ ap (map made) (sym (take_more found i none c.loop-which-test.true));
      over = subst (All Over) (sym c.in_ok-push.ensures.items) (All-push Over c.loop-which.keys.items key c.loop-which.invariant.over c.in_ok-make_key.ensures.over);
    }
