use Rattle.closed_checker.proofs.Prelude.{rules, ◌≡◌, ◌≢◌, List, map, sym, ap, ◌∙◌, subst, All, AllPairs, Contains, IfOk-weaker, Ambiguity, Waiting, IsAmbiguity, AreAllInOrder, AreInOrder, exactly-all}
use Rattle.closed_checker.proofs.Lists.{all-in_order}
use Rattle.closed_checker.proofs.list.all_ambiguities.Goals as goal

pub in_order-requires : goal.in_order-requires
in_order-requires g c =
    let all = c.args.rules.now.rules in
    let found = c.in_ok-found.found in
    let read : c.as_slice.result.now ≡ found = search rules in
    record {
      of_rules = subst (All (IsAmbiguity all)) (sym read)
          (exactly-all (λ a b. a ≢ b) (IsAmbiguity all) (IsAmbiguity all) found c.in_ok-found.ensures (λ a is. is));
      distinct = subst (AllPairs (λ a b. a ≢ b)) (sym read) c.in_ok-found.ensures.ascending;
    }

pub returns : goal.returns
returns g c =
    let compare = g.O.WordOrder.compare c.args.rules.now.order in
    let all = c.args.rules.now.rules in
    let found : List Ambiguity = c.in_ok-found.found in
    let items : List Waiting = c.in_ok-items.items.items in
    let read : c.as_slice.result.now ≡ found = search rules in
    let given : c.as_slice-2.result.now ≡ items = search rules in
    let listed : AreInOrder compare all (Contains found) items = subst (λ xs. AreInOrder compare all (Contains xs) items) read c.in_ok-items.ensures in
    IfOk-weaker c.take_ambiguities.result _ _
    (λ xs is. subst (AreAllInOrder compare all) (sym (is ∙ ap (map (λ (w : Waiting). w.which)) given)) (all-in_order compare all found items c.in_ok-found.ensures listed))
    c.take_ambiguities.ensures
