use Rattle.traced_completion.proofs.Prelude.{rules, ◌≡◌, ◌≢◌, ◌↔◌, ◌≤◌, ◌+◌, length, sym, subst, All, AllPairs, Contains, All-weaker, All-contains_itself, IfOk-weaker, Ambiguity, IsAmbiguity, IsBefore, IsAmbiguityFrom, AreInOrder, distinct-pairs, ambiguity_not_before_itself}
use Rattle.traced_completion.proofs.Renewing.{before-up_to}
use Rattle.traced_completion.proofs.StoreLemmas.{nothing-new, new-in_order, new-over}
use Rattle.traced_completion.proofs.pending.store.new_waiting.Goals as goal

pub returns-then-known-len-clause-new : goal.returns-then-known-len-clause-new
returns-then-known-len-clause-new g c =
    let all = c.args.rules.now in
    let compare = g.O.WordOrder.compare all.order in
    let past : length all.rules ≤ c.args.known = search rules in
    subst (AreInOrder compare all.rules (IsAmbiguityFrom (c.args.known + 1) all.rules)) (sym c.new.ensures.items) (nothing-new compare all.rules c.args.known past)

pub in_order-requires : goal.in_order-requires
in_order-requires g c =
    let all = c.args.rules.now.rules in
    let found = c.in_ok-found.found in
    let same : c.as_slice.result.now ≡ found = search rules in
    record {
      of_rules = subst (All (IsAmbiguity all)) (sym same)
          (All-weaker (Contains found) (IsAmbiguity all) (λ a at. ((c.in_ok-found.ensures.members a).0 at).0) found (All-contains_itself found));
      distinct = subst (AllPairs (λ a b. a ≢ b)) (sym same)
          (distinct-pairs IsBefore ambiguity_not_before_itself found c.in_ok-found.ensures.ascending);
    }

pub returns-clause-new : goal.returns-clause-new
returns-clause-new g c =
    let all = c.args.rules.now in
    let compare = g.O.WordOrder.compare all.order in
    let found = c.in_ok-found.found in
    let same : c.as_slice.result.now ≡ found = search rules in
    IfOk-weaker c.in_order.result _ _
    (λ items listed. new-in_order compare all.rules c.args.known c.as_slice.result.now _ (subst (λ xs. (a : Ambiguity) → Contains xs a ↔ IsAmbiguityFrom (c.args.known + 1) all.rules a) (sym same) c.in_ok-found.ensures.members) listed)
    c.in_order.ensures

pub returns-clause-sorted : goal.returns-clause-sorted
returns-clause-sorted g c =
    let order = c.args.rules.now.order in
    IfOk-weaker c.in_order.result _ _
    (λ items new. before-up_to (g.O.WordOrder.compare order) (g.met.O.WordOrder.admissible order).total _ new.ascending)
    (returns-clause-new g c)

pub returns-clause-over : goal.returns-clause-over
returns-clause-over g c =
    let all = c.args.rules.now in
    let letters = g.O.WordOrder.letters all.order in
    let compare = g.O.WordOrder.compare all.order in
    IfOk-weaker c.in_order.result _ _
    (λ items new. new-over letters compare all.rules c.args.known _ all.each new)
    (returns-clause-new g c)
