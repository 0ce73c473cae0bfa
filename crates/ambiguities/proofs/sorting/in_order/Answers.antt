use Rattle.ambiguities.proofs.Prelude.{◌≡◌, ◌^◌, List, map, sym, subst, All, Contains, IsPermutation, IfOk-weaker, IsOver, Key, AreInOrder, key_of}
use Rattle.ambiguities.proofs.Keyed.{keys-in_order}
use Rattle.ambiguities.proofs.sorting.in_order.Goals as goal

pub returns : goal.returns
returns g c =
    let order = c.args.rules.now.order in
    let all = c.args.rules.now.rules in
    let compare = g.O.WordOrder.compare order in
    let measure = g.O.WordOrder.measure_of order in
    let laws = g.met.O.WordOrder.admissible order in
    let found = c.args.found.now in
    let keys : List Key = c.sort_keys.new.keys.items in
    let made : c.in_ok-keys.keys.items ≡ map (key_of measure all) found = c.in_ok-keys.ensures.exact in
    let over = subst (All (λ (k : Key). IsOver (2 ^ 16) k.waiting.word)) made c.in_ok-keys.ensures.over in
    let moved : IsPermutation (map (key_of measure all) found) keys = subst (λ (xs : List Key). IsPermutation xs keys) made c.sort_keys.ensures.permutation in
    IfOk-weaker c.take_waiting.result _ _
    (λ items taken. subst (AreInOrder compare all (Contains found)) (sym taken)
    (keys-in_order compare measure (g.met.O.WordOrder.by_measure order) all found over keys moved laws.total laws.same c.requires.distinct c.in_ok-sort_keys.ensures.sorted))
    c.take_waiting.ensures
