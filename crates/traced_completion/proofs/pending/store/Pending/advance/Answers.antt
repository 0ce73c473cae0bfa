use Rattle.traced_completion.proofs.Prelude.{rules, ◌≡◌, ◌+◌, ◌-◌, ◌++◌, List, length, drop, sym, ap, subst, ◌∙◌, All, IsPermutation, length-append, length-drop, All-append, All-drop, All-permutation, length_permutation, IsOver, Waiting, IsNextStore, joined}
use Rattle.traced_completion.proofs.Renewing.{renewed-store}
use Rattle.traced_completion.proofs.pending.store.Pending.advance.Goals as goal

pub invariant_of-self-in-Some : goal.invariant_of-self-in-Some
invariant_of-self-in-Some g c =
    let old : List Waiting = joined c.self.inside.blocks.items in
    let others : List Waiting = c.in_ok-others.others.items in
    let new : List Waiting = joined c.renew.new.blocks.items in
    let added : c.in-Some.count ≡ (c.self.inside.count - c.args.taken) + length others = search rules in
    let moved : IsPermutation (drop c.args.taken old ++ others) new = c.in_ok-renew-in-Some.ensures.moved in
    let size : length new ≡ (length old - c.args.taken) + length others =
    length_permutation (drop c.args.taken old ++ others) new moved ∙ length-append (drop c.args.taken old) others ∙ ap (λ n. n + length others) (length-drop c.args.taken old) in
    (added ∙ ap (λ n. (n - c.args.taken) + length others) c.self.invariant.0 ∙ sym size, c.renew.ensures.nonempty)

pub returns-in_ok-renew-in-Some-clause-ok : goal.returns-in_ok-renew-in-Some-clause-ok
returns-in_ok-renew-in-Some-clause-ok g c =
    let all = c.args.rules.now in
    let compare = g.O.WordOrder.compare all.order in
    let laws = g.met.O.WordOrder.admissible all.order in
    let old : List Waiting = joined c.self.inside.blocks.items in
    let others : List Waiting = c.in_ok-others.others.items in
    let new : List Waiting = joined c.renew.new.blocks.items in
    let view : old ≡ c.args.self.now = search rules in
    subst (λ xs. IsNextStore compare all.rules c.args.known c.args.taken xs new) view
    (renewed-store compare laws.total laws.same all.rules c.args.known c.args.taken old others new c.in_ok-others.ensures.new c.in_ok-renew-in-Some.ensures.moved c.in_ok-renew-in-Some.ensures.sorted)

pub returns-in_ok-renew-in-Some-clause-over : goal.returns-in_ok-renew-in-Some-clause-over
returns-in_ok-renew-in-Some-clause-over g c =
    let Over : Waiting → Type 0 = λ w. IsOver (g.O.WordOrder.letters c.args.rules.now.order) w.word in
    let old : List Waiting = joined c.self.inside.blocks.items in
    let others : List Waiting = c.in_ok-others.others.items in
    let new : List Waiting = joined c.renew.new.blocks.items in
    let view : old ≡ c.args.self.now = search rules in
    let over : All Over old = subst (All Over) (sym view) c.requires.over in
    All-permutation Over (drop c.args.taken old ++ others) new c.in_ok-renew-in-Some.ensures.moved
    (All-append Over (drop c.args.taken old) others (All-drop Over c.args.taken old over) c.in_ok-others.ensures.over)
