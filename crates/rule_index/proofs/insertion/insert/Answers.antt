use Rattle.rule_index.proofs.Prelude.{◌≡◌, ◌<◌, ◌∙◌, None, length, get_or, set, refl, arith, subst, sym, ap, with_items, with_items_is, Tree, Lists, IsMarkedAt, marked}
use Rattle.rule_index.proofs.Inserting.{inserted}
use Rattle.rule_index.proofs.insertion.insert.Goals as goal

pub mark_all-requires : goal.mark_all-requires
mark_all-requires c = λ k l.
    let h = c.grow_all-at.ensures in
    omega (arith, h.ends_are.inside k (subst (λ es. Lists es k) c.deref.ensures.value l), h.tree.spelled.sized, h.sized, c.deref_mut-2.ensures.len, c.deref_mut.ensures.len, c.mark.auto.leasts)

pub returns : goal.returns
returns c =
    let mid = c.grow_all-at.new.tree in
    let place = c.args.place in
    let at = c.grow_all-at.result in
    let ends = c.grow_all-at.new.ends.items in
    let first = c.mark.new.leasts in
    let last = c.mark_all.new.leasts in
    let both = with_items (with_items mid.leasts first) last in
    let new : Tree = record { nodes = mid.nodes; heads = mid.heads; nexts = mid.nexts; letter_heads = mid.letter_heads; letter_nexts = mid.letter_nexts; links = mid.links; leasts = both } in
    let first_size : length first ≡ length mid.leasts.items = omega (arith, c.mark.auto.leasts, c.deref_mut.ensures.len) in
    let one : (with_items mid.leasts first).items ≡ first = with_items_is mid.leasts first (omega (arith, c.mark.auto.leasts, c.deref_mut.ensures.len)) in
    let two : new.leasts.items ≡ last = with_items_is (with_items mid.leasts first) last (omega (arith, c.mark_all.auto.leasts, c.deref_mut-2.ensures.len)) in
    let read : c.deref_mut-2.result.now ≡ first = c.deref_mut-2.ensures.value ∙ one in
    let first_is : first ≡ set mid.leasts.items at (marked (get_or mid.leasts.items at None) place) =
    subst (λ ls. first ≡ set ls at (marked (get_or ls at None) place)) c.deref_mut.ensures.value c.mark.ensures in
    inserted c.args.tree.now mid new c.args.word.now place at ends first c.grow_all-at.ensures refl c.grow_all-at.ensures.lettered refl refl refl first_is
    (ap length two ∙ c.mark_all.auto.leasts ∙ ap length read)
    (λ k below.
    let m0 = c.mark_all.ensures k (subst (λ ls. k < length ls) (sym read) below) in
    let m1 : IsMarkedAt ends (length ends) place (get_or c.deref_mut-2.result.now k None) (get_or last k None) k =
    subst (λ es. IsMarkedAt es (length es) place (get_or c.deref_mut-2.result.now k None) (get_or last k None) k) c.deref.ensures.value m0 in
    let m2 : IsMarkedAt ends (length ends) place (get_or first k None) (get_or last k None) k =
    subst (λ ls. IsMarkedAt ends (length ends) place (get_or ls k None) (get_or last k None) k) read m1 in
    subst (λ ls. IsMarkedAt ends (length ends) place (get_or first k None) (get_or ls k None) k) (sym two) m2)
