use Rattle.rule_reduce.proofs.Prelude.{rules, ◌≡◌, ◌≢◌, ◌+◌, ◌++◌, ◌∷◌, pos, [], suc, take, drop, set, length, add-one, sym, ap, ap₂, ◌∙◌, ◌+ℤ◌, to_z, of_z, arith, set_split, length-take-le, get_or_read, remove, Term, term_at}
use mir.Syntax.{w128}
use Rattle.rule_reduce.proofs.InPlace.{put_zero, put_nonzero}
use Rattle.rule_reduce.proofs.adding.add_at.Goals as goal
use Rattle.rule_reduce.proofs.adding.add_at.Goals.{In_ok-total}

-- the total is that of the term at the place and the value
total_is : (c : In_ok-total) → c.in_ok-total.total ≡ (term_at c.args.terms.now.items c.args.place).0 +ℤ c.args.value
total_is c =
    let p = c.args.terms.now.items in
    let i = c.args.place in
    let read : c.index.result.now ≡ term_at p i = get_or_read p i c.index.result.now c.requires.in_range c.index.ensures (pos 0, []) in
    let total : c.in_ok-total.total ≡ c.index.result.now.0 +ℤ c.args.value = search rules in
    total ∙ ap (λ (t : Term). t.0 +ℤ c.args.value) read

pub returns-then-total-eq0-clause-put : goal.returns-then-total-eq0-clause-put
returns-then-total-eq0-clause-put c =
    let p = c.args.terms.now.items in
    let i = c.args.place in
    let x = term_at p i in
    let total = total_is (goal.at.returns-then-total-eq0-clause-put c).In_ok-total in
    let zero : c.in_ok-total.total ≡ pos 0 = search rules in
    let items : c.remove.new.self.items ≡ remove p i = search rules in
    rw add-one (put_zero (take i p) (drop (suc i) p) c.remove.new.self.items (x.0 +ℤ c.args.value) x.1 i (sym total ∙ zero) items (sym (length-take-le i p (omega arith))))

pub returns-clause-put : goal.returns-clause-put
returns-clause-put c =
    let p = c.args.terms.now.items in
    let i = c.args.place in
    let x = term_at p i in
    let total = total_is (goal.at.returns-clause-put c).In_ok-total in
    let nonzero : c.in_ok-total.total ≢ pos 0 = search rules in
    let read : c.index_mut.result.now ≡ x = get_or_read p i c.index_mut.result.now c.requires.in_range c.index_mut.ensures.value (pos 0, []) in
    let stored : Term = (to_z w128 (of_z w128 c.in_ok-total.total), c.index_mut.result.now.1) in
    let back : stored.0 ≡ c.in_ok-total.total = search rules in
    let one : stored ≡ (x.0 +ℤ c.args.value, x.1) = ap₂ (λ a b. (a, b)) (back ∙ total) (ap (λ (t : Term). t.1) read) in
    let items : set p i stored ≡ take i p ++ (x.0 +ℤ c.args.value, x.1) ∷ drop (suc i) p = set_split p i stored c.requires.in_range ∙ ap (λ t. take i p ++ t ∷ drop (suc i) p) one in
    let count : suc i ≡ length (take i p) + 1 = omega (arith, length-take-le i p (omega arith)) in
    rw add-one (put_nonzero (take i p) (drop (suc i) p) (set p i stored) (x.0 +ℤ c.args.value) x.1 (suc i) (λ e. nonzero (total ∙ e)) items count)
