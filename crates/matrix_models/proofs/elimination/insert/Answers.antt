use Rattle.matrix_models.proofs.Prelude.{◌≡◌, ◌<◌, All, length, sym, ap, subst, ◌∙◌, take_at, eqb-true, eqb-false, IsPivot, HasNoFactor, MeetsAlike}
use Rattle.matrix_models.proofs.Rows.{pivots-set, small-set, added-pivot, added-nothing, against-all}
use Rattle.matrix_models.proofs.Stretches.{firsts-set}
use Rattle.matrix_models.proofs.elimination.insert.Goals as goal

pub returns-in-Some-clause-pivots : goal.returns-in-Some-clause-pivots
returns-in-Some-clause-pivots c =
    let kept : length c.normalize.new.row ≡ c.args.row.len = c.normalize.ensures.len ∙ ap length c.deref_mut.ensures.value ∙ sym c.args.row.ok.0 in
    let row_is : c.from_vec.result ≡ c.normalize.new.row = c.from_vec.ensures ∙ take_at c.normalize.new.row _ _ kept in
    pivots-set (length c.args.pivots.now) c.in-Some.stretch.last c.args.pivots.now c.from_vec.result c.in-Some.ensures.free.within c.requires.pivots
    (subst (IsPivot (length c.args.pivots.now) c.in-Some.stretch.last) (sym row_is) c.in-Some.ensures.pivot)

pub returns-in-Some-clause-firsts : goal.returns-in-Some-clause-firsts
returns-in-Some-clause-firsts c =
    let first = c.in-Some.stretch.first in
    let kept : length c.normalize.new.row ≡ c.args.row.len = c.normalize.ensures.len ∙ ap length c.deref_mut.ensures.value ∙ sym c.args.row.ok.0 in
    let row_is : c.from_vec.result ≡ c.normalize.new.row = c.from_vec.ensures ∙ take_at c.normalize.new.row _ _ kept in
    firsts-set c.args.pivots.now c.args.firsts.now c.in-Some.stretch.last first c.from_vec.result c.in-Some.ensures.free.within c.requires.firsts
    (subst (HasNoFactor first) (sym row_is) c.in-Some.ensures.first)

pub returns-in-Some-clause-added : goal.returns-in-Some-clause-added
returns-in-Some-clause-added c = λ _.
    let kept : length c.normalize.new.row ≡ c.args.row.len = c.normalize.ensures.len ∙ ap length c.deref_mut.ensures.value ∙ sym c.args.row.ok.0 in
    let row_is : c.from_vec.result ≡ c.normalize.new.row = c.from_vec.ensures ∙ take_at c.normalize.new.row _ _ kept in
    let alike = subst (λ x. MeetsAlike c.args.modulus (length c.args.pivots.now) c.args.pivots.now x c.normalize.new.row) c.deref_mut.ensures.value c.in-Some.ensures.alike in
    added-pivot c.args.modulus (length c.args.pivots.now) c.in-Some.stretch.last c.args.pivots.now c.args.row.items c.from_vec.result c.in-Some.ensures.free
    (subst (MeetsAlike c.args.modulus (length c.args.pivots.now) c.args.pivots.now c.args.row.items) (sym row_is) alike)

pub returns-in-Some-clause-small : goal.returns-in-Some-clause-small
returns-in-Some-clause-small c =
    let kept : length c.normalize.new.row ≡ c.args.row.len = c.normalize.ensures.len ∙ ap length c.deref_mut.ensures.value ∙ sym c.args.row.ok.0 in
    let row_is : c.from_vec.result ≡ c.normalize.new.row = c.from_vec.ensures ∙ take_at c.normalize.new.row _ _ kept in
    small-set c.args.modulus c.in-Some.stretch.last c.args.pivots.now c.from_vec.result c.in-Some.ensures.free.within c.requires.small
    (subst (All (λ entry. entry < c.args.modulus)) (sym row_is) c.in-Some.ensures.small)

pub returns-in-None-clause-added : goal.returns-in-None-clause-added
returns-in-None-clause-added c = λ is_zero.
    let n = length c.args.pivots.now in
    let wide = c.normalize.new.wide in
    let alike = subst (λ x. MeetsAlike c.args.modulus n c.args.pivots.now x wide) c.deref_mut.ensures.value c.in-None.ensures.wide_alike in
    added-nothing c.args.modulus n c.args.pivots.now c.args.row.items wide c.in-None.ensures.none
    (sym c.residue.ensures.value ∙ eqb-true _ 0 is_zero) alike

pub returns-in-None-clause-against : goal.returns-in-None-clause-against
returns-in-None-clause-against c = λ is_other.
    let n = length c.args.pivots.now in
    let wide = c.normalize.new.wide in
    let alike = subst (λ x. MeetsAlike c.args.modulus n c.args.pivots.now x wide) c.deref_mut.ensures.value c.in-None.ensures.wide_alike in
    against-all c.args.modulus n c.args.pivots.now c.args.row.items wide c.in-None.ensures.none
    (λ none. eqb-false _ 0 is_other (c.residue.ensures.value ∙ none)) alike
