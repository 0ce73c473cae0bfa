use Rattle.matrix_models.proofs.Prelude.{◌≡◌, ℕ, List, ◌+◌, ◌-◌, ◌*◌, ◌%◌, ◌<◌, ◌≤◌, length, get_or, set, Some, None, sym, ap, subst, ◌∙◌, arith, get_or_read, mod-mod, LiesIn}
use Rattle.matrix_models.proofs.Primes.{field_positive, field_small}
use Rattle.matrix_models.proofs.Rows.{meets-congruent, set-congruent, alike_through}
use Rattle.matrix_models.proofs.Stretches.{pivot_lies}
use Rattle.matrix_models.proofs.Reducing.{IsReducedTo, multiple_small, passed, taken}
use Rattle.matrix_models.proofs.elimination.reduce.Goals as goal
use Rattle.matrix_models.proofs.elimination.reduce.Goals.{then-factor-gt0+in-Some, else-factor-gt0}

-- no sum is too large
pub add_multiple-requires-clause-room : goal.add_multiple-requires-clause-room
add_multiple-requires-clause-room c k l =
    let now = c.loop-first.invariant in
    let m = c.args.modulus in
    let place = c.loop-first.left - 1 in
    let found : get_or c.args.pivots.now place None ≡ Some c.in-Some.pivot =
    sym (get_or_read c.args.pivots.now _ _ (omega (arith, now.within, c.loop-first-test.true)) c.index-pivots-last.is None) ∙ c.in-Some.is in
    let added : (m - c.residue-factor.result) * get_or c.as_slice.result.now k 0 ≤ 4294967296 =
    multiple_small m (m - c.residue-factor.result) c.as_slice.result.now k (field_small m c.requires.field)
    (omega (arith, c.if-factor-gt0.true, c.residue-factor.ensures.below))
    (λ j d inner. subst (λ xs. (j d : ℕ) → j < length xs → get_or xs j d < m) (sym c.as_slice.ensures) (c.requires.small place c.in-Some.pivot found) j d inner) in
    let bound = now.bound k l in
    omega (arith, bound, added, now.within, c.requires.few, c.loop-first-test.true)

-- the pivot is that of the unknown
pub add_multiple-requires-clause-size : goal.add_multiple-requires-clause-size
add_multiple-requires-clause-size c =
    let now = c.loop-first.invariant in
    let found : get_or c.args.pivots.now (c.loop-first.left - 1) None ≡ Some c.in-Some.pivot =
    sym (get_or_read c.args.pivots.now _ _ (omega (arith, now.within, c.loop-first-test.true)) c.index-pivots-last.is None) ∙ c.in-Some.is in
    ap length c.as_slice.ensures ∙ (c.requires.pivots _ _ found).size ∙ sym c.requires.size ∙ sym now.size

-- and lies in its stretch
pub add_multiple-requires-clause-lies : goal.add_multiple-requires-clause-lies
add_multiple-requires-clause-lies c =
    let now = c.loop-first.invariant in
    let n = length c.args.pivots.now in
    let last = c.loop-first.left - 1 in
    let first = get_or c.args.firsts.now last 0 in
    let found : get_or c.args.pivots.now last None ≡ Some c.in-Some.pivot =
    sym (get_or_read c.args.pivots.now _ _ (omega (arith, now.within, c.loop-first-test.true)) c.index-pivots-last.is None) ∙ c.in-Some.is in
    let unknowns : length c.loop-first.wide - 1 ≡ n = omega (arith, now.size, c.requires.size) in
    let lies : LiesIn n first last c.in-Some.pivot =
    pivot_lies n last first c.in-Some.pivot (c.requires.pivots _ _ found) (c.requires.firsts.none_before _ _ found) in
    subst (λ k. LiesIn k first last c.as_slice.result.now) (sym unknowns) (subst (LiesIn n first last) (sym c.as_slice.ensures) lies)

-- the last factor is reduced
pub returns-in-None-clause-alike : goal.returns-in-None-clause-alike
returns-in-None-clause-alike c =
    let now = c.loop-first.invariant in
    let m = c.args.modulus in
    let n = length c.args.pivots.now in
    let place = c.loop-first.left - 1 in
    let wide = c.loop-first.wide in
    let inside : place < length wide = omega (arith, now.size, c.requires.size, now.within, c.loop-first-test.true) in
    let value_is : c.from.result % m ≡ get_or wide place 0 % m =
    ap (λ x. x % m) (c.from.ensures ∙ c.residue-factor.ensures.value) ∙ mod-mod _ m in
    alike_through m n c.args.pivots.now c.args.row.now wide (set wide place c.from.result) now.alike
    (λ w all. meets-congruent m n w wide (set wide place c.from.result) (λ k l. set-congruent m place c.from.result wide inside value_is k))

pub loop-first-preserved : goal.loop-first-preserved
loop-first-preserved c =
    let now = c.loop-first.invariant in
    let m = c.args.modulus in
    let pivots = c.args.pivots.now in
    let row = c.args.row.now in
    let wide = c.loop-first.wide in
    let left = c.loop-first.left in
    let place = left - 1 in
    let State : ℕ → List ℕ → Type 0 = λ first x. IsReducedTo m pivots row first place (set x place 0) in
    elim c.if-factor-gt0.branch [
      | then-factor-gt0+in-Some w ↦
          let found : get_or pivots place None ≡ Some w.in-Some.pivot =
          sym (get_or_read pivots _ _ (omega (arith, now.within, c.loop-first-test.true)) w.index-pivots-last.is None) ∙ w.in-Some.is in
          let new = w.add_multiple.new.wide in
          let factor : c.residue-factor.result ≡ get_or wide place 0 % m = c.residue-factor.ensures.value in
          let some : 0 < get_or wide place 0 % m = omega (arith, factor, w.if-factor-gt0.true) in
          let by_factor : (k : ℕ) → k < length wide → get_or new k 0 ≡ get_or wide k 0 + (m - c.residue-factor.result) * get_or w.in-Some.pivot k 0 =
          λ k l. subst (λ x. get_or new k 0 ≡ get_or wide k 0 + (m - c.residue-factor.result) * get_or x k 0) w.as_slice.ensures (w.add_multiple.ensures.each k l) in
          let each = subst (λ f. (k : ℕ) → k < length wide → get_or new k 0 ≡ get_or wide k 0 + (m - f) * get_or w.in-Some.pivot k 0) factor by_factor in
          subst (λ x. State x c.if-factor-gt0.wide) (sym w.first-is) (subst (State w.min-first.result) (sym w.wide-is)
          (taken m pivots row c.loop-first.first left wide w.in-Some.pivot new (get_or c.args.firsts.now place 0) w.min-first.result
          (field_positive m c.requires.field) (field_small m c.requires.field) c.requires.size c.loop-first-test.true some now
          found c.requires.pivots c.requires.small (c.requires.firsts.none_before _ _ found)
          (omega (arith, w.min-first.ensures)) (omega (arith, w.min-first.ensures)) w.add_multiple.ensures.len each))
      | else-factor-gt0 w ↦
          let none : get_or wide place 0 % m ≡ 0 = omega (arith, c.residue-factor.ensures.value, w.if-factor-gt0.false) in
          subst (λ x. State x c.if-factor-gt0.wide) (sym w.first-is) (subst (State c.loop-first.first) (sym w.wide-is)
          (passed m pivots row c.loop-first.first left wide c.requires.size (omega (arith, c.loop-first-test.true)) none now))
    ]
