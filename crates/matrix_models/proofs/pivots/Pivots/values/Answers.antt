use Rattle.matrix_models.proofs.Prelude.{◌≡◌, ◌+◌, ◌-◌, ◌*◌, ◌%◌, ◌<◌, ◌≤◌, [], ◌∷◌, ◌++◌, ℕ, List, length, get_or, Some, None, sym, ap, subst, ◌∙◌, arith, get_or_read, All-get_or, total, IsGreedy}
use Rattle.matrix_models.proofs.Stretches.{first_within}
use Rattle.matrix_models.proofs.BackSolving.{IsSolvedTo, solved_free, solved_fixed}
use Rattle.matrix_models.proofs.GreedySolutions.{greedy-left}
use Rattle.matrix_models.proofs.pivots.Pivots.values.Goals as goal
use Rattle.matrix_models.proofs.pivots.Pivots.values.Goals.{in-Some, in-None}

-- the pivot is that of the place, and has a right side
pub value_left-value-requires-clause-within : goal.value_left-value-requires-clause-within
value_left-value-requires-clause-within c =
    let rows = c.args.self.now.rows in
    let rows_are : c.self.inside.rows.items ≡ rows = ap (λ p. p.rows) c.self.view_is in
    let inside : c.loop-place.place < length rows =
    omega (arith, c.loop-place-test.true, c.len-place-end.ensures, c.self.inside.rows.ok.0, ap length rows_are) in
    let here = subst (λ xs. c.index.result.now ≡ get_or xs c.loop-place.place c.index.result.now) rows_are c.index.ensures in
    let found : get_or rows c.loop-place.place None ≡ Some c.in-Some.row = sym (get_or_read rows _ _ inside here None) ∙ c.in-Some.is in
    let size = (c.self.invariant.rows _ _ (ap (λ xs. get_or xs c.loop-place.place None) rows_are ∙ found)).size in
    omega (arith, size, inside, c.loop-place.invariant.size, ap length c.as_slice.ensures, ap length c.as_slice-in-Some.ensures.value, ap length rows_are)

-- the pivot's first factor stands at its place or before
pub value_left-value-requires-clause-first : goal.value_left-value-requires-clause-first
value_left-value-requires-clause-first c =
    let rows = c.self.inside.rows.items in
    let place = c.loop-place.place in
    let rows_are : rows ≡ c.args.self.now.rows = ap (λ p. p.rows) c.self.view_is in
    let inside : place < length rows = omega (arith, c.loop-place-test.true, c.len-place-end.ensures, c.self.inside.rows.ok.0) in
    let found : get_or rows place None ≡ Some c.in-Some.row = sym (get_or_read rows _ _ inside c.index.ensures None) ∙ c.in-Some.is in
    let first = get_or c.self.inside.firsts.items place 0 in
    let first_is : c.index-in-Some.result.now ≡ first =
    get_or_read c.self.inside.firsts.items _ _ (omega (arith, inside, c.self.invariant.firsts.size)) c.index-in-Some.ensures 0 in
    let before : first ≤ place = first_within (length rows) place first c.in-Some.row (c.self.invariant.rows place c.in-Some.row found)
    (c.self.invariant.firsts.none_before place c.in-Some.row found) in
    omega (arith, first_is, before, c.loop-place.invariant.size, ap length c.as_slice-in-Some.ensures.value)

pub loop-place-preserved : goal.loop-place-preserved
loop-place-preserved c =
    let before = c.loop-place.invariant in
    let m = c.args.self.now.modulus in
    let rows = c.args.self.now.rows in
    let n = length rows in
    let place = c.loop-place.place in
    let values = c.loop-place.values.items in
    let prefer = c.args.prefer.now in
    let rows_are : c.self.inside.rows.items ≡ rows = ap (λ p. p.rows) c.self.view_is in
    let modulus_is : c.self.inside.modulus ≡ m = ap (λ p. p.modulus) c.self.view_is in
    let inside : place < n = omega (arith, c.loop-place-test.true, c.len-place-end.ensures, c.self.inside.rows.ok.0, ap length rows_are) in
    let here : c.index.result.now ≡ get_or rows place None =
    get_or_read rows _ _ inside (subst (λ xs. c.index.result.now ≡ get_or xs place c.index.result.now) rows_are c.index.ensures) None in
    let FitsRow : List ℕ → List ℕ → ℕ → ℕ → Type 0 = λ r v value y.
    (total (length v) (λ k. get_or r k 0 * get_or v k 0) + value) % y ≡ get_or r (length r - 1) 0 % y in
    let Solved : ℕ → Type 0 = λ value. IsSolvedTo m n (place + 1) rows prefer (values ++ value ∷ []) in
    subst (IsSolvedTo m n (place + 1) rows prefer) (sym c.in_ok-push.ensures.items)
    (elim c.match-index.branch [
      | in-Some w ↦
          let row = w.in-Some.row in
          let value = w.value_left-value.result in
          let found : get_or rows place None ≡ Some row = sym here ∙ w.in-Some.is in
          let by_modulus = subst (FitsRow w.as_slice.result.now w.as_slice-in-Some.result.now value) modulus_is w.value_left-value.ensures.left in
          let by_row = subst (λ r. FitsRow r w.as_slice-in-Some.result.now value m) w.as_slice.ensures by_modulus in
          let by_values = subst (λ v. FitsRow row v value m) w.as_slice-in-Some.ensures.value by_row in
          let by_place = subst (λ p. (total p (λ k. get_or row k 0 * get_or values k 0) + value) % m ≡ get_or row (length row - 1) 0 % m)
          before.size by_values in
          let size = (c.self.invariant.rows place row (ap (λ xs. get_or xs place None) rows_are ∙ found)).size in
          let right : length row - 1 ≡ n = omega (arith, size, ap length rows_are) in
          subst Solved (sym w.value-is)
          (solved_fixed m n place _ _ values row value before found (subst (λ y. value < y) modulus_is w.value_left-value.ensures.below)
          (by_place ∙ ap (λ k. get_or row k 0 % m) right))
      | in-None w ↦
          subst Solved (sym w.value-is) (solved_free m n place _ _ values before (sym here ∙ w.in-None.is)
          (All-get_or (λ value. value < m) prefer place 0 (omega (arith, c.requires.size, inside)) c.requires.below))
    ])

pub returns : goal.returns
returns c = λ s stand.
    let rows_are : length c.self.inside.rows.items ≡ length c.args.self.now.rows = ap (λ p. length p.rows) c.self.view_is in
    let all : c.loop-place.place ≡ length c.args.self.now.rows =
    omega (arith, rows_are, c.loop-place-test.false, c.loop-place.auto.place-end, c.len-place-end.ensures, c.self.inside.rows.ok.0) in
    subst (IsGreedy s c.args.prefer.now) (sym c.from_vec.ensures) (greedy-left s c.args.self.now c.args.prefer.now c.loop-place.values.items stand
    (subst (λ n. IsSolvedTo c.args.self.now.modulus (length c.args.self.now.rows) n c.args.self.now.rows c.args.prefer.now c.loop-place.values.items) all
    c.loop-place.invariant))
