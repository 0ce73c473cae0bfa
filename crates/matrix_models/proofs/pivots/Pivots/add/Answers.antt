use Rattle.matrix_models.proofs.Prelude.{◌≡◌, ◌+◌, ◌<◌, ◌^◌, ◌++◌, ◌∷◌, [], All, length, drop, take, refl, sym, ap, subst, ◌∙◌, take_at, ArePivots, AreSmall, AreFirsts, IsAdded, IsAgainst, equation_of, Pivots, StandFor, with_equations}
use Rattle.matrix_models.proofs.Reduction.{row_is_equation, row_of-equation_of, stand_for-more, no_solution}
use Rattle.matrix_models.proofs.pivots.Pivots.add.Goals as goal

pub insert-requires-clause-pivots : goal.insert-requires-clause-pivots
insert-requires-clause-pivots c = subst (λ xs. ArePivots (length xs) xs) (sym c.deref_mut.ensures.value) c.self.invariant.rows

pub invariant_of-self : goal.invariant_of-self
invariant_of-self c =
    let old = c.self.inside.rows in
    let new = c.insert.new.pivots in
    let size : length new ≡ length old.items = c.insert.ensures.len ∙ ap length c.deref_mut.ensures.value in
    let rows_are : take old.len (new ++ drop (length new) old.items) ≡ new = take_at new _ _ (size ∙ sym old.ok.0) in
    let firsts = c.self.inside.firsts in
    let firsts_size : length c.insert.new.firsts ≡ length firsts.items = c.insert.ensures.firsts.size ∙ size ∙ sym c.self.invariant.firsts.size in
    let firsts_are : take firsts.len (c.insert.new.firsts ++ drop (length c.insert.new.firsts) firsts.items) ≡ c.insert.new.firsts =
    take_at c.insert.new.firsts _ _ (firsts_size ∙ sym firsts.ok.0) in
    let wide = c.self.inside.wide in
    let wide_size : length c.insert.new.wide ≡ length wide.items = c.insert.ensures.room ∙ ap length c.deref_mut-3.ensures.value in
    let wide_are : take wide.len (c.insert.new.wide ++ drop (length c.insert.new.wide) wide.items) ≡ c.insert.new.wide =
    take_at c.insert.new.wide _ _ (wide_size ∙ sym wide.ok.0) in
    let pivots : ArePivots (length new) new = subst (λ n. ArePivots n new) (sym c.insert.ensures.len) c.insert.ensures.pivots in
    record {
      modulus = c.self.invariant.modulus;
      few = subst (λ k. k < 2 ^ 32) (sym size ∙ ap length (sym rows_are)) c.self.invariant.few;
      small = subst (AreSmall c.self.inside.modulus) (sym rows_are) c.insert.ensures.small;
      room = ap length wide_are ∙ wide_size ∙ c.self.invariant.room ∙ ap (λ k. k + 1) (sym size ∙ ap length (sym rows_are));
      rows = subst (λ xs. ArePivots (length xs) xs) (sym rows_are) pivots;
      firsts = subst (λ xs. AreFirsts xs (take firsts.len (c.insert.new.firsts ++ drop (length c.insert.new.firsts) firsts.items))) (sym rows_are)
          (subst (AreFirsts new) (sym firsts_are) c.insert.ensures.firsts);
    }

pub returns-clause-added : goal.returns-clause-added
returns-clause-added c = λ is_true s stand.
    let old = c.self.inside.rows in
    let new = c.insert.new.pivots in
    let m = c.self.inside.modulus in
    let row = c.args.row.items in
    let size : length new ≡ length old.items = c.insert.ensures.len ∙ ap length c.deref_mut.ensures.value in
    let rows_are : take old.len (new ++ drop (length new) old.items) ≡ new = take_at new _ _ (size ∙ sym old.ok.0) in
    let before : Pivots = record { modulus = m; rows = old.items } in
    let behind : Pivots = record { modulus = m; rows = new } in
    let stand_before : StandFor before s = subst (λ p. StandFor p s) (sym c.self.view_is) stand in
    let are_pivots = subst (λ xs. ArePivots (length xs) new) c.deref_mut.ensures.value c.insert.ensures.pivots in
    let added = subst (λ xs. IsAdded m (length xs) row xs new) c.deref_mut.ensures.value (c.insert.ensures.added is_true) in
    let row_size = c.requires.size ∙ ap (λ n. n + 1) stand.size in
    let row_is = row_of-equation_of s.unknowns row row_size in
    subst (λ xs. StandFor (record { modulus = m; rows = xs }) (with_equations s (equation_of row ∷ []))) (sym rows_are)
    (stand_for-more s (equation_of row) before behind
    (row_is_equation s.modulus s.unknowns row row_size (subst (λ x. All (λ entry. entry < x) row) stand.modulus c.requires.below))
    stand_before refl size are_pivots (subst (λ r. IsAdded m (length old.items) r old.items new) (sym row_is) added))

pub returns-clause-against : goal.returns-clause-against
returns-clause-against c = λ is_false s stand.
    let old = c.self.inside.rows in
    let m = c.self.inside.modulus in
    let row = c.args.row.items in
    let before : Pivots = record { modulus = m; rows = old.items } in
    let stand_before : StandFor before s = subst (λ p. StandFor p s) (sym c.self.view_is) stand in
    let against = subst (λ xs. IsAgainst m (length xs) row xs) c.deref_mut.ensures.value (c.insert.ensures.against is_false) in
    let row_size = c.requires.size ∙ ap (λ n. n + 1) stand.size in
    let row_is = row_of-equation_of s.unknowns row row_size in
    no_solution s (equation_of row) before
    (row_is_equation s.modulus s.unknowns row row_size (subst (λ x. All (λ entry. entry < x) row) stand.modulus c.requires.below))
    stand_before (subst (λ r. IsAgainst m (length old.items) r old.items) (sym row_is) against)
