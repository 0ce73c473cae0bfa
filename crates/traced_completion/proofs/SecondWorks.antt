-- The second reduction of one ambiguity as a work.
use Rattle.traced_completion.proofs.Prelude.{◌≡◌, ◌<◌, ℕ, List, [], ◌∷◌, length, Some, None, Result, Ok, refl, sym, ap, ◌∙◌, subst, arith, first_overflow, Term, Compare, Row, Rule, State, ReduceFault, normal_form_of, and_then, Explains, unless_overflow, Recorded, rest_with, IsExtended, First, second_rows, rows_operations, second_rest, second_reduction, second_work, Does}
use Rattle.rule_reduce.specs.declared.fault.ReduceFault.TheVariants as fault
use Rattle.traced_completion.proofs.RowChains.{other_explains, other_value, value_of}

module _ (compare : Compare) (steps : ℕ) (rules : List Rule) (f : First) where
  pub nothing_first : (before : Recorded) → length f.reduced.rest ≡ 0 → Does compare (second_work compare steps f rules) before before
  nothing_first before none = record { rest = None; leaves = go f.reduced.rest none; added = refl }
    where
      go : (p : List Term) → length p ≡ 0 → second_reduction compare steps f rules p ≡ Ok None
      go [] k = refl
      go (t ∷ p) k = absurd (omega (arith, k))

  after_fault : (r : Result State ReduceFault) (e : ReduceFault) → Explains r e → Explains (and_then r (λ s. second_rest f s s.rest)) e
  after_fault r (fault.Steps limit) why = ap (λ q. and_then q (λ s. second_rest f s s.rest)) why
  after_fault r (fault.Overflow o) why = ap (λ q. and_then q (λ s. second_rest f s s.rest)) why
  after_fault r (fault.Size z) why = ap (λ q. and_then q (λ s. second_rest f s s.rest)) why
  after_fault r (fault.Memory e) why = tt

  module _ (some : 0 < length f.reduced.rest) where
    pub second_fault : (e : ReduceFault) → Explains (normal_form_of compare rules f.reduced.rest steps) e → Explains (second_work compare steps f rules) e
    second_fault e why = go f.reduced.rest some why
      where
        go : (p : List Term) → 0 < length p → Explains (normal_form_of compare rules p steps) e → Explains (second_reduction compare steps f rules p) e
        go [] above k = absurd (omega (arith, above))
        go (t ∷ p) above k = after_fault (normal_form_of compare rules (t ∷ p) steps) e k

    module _ (s : State) (ends : normal_form_of compare rules f.reduced.rest steps ≡ Ok s) where
      leaves : second_work compare steps f rules ≡ second_rest f s s.rest
      leaves = go f.reduced.rest some ends
        where
          go : (p : List Term) → 0 < length p → normal_form_of compare rules p steps ≡ Ok s → second_reduction compare steps f rules p ≡ second_rest f s s.rest
          go [] above k = absurd (omega (arith, above))
          go (t ∷ p) above k = ap (λ r. and_then r (λ q. second_rest f q q.rest)) k

      pub nothing_second : (before : Recorded) → length s.rest ≡ 0 → Does compare (second_work compare steps f rules) before before
      nothing_second before none = record { rest = None; leaves = leaves ∙ go s.rest none; added = refl }
        where
          go : (p : List Term) → length p ≡ 0 → second_rest f s p ≡ Ok None
          go [] k = refl
          go (t ∷ p) k = absurd (omega (arith, k))

      module _ (more : 0 < length s.rest) where
        pub rows_fault : (e : ReduceFault) → Explains (unless_overflow (first_overflow (rows_operations f s)) (second_rows f s)) e → Explains (second_work compare steps f rules) e
        rows_fault e why = subst (λ r. Explains r e) (sym leaves) (go s.rest more)
          where
            go : (p : List Term) → 0 < length p → Explains (second_rest f s p) e
            go [] above = absurd (omega (arith, above))
            go (t ∷ p) above = other_explains (first_overflow (rows_operations f s)) (second_rows f s) (rest_with (t ∷ p) (second_rows f s)) e why

        pub second_made : (rows : List Row) (before after : Recorded) → unless_overflow (first_overflow (rows_operations f s)) (second_rows f s) ≡ Ok rows
            → IsExtended compare (record { polynomial = s.rest; rows = rows }) before after → Does compare (second_work compare steps f rules) before after
        second_made rows before after is extended = record { rest = Some (record { polynomial = s.rest; rows = rows }); leaves = leaves ∙ go s.rest more; added = extended }
          where
            go : (p : List Term) → 0 < length p → second_rest f s p ≡ Ok (Some (record { polynomial = p; rows = rows }))
            go [] above = absurd (omega (arith, above))
            go (t ∷ p) above =
                other_value (first_overflow (rows_operations f s)) (second_rows f s) rows (rest_with (t ∷ p) (second_rows f s)) is
                ∙ ap (λ (rs : List Row). Ok (Some (record { polynomial = t ∷ p; rows = rs }))) (value_of (rows_operations f s) (second_rows f s) rows is)
