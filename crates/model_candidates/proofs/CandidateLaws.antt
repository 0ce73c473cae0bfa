-- Of each shape, seed and number there is one candidate.
use Rattle.model_candidates.proofs.Prelude.{◌≡◌, ℕ, ◌<◌, Bool, true, false, not, List, [], ◌∷◌, length, get_or, map, filter, cond, Option, Some, None, ◌⊎◌, inl, inr, refl, sym, ap, subst, ◌∙◌, AllByRecursion, range_with_len, cases_eq, false≢true, Quiver, HasSignature, quiver_of, Poly, matrices, Begins, IsGreedyList, greedy_or_none, one_greedy, Model, Shape, Problem, polynomials, generators_have_signatures, IsZeroIn, representation_of, entries_of, model_by, is_exhaustive, digits, draws, is_linear, IsShapeOf, IsSolution, CanBegin, IsGreedy, IsCandidate, solved_flags, zero_from_value, IsDecided, decided_by, both_decided, lt_decided, each_decided, matrix_decided}
use Rattle.definitions.specs.Representation.{value_at}
use Rattle.model_candidates.proofs.Ranges.{all_of_range, range_of_all}
use Rattle.model_candidates.proofs.SolvedEntries.{IsAsDrawn}
use Rattle.model_candidates.proofs.DrawnEntries.{drawn_by_flags, drawn_by_entries}

-- greedy values, as lists that pass
module _ (problem : Problem) (s : Shape) (drawn : List ℕ) where
  abbrev Passes : List ℕ → Type 0
  Passes values = IsSolution problem s drawn values

  abbrev size : ℕ
  size = length (entries_of (quiver_of problem.parts.quiver) s)

  one_for_each : (values : List ℕ) → Passes values → length values ≡ size
  one_for_each values solution = solution.one_each

  can_begin : {front : List ℕ} → CanBegin problem s drawn front → Begins Passes front
  can_begin can = record { rest = can.rest; passes = can.solution }

  begins_so : {front : List ℕ} → Begins Passes front → CanBegin problem s drawn front
  begins_so begins = record { rest = begins.rest; solution = begins.passes }

  as_list : {values : List ℕ} → IsGreedy problem s drawn values → IsGreedyList Passes size one_for_each drawn values
  as_list greedy = record {
    passes = greedy.solution;
    chosen = λ place within.
        let inside = subst (λ n. place < n) (sym greedy.solution.one_each) within in
        record {
          preferred_if = λ can. greedy.drawn_where_it_can place inside (begins_so can);
          least_else = λ other cannot can. greedy.else_least place other inside (λ begins. cannot (can_begin begins)) (begins_so can);
        };
  }

  from_list : {values : List ℕ} → IsGreedyList Passes size one_for_each drawn values → IsGreedy problem s drawn values
  from_list list = record {
    solution = list.passes;
    drawn_where_it_can = λ place inside can.
        (list.chosen place (subst (λ n. place < n) list.passes.one_each inside)).preferred_if (can_begin can);
    else_least = λ place value inside cannot can.
        (list.chosen place (subst (λ n. place < n) list.passes.one_each inside)).least_else value (λ begins. cannot (begins_so begins))
        (can_begin can);
  }

  greedy_is_unique : {values others : List ℕ} → IsGreedy problem s drawn values → IsGreedy problem s drawn others → values ≡ others
  greedy_is_unique first second = one_greedy Passes size one_for_each drawn (as_list first) (as_list second)

-- at most one
not_both : (b : Bool) → b ≡ true → not b ≡ true → ⊥
not_both true is other = false≢true other
not_both false is other = false≢true is

pub candidate_is_unique : (problem : Problem) (number : ℕ) (s : Shape) (seed k : ℕ) (one other : Option Model)
    → IsCandidate problem number s seed k one → IsCandidate problem number s seed k other
    → one ≡ other
candidate_is_unique problem number s seed k one other first second = go first second
  where
    q : Quiver
    q = quiver_of problem.parts.quiver

    exhaustive : Bool
    exhaustive = is_exhaustive q s

    go : IsCandidate problem number s seed k one → IsCandidate problem number s seed k other → one ≡ other
    go (IsCandidate.numbered all is) (IsCandidate.numbered all_other is_other) = is ∙ sym is_other
    go (IsCandidate.numbered all is) (IsCandidate.drawn other_way values greedy is_other) = absurd (not_both exhaustive all other_way)
    go (IsCandidate.numbered all is) (IsCandidate.unsolvable other_way none is_other) = absurd (not_both exhaustive all other_way)
    go (IsCandidate.drawn one_way values greedy is) (IsCandidate.numbered all is_other) = absurd (not_both exhaustive all one_way)
    go (IsCandidate.drawn one_way values greedy is) (IsCandidate.drawn other_way others greedy_other is_other) =
        is ∙ ap (λ x. Some (model_by q s 0 x)) (greedy_is_unique problem s (draws q s number seed k) greedy greedy_other) ∙ sym is_other
    go (IsCandidate.drawn one_way values greedy is) (IsCandidate.unsolvable other_way none is_other) = absurd (none values greedy.solution)
    go (IsCandidate.unsolvable one_way none is) (IsCandidate.numbered all is_other) = absurd (not_both exhaustive all one_way)
    go (IsCandidate.unsolvable one_way none is) (IsCandidate.drawn other_way values greedy is_other) = absurd (none values greedy.solution)
    go (IsCandidate.unsolvable one_way none is) (IsCandidate.unsolvable other_way none_other is_other) = is ∙ sym is_other

-- at least one
module _ (problem : Problem) (m : Model) where
  signed_zero_decided : (p : Poly) → HasSignature (quiver_of problem.parts.quiver) p.terms → IsDecided (IsZeroIn problem m p.terms)
  signed_zero_decided p signed =
      let q = quiver_of problem.parts.quiver in
      let f = representation_of q m in
      decided_by (zero_from_value (matrices m.modulus) q f p.terms p.canonical signed.source signed.target signed.typed)
      (λ zero. zero.at signed.source signed.target signed.source_is_object signed.target_is_object signed.typed)
      (matrix_decided (value_at (matrices m.modulus) q f signed.source signed.target p.terms)
      ((matrices m.modulus).zero (f.object signed.source) (f.object signed.target)))

  pub kept_zero_decided : (keep : Poly → Bool) (ps : List Poly) → AllByRecursion (HasSignature (quiver_of problem.parts.quiver))
      (polynomials ps)
      → IsDecided (AllByRecursion (IsZeroIn problem m) (polynomials (filter keep ps)))
  kept_zero_decided keep [] signed = inl tt
  kept_zero_decided keep (p ∷ ps) signed =
      elim (keep p) as (λ b. IsDecided (AllByRecursion (IsZeroIn problem m) (polynomials (cond b (p ∷ filter keep ps) (filter keep ps))))) [
        | true ↦ both_decided (signed_zero_decided p signed.0) (kept_zero_decided keep ps signed.1)
        | false ↦ kept_zero_decided keep ps signed.1
      ]

-- whether values are as drawn where the flag isn't set
module _ (flags : List Bool) (drawn values : List ℕ) where
  abbrev IsAsDrawnAt : ℕ → Type 0
  IsAsDrawnAt place = get_or flags place false ≡ false → get_or values place 0 ≡ get_or drawn place 0

  place_decided : (place : ℕ) → IsDecided (IsAsDrawnAt place)
  place_decided place = elim (cases_eq (get_or values place 0) (get_or drawn place 0)) [
    | inl same ↦ inl (λ unset. same)
    | inr other ↦ elim (get_or flags place false) as (λ b. IsDecided (b ≡ false → get_or values place 0 ≡ get_or drawn place 0)) [
      | true ↦ inl (λ unset. absurd (false≢true (sym unset)))
      | false ↦ inr (λ is. other (is refl))
    ]
  ]

  as_drawn_decided : IsDecided (IsAsDrawn flags drawn values)
  as_drawn_decided = decided_by (range_of_all IsAsDrawnAt (λ place. place) (length flags))
      (all_of_range IsAsDrawnAt (λ place. place) (length flags))
      (each_decided IsAsDrawnAt place_decided (map (λ place. place) (range_with_len 0 (length flags))))

module _ (problem : Problem) (s : Shape) (drawn : List ℕ) where
  abbrev entry_number : ℕ
  entry_number = length (entries_of (quiver_of problem.parts.quiver) s)

  solution_decided : (values : List ℕ) → IsDecided (IsSolution problem s drawn values)
  solution_decided values =
      let q = quiver_of problem.parts.quiver in
      let maps = problem.parts.solved in
      let flags = solved_flags q s maps in
      let below = each_decided (λ value. value < s.modulus) (λ value. lt_decided value s.modulus) values in
      let zero = kept_zero_decided problem (model_by q s 0 values) (is_linear q maps) problem.generators
      (generators_have_signatures problem.parts problem.posed problem.generators problem.closed) in
      decided_by
      (λ h. record {
        one_each = h.0;
        below = h.1.0;
        as_drawn = drawn_by_entries q s maps drawn values h.1.1.0;
        zero = h.1.1.1;
      })
      (λ solution. (solution.one_each, (solution.below, (drawn_by_flags q s maps drawn values solution.as_drawn, solution.zero))))
      (both_decided (cases_eq (length values) entry_number) (both_decided below (both_decided (as_drawn_decided flags drawn values) zero)))

  -- a greedy solution, or there is none
  solved_or_not : ((values : List ℕ) × IsGreedy problem s drawn values) ⊎ ((values : List ℕ) → IsSolution problem s drawn values → ⊥)
  solved_or_not =
      elim (greedy_or_none (Passes problem s drawn) entry_number (one_for_each problem s drawn) drawn s.modulus
      (λ xs solution. solution.below) solution_decided) [
        | inl found ↦ inl (found.0, from_list problem s drawn found.1)
        | inr none ↦ inr none
      ]

pub each_number_has_a_candidate : (problem : Problem) (number : ℕ) (s : Shape) (seed k : ℕ) → IsShapeOf problem number s
    → (c : Option Model) × IsCandidate problem number s seed k c
each_number_has_a_candidate problem number s seed k numbered =
    let q = quiver_of problem.parts.quiver in
    elim (is_exhaustive q s) as (λ b. is_exhaustive q s ≡ b → (c : Option Model) × IsCandidate problem number s seed k c) [
      | true ↦ λ all. (Some (model_by q s 0 (digits q s k)), IsCandidate.numbered all refl)
      | false ↦ λ other. elim (solved_or_not problem s (draws q s number seed k)) [
        | inl found ↦ (Some (model_by q s 0 found.0), IsCandidate.drawn (ap not other) found.0 found.1 refl)
        | inr none ↦ (None, IsCandidate.unsolvable (ap not other) none refl)
      ]
    ] refl
