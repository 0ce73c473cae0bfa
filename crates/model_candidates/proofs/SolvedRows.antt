-- Linear assumptions are zero exactly where the values of the entries that are solved for solve their equations.
use Rattle.model_candidates.proofs.Prelude.{◌≡◌, ℕ, ◌+◌, ◌-◌, ◌*◌, ◌/◌, ◌%◌, ◌<◌, Bool, List, [], ◌∷◌, length, get_or, map, refl, sym, ap, subst, ◌∙◌, arith, div-lt_iff_lt-mul, mod-lt, All, AllByRecursion, flat_map, range_with_len, mod-mod, mod-eq_of_lt, mod_self, div-mul-add, mod-mul-add, mul-mod_first, All-append, All-nil, get_or-map-range_with_len, length-map-range_with_len, IsArrow, Quiver, quiver_of, Shape, Problem, Matrix, entry_at, matrices, total, entry_at_below, Holds, total_mod, LinearRow, add_alike, add_cancel, LinearAssumption, SolvedTerm, side_in, equations_of, row_with, solved_terms, terms_factor, IsAssumption, IsZeroAtSignature, terms_of, set_count, solved_flags, unknown_numbers}
use Rattle.model_candidates.proofs.AssumptionTerms.{assumption_paths}
use Rattle.model_candidates.proofs.GivenValues.{AreGiven, model}
use Rattle.model_candidates.proofs.Ranges.{all_back, all_front, all_of_range, range_of_all}
use Rattle.model_candidates.proofs.SolvedEntries.{AreChosen, IsAsDrawn}
use Rattle.model_candidates.proofs.SolvedValues.{value_adds}
use Rattle.model_candidates.proofs.SolvedWords.{few_words}
use Rattle.model_candidates.proofs.ValueRows.{entry_of_zero, value, value_ends, zero_by_entries}

-- A number that is another and a sum modulo m is zero exactly where the sum is what the other lacks.
module _ {m x z : ℕ} (sum : ℕ) (below : x < m) (small : z < m) (adds : x % m ≡ (z + sum) % m) where
  zero_from_sum : sum % m ≡ ((m - z) % m) % m → x ≡ 0
  zero_from_sum is =
      sym (mod-eq_of_lt below) ∙ adds ∙ add_alike m z z sum (m - z) refl (is ∙ mod-mod (m - z) m)
      ∙ ap (λ y. y % m) (omega (arith, small)) ∙ mod_self m

  sum_from_zero : x ≡ 0 → sum % m ≡ ((m - z) % m) % m
  sum_from_zero none =
      add_cancel m sum (m - z) z z (omega (arith, small))
      (ap (λ y. y % m) (omega arith) ∙ sym adds ∙ ap (λ y. y % m) none ∙ mod-eq_of_lt (omega (arith, small)) ∙ sym (mod_self m)
      ∙ ap (λ y. y % m) (omega (arith, small))) refl ∙ sym (mod-mod (m - z) m)

-- the sum of a row whose factors are these modulo m
row_sum : (m n : ℕ) (f : ℕ → ℕ) (chosen : List ℕ)
    → total (length (map (λ k. f k % m) (range_with_len 0 n)))
    (λ k. get_or (map (λ k. f k % m) (range_with_len 0 n)) k 0 * get_or chosen k 0) % m
    ≡ total n (λ k. f k * get_or chosen k 0) % m
row_sum m n f chosen =
    let factors = map (λ k. f k % m) (range_with_len 0 n) in
    ap (λ l. total l (λ k. get_or factors k 0 * get_or chosen k 0) % m) (length-map-range_with_len (λ k. f k % m) 0 n)
    ∙ total_mod m n (λ k. get_or factors k 0 * get_or chosen k 0) (λ k. f k * get_or chosen k 0) (λ k within.
    ap (λ y. (y * get_or chosen k 0) % m) (get_or-map-range_with_len (λ k. f k % m) 0 n k k 0 within (omega arith))
    ∙ mul-mod_first (f k) (get_or chosen k 0) m)

module _ {problem : Problem} {s : Shape} {xs ys : List ℕ} (base : AreGiven problem s xs) (given : AreGiven problem s ys)
    (alike : IsAsDrawn (solved_flags (quiver_of problem.parts.quiver) s problem.parts.solved) xs ys)
    (zeros : AreChosen (solved_flags (quiver_of problem.parts.quiver) s problem.parts.solved) [] xs) (chosen : List ℕ)
    (are : AreChosen (solved_flags (quiver_of problem.parts.quiver) s problem.parts.solved) chosen ys) where
  abbrev q : Quiver
  q = quiver_of problem.parts.quiver

  abbrev flags : List Bool
  flags = solved_flags q s problem.parts.solved

  abbrev m : ℕ
  m = s.modulus

  module _ (g : LinearAssumption) (is : IsAssumption problem 1 g) where
    abbrev start : Matrix
    start = value base g.sig.source.0 g.sig.target.0 is.source is.target (terms_of problem g)

    abbrev reached : Matrix
    reached = value given g.sig.source.0 g.sig.target.0 is.source is.target (terms_of problem g)

    abbrev terms : List SolvedTerm
    terms = solved_terms q s problem.parts.solved (unknown_numbers flags) (model base) g.sig.source.0 (terms_of problem g)

    start_ends : IsArrow (matrices m) (side_in s g.sig.source.0) (side_in s g.sig.target.0) start
    start_ends = value_ends base g.sig.source.0 g.sig.target.0 is.source is.target (terms_of problem g)

    -- the equation of an entry, by the modulus of the value
    abbrev row_by : ℕ → ℕ → ℕ → LinearRow
    row_by k i j = record {
      factors = map (λ l. terms_factor terms i j l % k) (range_with_len 0 (set_count flags));
      right = (k - entry_at start i j) % k;
    }

    module _ {i j : ℕ} (in_rows : i < side_in s g.sig.target.0) (in_columns : j < side_in s g.sig.source.0) where
      entry_below : {zs : List ℕ} (by : AreGiven problem s zs)
          → entry_at (value by g.sig.source.0 g.sig.target.0 is.source is.target (terms_of problem g)) i j < m
      entry_below by =
          let ends = value_ends by g.sig.source.0 g.sig.target.0 is.source is.target (terms_of problem g) in
          entry_at_below m _ i j ends.arrow (subst (λ k. i < k) (sym ends.target) in_rows) (subst (λ k. j < k) (sym ends.source) in_columns)

      adds : entry_at reached i j % m
          ≡ (entry_at start i j + total (set_count flags) (λ k. terms_factor terms i j k * get_or chosen k 0)) % m
      adds = value_adds base given alike zeros chosen are g.sig.source.0 g.sig.target.0 is.source is.target in_rows in_columns
          (terms_of problem g)
          (assumption_paths is) (few_words q problem.parts.solved 1 (terms_of problem g) is.few)

      zero_there : Holds m chosen (row_by start.modulus i j) → entry_at reached i j ≡ 0
      zero_there holds = zero_from_sum _ (entry_below given) (entry_below base) adds
          (sym (row_sum m (set_count flags) (terms_factor terms i j) chosen)
          ∙ subst (λ k. Holds m chosen (row_by k i j)) start_ends.arrow.modulus_is holds)

      holds_there : entry_at reached i j ≡ 0 → Holds m chosen (row_by start.modulus i j)
      holds_there none = subst (λ k. Holds m chosen (row_by k i j)) (sym start_ends.arrow.modulus_is)
          (row_sum m (set_count flags) (terms_factor terms i j) chosen ∙ sum_from_zero _ (entry_below given) (entry_below base) adds none)

    abbrev row : ℕ → LinearRow
    row = row_with (set_count flags) start terms

    one_holds : IsZeroAtSignature problem (model given) g → All (Holds m chosen) (equations_of problem s (model base) g)
    one_holds zero = all_of_range (Holds m chosen) row (start.rows * start.columns) (λ place inside.
        let positive = start_ends.arrow.shape.columns_side.positive in
        let in_rows = subst (λ k. place / start.columns < k) start_ends.target ((div-lt_iff_lt-mul positive).1 inside) in
        let in_columns = subst (λ k. place % start.columns < k) start_ends.source (mod-lt place positive) in
        holds_there in_rows in_columns
        (entry_of_zero given g.sig.source.0 g.sig.target.0 is.source is.target (terms_of problem g) zero in_rows in_columns))

    one_zero : All (Holds m chosen) (equations_of problem s (model base) g) → IsZeroAtSignature problem (model given) g
    one_zero all = zero_by_entries given g.sig.source.0 g.sig.target.0 is.source is.target (terms_of problem g) (λ i j in_rows in_columns.
        let columns = start.columns in
        let in_width : j < columns = subst (λ k. j < k) (sym start_ends.source) in_columns in
        let in_height : i < start.rows = subst (λ k. i < k) (sym start_ends.target) in_rows in
        let inside : i * columns + j < start.rows * columns = grind arith in
        zero_there in_rows in_columns (subst (λ k. Holds m chosen (row_by start.modulus k j)) (div-mul-add i columns j in_width)
        (subst (λ k. Holds m chosen (row_by start.modulus ((i * columns + j) / columns) k)) (mod-mul-add i columns j in_width)
        (range_of_all (Holds m chosen) row (start.rows * columns) all (i * columns + j) inside))))

  -- all of them
  abbrev equations : List LinearAssumption → List LinearRow
  equations gs = flat_map (equations_of problem s (model base)) gs

  pub all_hold : (gs : List LinearAssumption) → AllByRecursion (IsAssumption problem 1) gs
      → AllByRecursion (IsZeroAtSignature problem (model given)) gs → All (Holds m chosen) (equations gs)
  all_hold [] are_linear zero = All-nil (Holds m chosen)
  all_hold (g ∷ gs) are_linear zero = All-append (Holds m chosen) (equations_of problem s (model base) g) (equations gs)
      (one_holds g are_linear.0 zero.0) (all_hold gs are_linear.1 zero.1)

  pub all_zero : (gs : List LinearAssumption) → AllByRecursion (IsAssumption problem 1) gs → All (Holds m chosen) (equations gs)
      → AllByRecursion (IsZeroAtSignature problem (model given)) gs
  all_zero [] are_linear hold = tt
  all_zero (g ∷ gs) are_linear hold = (
    one_zero g are_linear.0 (all_front (Holds m chosen) (equations_of problem s (model base) g) (equations gs) hold),
    all_zero gs are_linear.1 (all_back (Holds m chosen) (equations_of problem s (model base) g) (equations gs) hold),
  )
