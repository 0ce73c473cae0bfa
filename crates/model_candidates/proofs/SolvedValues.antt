-- What the entries that are solved for add to the value of a polynomial with one of their letters at most in each word.
use Rattle.model_candidates.proofs.Prelude.{◌≡◌, ℕ, zero, suc, ◌+◌, ◌*◌, ◌/◌, ◌%◌, ◌<◌, ◌≤◌, ℤ, Bool, true, false, cond, eqb, List, [], ◌∷◌, ◌++◌, get_or, take, drop, Option, Some, None, option_map, inl, inr, refl, sym, ap, ap₂, subst, ◌∙◌, arith, mul_comm, add-mul, mul-zero, zero-mul, AllByRecursion, position, sum_by, mod-mod, mod-eq_of_lt, mod-add-mod, cases_lt, div-mul-add, mod-mul-add, mul-mod_second, All-get_or, get_or-map-range_with_len, sum_by-append, sum_by-cons, Quiver, letters, source, target, leads, is_path, step, quiver_of, Letter, Shape, Problem, entry_at, matrix_product, total, same_matrix, matrices_laws, total_add, total_mul, total_pick, total_same, total_swap, total_zero, add_alike, arrow_of, arrow_of-identity, SolvedTerm, is_solved, side_in, solved_count, residue, listed, solved_term, solved_terms, place_factor, term_factor, terms_factor, FitsTerm, letter_value, number_at, solved_flags, set_count, unknown_numbers}
use Rattle.model_candidates.proofs.FactorRows.{total_split}
use Rattle.model_candidates.proofs.GivenValues.{AreGiven, f, model, positive, product, product_ends, quiver, represented, solved_maps, term}
use Rattle.model_candidates.proofs.LetterEntries.{flag_inside, flag_is, has_solved_map, no_solved_map, number_is, stands}
use Rattle.model_candidates.proofs.ProductEntries.{entry_sum, triple_entry}
use Rattle.model_candidates.proofs.SolvedEntries.{AreChosen, IsAsDrawn}
use Rattle.model_candidates.proofs.SolvedTerms.{around, solved_at, term_fits}
use Rattle.model_candidates.proofs.SolvedWords.{HasFew, kept_around, none_first, none_found}
use Rattle.model_candidates.proofs.ValueRows.{value, value_entry}
use Rattle.model_candidates.proofs.WordProducts.{leads_of_path, product-append}

-- sums over rows and columns
total_places : (rows columns : ℕ) (g : ℕ → ℕ → ℕ) → total (rows * columns) (λ place. g (place / columns) (place % columns))
    ≡ total rows (λ i. total columns (g i))
total_places zero columns g =
    let none : 0 * columns ≡ 0 = omega arith in
    ap (λ n. total n (λ place. g (place / columns) (place % columns))) none
total_places (suc rows) columns g =
    let more : suc rows * columns ≡ rows * columns + columns = grind arith in
    ap (λ n. total n (λ place. g (place / columns) (place % columns))) more
    ∙ total_split (rows * columns) columns (λ place. g (place / columns) (place % columns))
    ∙ ap₂ ◌+◌ (total_places rows columns g) (total_same columns _ (g rows) (λ k inside.
    ap₂ g (div-mul-add rows columns k inside) (mod-mul-add rows columns k inside)))

-- The values of the unknowns, times what stands before and behind each of them in the term.
module _ {m n : ℕ} {t : SolvedTerm} (fits : FitsTerm m n t) (chosen : List ℕ) (i j : ℕ) where
  abbrev beside : ℕ → ℕ
  beside place = entry_at t.left i (place / t.right.rows) * entry_at t.right (place % t.right.rows) j

  abbrev pub chosen_sum : ℕ
  chosen_sum = total (t.left.columns * t.right.rows) (λ place. get_or chosen (get_or t.numbers place 0) 0 * beside place)

  by_unknowns : chosen_sum ≡ total n (λ k. get_or chosen k 0 * total (t.left.columns * t.right.rows) (place_factor t i j k))
  by_unknowns =
      let is : ℕ → ℕ → ℕ = λ k place. cond (eqb (get_or t.numbers place 0) k) 1 0 in
      total_same (t.left.columns * t.right.rows) _ (λ place. total n (λ k. get_or chosen k 0 * is k place) * beside place) (λ place inside.
      let number = get_or t.numbers place 0 in
      let small : number < n = All-get_or (λ x. x < n) t.numbers place 0 (subst (λ x. place < x) (sym fits.one_each) inside) fits.below in
      ap (λ x. x * beside place) (sym (total_pick n number (λ k. get_or chosen k 0) small)
      ∙ total_same n _ _ (λ k within. mul_comm (is k place) (get_or chosen k 0))))
      ∙ total_swap (t.left.columns * t.right.rows) n (λ k. get_or chosen k 0) beside is

  pub term_by_unknowns : t.coefficient * chosen_sum ≡ total n (λ k. term_factor t i j k * get_or chosen k 0)
  term_by_unknowns =
      let sum : ℕ → ℕ = λ k. total (t.left.columns * t.right.rows) (place_factor t i j k) in
      ap (λ x. t.coefficient * x) by_unknowns ∙ total_mul n t.coefficient (λ k. get_or chosen k 0 * sum k)
      ∙ total_same n _ _ (λ k within. grind arith)

module _ {problem : Problem} {s : Shape} {xs : List ℕ} (base : AreGiven problem s xs) where
  abbrev q : Quiver
  q = quiver_of problem.parts.quiver

  abbrev m : ℕ
  m = s.modulus

  abbrev solved : List Letter
  solved = problem.parts.solved

  abbrev flags : List Bool
  flags = solved_flags q s solved

  abbrev n : ℕ
  n = set_count flags

  -- values that are the same at the entries that aren't solved for
  module _ {ys : List ℕ} (given : AreGiven problem s ys) (alike : IsAsDrawn flags xs ys) where
    -- a letter that isn't solved for has the same matrix
    arrow_same : {a : ℕ} → a < letters q → is_solved q solved a ≡ false → arrow_of q (model given) a ≡ arrow_of q (model base) a
    arrow_same {a} letter unsolved = elim (cases_lt a q.objects) [
      | inl identity ↦ arrow_of-identity q (model given) a identity ∙ sym (arrow_of-identity q (model base) a identity)
      | inr map ↦
          let one = (represented given).arrows a letter in
          let other = (represented base).arrows a letter in
          same_matrix m (arrow_of q (model given) a) (arrow_of q (model base) a) one.arrow other.arrow (one.target ∙ sym other.target)
          (one.source ∙ sym other.source) (λ i j in_rows in_columns.
          let at = stands (quiver base) base.shape letter map (subst (λ x. i < x) one.target in_rows)
          (subst (λ x. j < x) one.source in_columns) in
          at.entry_is ys ∙ alike at.place (flag_inside solved at)
          (flag_is solved at (no_solved_map (quiver base) solved (solved_maps problem) letter unsolved)) ∙ sym (at.entry_is xs))
    ]

    pub product_same : (u v : ℕ) (w : List ℕ) → leads q u v w ≡ true → solved_count q solved w ≡ 0 → product given u w ≡ product base u w
    product_same u v [] path none = refl
    product_same u v (a ∷ w) path none =
        let first = step q u v a w path in
        let rest = none_first (is_solved q solved) a w none in
        ap₂ (matrix_product m) (arrow_same first.letter rest.0) (product_same u (source q a) w first.rest rest.1)

    -- terms with no solved letter add the same
    pub terms_same : (u v i j : ℕ) (p : List (ℤ × List ℕ)) → AllByRecursion (λ t. is_path q u v t.1 ≡ true) p → HasFew q solved 0 p
        → sum_by (term given u i j) p ≡ sum_by (term base u i j) p
    terms_same u v i j [] paths few = refl
    terms_same u v i j (t ∷ p) paths few =
        let same = product_same u v t.1 (leads_of_path q u v t.1 paths.0) (omega (arith, few.0)) in
        sum_by-cons (term given u i j) t p
        ∙ ap₂ ◌+◌ (ap (λ y. residue m t.0 * entry_at y i j) same) (terms_same u v i j p paths.1 few.1)
        ∙ sym (sum_by-cons (term base u i j) t p)

    -- with these values at the entries that are solved for
    module _ (chosen : List ℕ) (are : AreChosen flags chosen ys) (u v : ℕ) (in_u : u < q.objects) {i j : ℕ} (in_rows : i < side_in s v)
        (in_columns : j < side_in s u) where
      letter_entry : {a : ℕ} → a < letters q → is_solved q solved a ≡ true → {k l : ℕ} → k < side_in s (target q a)
          → l < side_in s (source q a)
          → entry_at (arrow_of q (model given) a) k l ≡ get_or chosen (number_at q s solved a k l) 0
      letter_entry letter is in_k in_l =
          let has = has_solved_map (quiver base) solved (solved_maps problem) letter is in
          let at = stands (quiver base) base.shape letter has.map in_k in_l in
          let set = flag_is solved at has.is_solved in
          at.entry_is ys ∙ are at.place (flag_inside solved at) set ∙ ap (λ k. get_or chosen k 0) (sym (number_is solved at set))

      module _ (t : ℤ × List ℕ) {place : ℕ} (path : is_path q u v t.1 ≡ true) (found : position (is_solved q solved) t.1 ≡ Some place)
          (few : solved_count q solved t.1 ≤ 1) where
        abbrev made : SolvedTerm
        made = around base u v in_u t place

        -- the product is a sum over the entries of the solved letter
        pub word_entry : entry_at (product given u t.1) i j ≡ chosen_sum (term_fits base u v in_u t path found).fits chosen i j % m
        word_entry =
            let at = solved_at q solved u v t.1 path found in
            let x = get_or t.1 place 0 in
            let l = take place t.1 in
            let r = drop (place + 1) t.1 in
            let counts = sym (kept_around (is_solved q solved) l r at.there) ∙ ap (solved_count q solved) at.whole in
            let in_target = (quiver base).target_is_object x at.fit.letter in
            let left = product_ends base v l in_target at.fit.before in
            let right = product_ends base (source q x) r in_u at.fit.behind in
            let left_is = product_same (target q x) v l at.fit.before (omega (arith, counts, few)) in
            let right_is = product_same u (source q x) r at.fit.behind (omega (arith, counts, few)) in
            let between = (represented given).arrows x at.fit.letter in
            let letter = arrow_of q (model given) x in
            let rows = side_in s (target q x) in
            let columns = side_in s (source q x) in
            let one : ℕ → ℕ → ℕ = λ k l. get_or chosen (number_at q s solved x k l) 0 * (entry_at made.left i k * entry_at made.right l j)
            in
            let sum : entry_sum m made.left letter made.right i j ≡ total rows (λ k. total columns (one k)) =
            ap₂ (λ a b. total a (λ k. total b (λ l. entry_at made.left i k * (entry_at letter k l * entry_at made.right l j))))
            between.target between.source
            ∙ total_same rows _ _ (λ k in_k. total_same columns _ _ (λ l in_l.
            ap (λ y. entry_at made.left i k * (y * entry_at made.right l j)) (letter_entry at.fit.letter at.there in_k in_l) ∙ grind arith))
            in
            let places : total (rows * columns) (λ p. one (p / columns) (p % columns)) ≡ chosen_sum
            (term_fits base u v in_u t path found).fits chosen i j =
            total_same (rows * columns) _ _ (λ p inside.
            ap (λ y. get_or chosen y 0 * (entry_at made.left i (p / columns) * entry_at made.right (p % columns) j))
            (sym (get_or-map-range_with_len (λ y. letter_value q s (unknown_numbers flags) x (y / columns) (y % columns)) 0 (rows * columns)
            p p 0 inside
            (omega arith))))
            ∙ ap₂ (λ a b. total (a * b) (λ p. get_or chosen (get_or made.numbers p 0)
            0 * (entry_at made.left i (p / b) * entry_at made.right (p % b) j)))
            (sym left.source) (sym right.target) in
            ap (λ w. entry_at (product given u w) i j) (sym at.whole)
            ∙ ap (λ y. entry_at y i j) (product-append (matrices_laws m) q (f given) (represented given) v l (x ∷ r) in_u in_target
            at.fit.before at.fit.whole)
            ∙ triple_entry m (product given (target q x) l) letter (product given u r) i j
            ((product_ends given v l in_target at.fit.before).source ∙ sym between.target)
            (subst (λ y. i < y) (sym (product_ends given v l in_target at.fit.before).target) in_rows)
            (subst (λ y. j < y) (sym (product_ends given (source q x) r in_u at.fit.behind).source) in_columns)
            ∙ ap₂ (λ y z. entry_sum m y letter z i j % m) left_is right_is
            ∙ ap (λ y. y % m) (sum ∙ sym (total_places rows columns one) ∙ places)

        -- and so is what the term adds
        pub term_adds : term given u i j t % m ≡ total n (λ k. term_factor made i j k * get_or chosen k 0) % m
        term_adds =
            let fits = (term_fits base u v in_u t path found).fits in
            ap (λ y. (residue m t.0 * y) % m) word_entry ∙ mul-mod_second (residue m t.0) (chosen_sum fits chosen i j) m
            ∙ ap (λ y. y % m) (term_by_unknowns fits chosen i j)

  -- where the entries that are solved for are 0, a term with one of their letters adds nothing
  pub nothing_added : AreChosen flags [] xs → (u v : ℕ) → u < q.objects → {i j : ℕ} → i < side_in s v → j < side_in s u
      → (t : ℤ × List ℕ) {place : ℕ}
      → is_path q u v t.1 ≡ true → position (is_solved q solved) t.1 ≡ Some place → solved_count q solved t.1 ≤ 1 → term base u i j t ≡ 0
  nothing_added zeros u v in_u {i} {j} in_rows in_columns t path found few =
      let made = (term_fits base u v in_u t path found).fits in
      let none : chosen_sum made [] i j ≡ 0 = total_zero _ _ (λ place inside. zero-mul (beside made [] i j place)) in
      ap (λ y. residue m t.0 * y) (word_entry base (λ place inside unset. refl) [] zeros u v in_u in_rows in_columns t path found few
      ∙ ap (λ y. y % m) none ∙ mod-eq_of_lt (positive base)) ∙ mul-zero (residue m t.0)

  -- the value is that where they are 0, and what these values add
  module _ {ys : List ℕ} (given : AreGiven problem s ys) (alike : IsAsDrawn flags xs ys) (zeros : AreChosen flags [] xs) (chosen : List ℕ)
      (are : AreChosen flags chosen ys) (u v : ℕ) (in_u : u < q.objects) (in_v : v < q.objects) {i j : ℕ}
      (in_rows : i < side_in s v) (in_columns : j < side_in s u) where
    abbrev terms_of : List (ℤ × List ℕ) → List SolvedTerm
    terms_of p = solved_terms q s solved (unknown_numbers flags) (model base) u p

    abbrev sum_of : List SolvedTerm → ℕ
    sum_of ts = total n (λ k. terms_factor ts i j k * get_or chosen k 0)

    one_term : (t : ℤ × List ℕ) → is_path q u v t.1 ≡ true → solved_count q solved t.1 ≤ 1 → (o : Option ℕ)
        → position (is_solved q solved) t.1 ≡ o
        → term given u i j t % m ≡ (term base u i j t + sum_of (listed (option_map (around base u v in_u t) o))) % m
    one_term t path few None none =
        let nothing : sum_of [] ≡ 0 = total_zero n _ (λ k within. zero-mul (get_or chosen k 0)) in
        ap (λ y. (residue m t.0 * entry_at y i j) % m)
        (product_same given alike u v t.1 (leads_of_path q u v t.1 path) (none_found (is_solved q solved) t.1 none))
        ∙ ap (λ y. y % m) (omega (arith, nothing))
    one_term t path few (Some place) found =
        let made = around base u v in_u t place in
        let nothing = nothing_added zeros u v in_u in_rows in_columns t path found few in
        let alone : total n (λ k. term_factor made i j k * get_or chosen k 0) ≡ sum_of (made ∷ []) =
        total_same n _ _ (λ k within. ap (λ y. y * get_or chosen k 0) (omega (arith, sum_by-cons (λ y. term_factor y i j k) made []))) in
        term_adds given alike chosen are u v in_u in_rows in_columns t path found few ∙ ap (λ y. y % m) (omega (arith, nothing, alone))

    terms_add : (p : List (ℤ × List ℕ)) → AllByRecursion (λ t. is_path q u v t.1 ≡ true) p → HasFew q solved 1 p
        → sum_by (term given u i j) p % m ≡ (sum_by (term base u i j) p + sum_of (terms_of p)) % m
    terms_add [] paths few =
        let nothing : sum_of [] ≡ 0 = total_zero n _ (λ k within. zero-mul (get_or chosen k 0)) in
        ap (λ y. y % m) (omega (arith, nothing))
    terms_add (t ∷ p) paths few =
        let ts = listed (solved_term q s solved (unknown_numbers flags) (model base) u t) in
        let both : sum_of ts + sum_of (terms_of p) ≡ sum_of (ts ++ terms_of p) =
        total_add n _ _ ∙ total_same n _ _ (λ k within.
        sym (ap (λ y. y * get_or chosen k 0) (sum_by-append (λ y. term_factor y i j k) ts (terms_of p))
        ∙ add-mul (terms_factor ts i j k) (terms_factor (terms_of p) i j k) (get_or chosen k 0))) in
        ap (λ y. y % m) (sum_by-cons (term given u i j) t p)
        ∙ add_alike m (term given u i j t) (term base u i j t + sum_of ts) (sum_by (term given u i j) p)
        (sum_by (term base u i j) p + sum_of (terms_of p))
        (one_term t paths.0 few.0 (position (is_solved q solved) t.1) refl) (terms_add p paths.1 few.1)
        ∙ ap (λ y. y % m) (omega (arith, both, sum_by-cons (term base u i j) t p))

    pub value_adds : (p : List (ℤ × List ℕ)) → AllByRecursion (λ t. is_path q u v t.1 ≡ true) p → HasFew q solved 1 p
        → entry_at (value given u v in_u in_v p) i j % m ≡ (entry_at (value base u v in_u in_v p) i j + sum_of (terms_of p)) % m
    value_adds p paths few =
        ap (λ y. y % m) (value_entry given u v in_u in_v i j in_rows in_columns p paths) ∙ mod-mod (sum_by (term given u i j) p) m
        ∙ terms_add p paths few ∙ sym (mod-add-mod (sum_by (term base u i j) p) m (sum_of (terms_of p)))
        ∙ ap (λ y. (y + sum_of (terms_of p)) % m) (sym (value_entry base u v in_u in_v i j in_rows in_columns p paths))
