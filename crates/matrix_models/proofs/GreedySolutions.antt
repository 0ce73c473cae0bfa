-- What is left by pivots is a greedy solution.
use Rattle.matrix_models.proofs.Prelude.{◌≡◌, ℕ, ◌+◌, ◌*◌, ◌%◌, ◌<◌, ◌≤◌, List, [], ◌∷◌, ◌++◌, length, get_or, take, drop, Option, Some, None, sym, refl, ap, ap₂, subst, ◌∙◌, arith, get_or_at, get_or_append_left, get_or-take, length-take-le, take_more, take-append-drop, append_assoc, All-get_or, mod-eq_of_lt, total, total_same, System, Solves, CanTake, IsGreedy, MeetsAll, ArePivots, Pivots, StandFor}
use Rattle.matrix_models.proofs.Congruences.{add_cancel}
use Rattle.matrix_models.proofs.Primes.{field_positive}
use Rattle.matrix_models.proofs.BackSolving.{IsSolvedTo, pivot_sum, meets-solved}
use Rattle.matrix_models.proofs.Reduction.{meets-solution, holds_from_meets}

-- a solution shows that each unknown can take its value in it
pub can_take_own : (s : System) (values : List ℕ) (place : ℕ) → place < s.unknowns → Solves s values → CanTake s values place (get_or values place 0)
can_take_own s values place within solves = record {
  rest = drop (place + 1) values;
  solves = subst (Solves s) (sym (ap (λ x. x ++ drop (place + 1) values) (sym (take_more values place 0 (omega (arith, solves.are_values.one_each, within)))) ∙ take-append-drop (place + 1) values)) solves;
}

-- a value that can be taken is the one that the pivot asks for
taken_is : (s : System) (pivots : List (Option (List ℕ))) (prefer values row : List ℕ) (place value : ℕ) → 0 < s.modulus → ArePivots s.unknowns pivots
    → IsSolvedTo s.modulus s.unknowns s.unknowns pivots prefer values
    → ((others : List ℕ) → Solves s others → MeetsAll s.modulus s.unknowns (λ k. get_or others k 0) pivots)
    → place < s.unknowns → get_or pivots place None ≡ Some row → CanTake s values place value → value ≡ get_or values place 0
taken_is s pivots prefer values row place value positive are_pivots solved meets within found can =
    sym (mod-eq_of_lt small) ∙ add_cancel s.modulus value (get_or values place 0) before before positive sums refl ∙ mod-eq_of_lt (All-get_or (λ x. x < s.modulus) values place 0 (omega (arith, solved.size, within)) solved.below)
  where
    others : List ℕ
    others = take place values ++ value ∷ [] ++ can.rest

    front_size : length (take place values) ≡ place
    front_size = length-take-le place values (omega (arith, solved.size, within))

    as_written : others ≡ take place values ++ (value ∷ can.rest)
    as_written = append_assoc (take place values) (value ∷ []) can.rest

    same_before : (k : ℕ) → k < place → get_or others k 0 ≡ get_or values k 0
    same_before k l = ap (λ x. get_or x k 0) as_written ∙ get_or_append_left (take place values) (value ∷ can.rest) 0 k (omega (arith, front_size, l)) ∙ get_or-take place values k 0 l

    here : get_or others place 0 ≡ value
    here = ap (λ x. get_or x place 0) as_written ∙ get_or_at (take place values) value can.rest 0 place front_size

    small : value < s.modulus
    small = subst (λ x. x < s.modulus) here (All-get_or (λ x. x < s.modulus) others place 0 (omega (arith, can.solves.are_values.one_each, within)) can.solves.are_values.below)

    before : ℕ
    before = total place (λ k. get_or row k 0 * get_or values k 0)

    other_sum : total s.unknowns (λ k. get_or row k 0 * get_or others k 0) ≡ before + value
    other_sum = pivot_sum s.unknowns place (λ k. get_or others k 0) row within (are_pivots place row found)
        ∙ ap₂ ◌+◌ (total_same place _ _ (λ k l. ap (λ x. get_or row k 0 * x) (same_before k l))) here

    sums : (value + before) % s.modulus ≡ (get_or values place 0 + before) % s.modulus
    sums =
        let turned : value + before ≡ before + value = omega arith in
        let turned_back : before + get_or values place 0 ≡ get_or values place 0 + before = omega arith in
        ap (λ x. x % s.modulus) (turned ∙ sym other_sum) ∙ meets others can.solves place row found
        ∙ sym (solved.fixed place row within found) ∙ ap (λ x. x % s.modulus) turned_back

pub greedy-solved : (s : System) (pivots : List (Option (List ℕ))) (prefer values : List ℕ) → 0 < s.modulus → ArePivots s.unknowns pivots
    → IsSolvedTo s.modulus s.unknowns s.unknowns pivots prefer values
    → ((others : List ℕ) → Solves s others → MeetsAll s.modulus s.unknowns (λ k. get_or others k 0) pivots)
    → Solves s values → IsGreedy s prefer values
greedy-solved s pivots prefer values positive are_pivots solved meets solves = record {
  solves = solves;
  preferred = λ place within can. preferred_at place within can (get_or pivots place None) refl;
  least = λ place value within cannot can. least_at place value within cannot can (get_or pivots place None) refl;
}
  where
    preferred_at : (place : ℕ) → place < s.unknowns → CanTake s values place (get_or prefer place 0) → (pivot : Option (List ℕ)) → get_or pivots place None ≡ pivot
        → get_or values place 0 ≡ get_or prefer place 0
    preferred_at place within can None none = solved.free place within none
    preferred_at place within can (Some row) found = sym (taken_is s pivots prefer values row place (get_or prefer place 0) positive are_pivots solved meets within found can)

    least_at : (place value : ℕ) → place < s.unknowns → (CanTake s values place (get_or prefer place 0) → ⊥) → CanTake s values place value
        → (pivot : Option (List ℕ)) → get_or pivots place None ≡ pivot → get_or values place 0 ≤ value
    least_at place value within cannot can None none =
        absurd (cannot (subst (CanTake s values place) (solved.free place within none) (can_take_own s values place within solves)))
    least_at place value within cannot can (Some row) found =
        let same = taken_is s pivots prefer values row place value positive are_pivots solved meets within found can in omega (arith, same)

-- the values that the pivots of all equations leave
pub greedy-left : (s : System) (p : Pivots) (prefer values : List ℕ) → StandFor p s
    → IsSolvedTo p.modulus (length p.rows) (length p.rows) p.rows prefer values → IsGreedy s prefer values
greedy-left s p prefer values stand so_far =
    greedy-solved s p.rows prefer values (field_positive s.modulus stand.is_system.modulus) stand.are_pivots solved
    (λ others. meets-solution s others p stand) (record {
      are_values = record { one_each = solved.size; below = solved.below };
      each_holds = holds_from_meets s values p stand (meets-solved s.modulus s.unknowns p.rows prefer values stand.are_pivots stand.size solved);
    })
  where
    solved : IsSolvedTo s.modulus s.unknowns s.unknowns p.rows prefer values
    solved = subst (λ n. IsSolvedTo s.modulus n n p.rows prefer values) stand.size
        (subst (λ m. IsSolvedTo m (length p.rows) (length p.rows) p.rows prefer values) stand.modulus so_far)
