-- Rows and equations, pivots that stand for a system, and what they say of its solutions.
use Rattle.matrix_models.proofs.Prelude.{◌≡◌, ◌↔◌, ℕ, ◌+◌, ◌*◌, ◌-◌, ◌%◌, ◌<◌, ◌≤◌, ◌^◌, List, [], ◌∷◌, ◌++◌, length, get_or, take, replicate, Option, None, All, ◌⊎◌, inl, inr, sym, refl, ap, subst, ◌∙◌, arith, cases_lt, none-some, get_or_past, get_or-replicate, length-replicate, length-take-le, get_or_append_left, get_or_push, length_push, take_all, take_more, take-append_seam, All-get_or, All-nil, All-push, All-take, IsFieldModulus, total, total_same, LinearRow, System, IsEquation, Holds, Solves, HasNoSolution, Meets, MeetsAll, ArePivots, IsAdded, IsAgainst, row_of, equation_of, Pivots, AreRows, StandFor, no_equations, with_equations}

-- equations as rows
meets-row_of : (m n : ℕ) (equation : LinearRow) (values : List ℕ) → length equation.factors ≡ n → Holds m values equation ↔ Meets m n (λ k. get_or values k 0) (row_of equation)
meets-row_of m n equation values size = (λ holds. ap (λ x. x % m) sum_is ∙ holds ∙ ap (λ x. x % m) (sym right_is), λ meets. ap (λ x. x % m) (sym sum_is) ∙ meets ∙ ap (λ x. x % m) right_is)
  where
    right_is : get_or (row_of equation) n 0 ≡ equation.right
    right_is = get_or_push equation.factors equation.right 0 n size

    sum_is : total n (λ k. get_or (row_of equation) k 0 * get_or values k 0) ≡ total (length equation.factors) (λ k. get_or equation.factors k 0 * get_or values k 0)
    sum_is =
        total_same n _ _ (λ k l. ap (λ x. x * get_or values k 0) (get_or_append_left equation.factors (equation.right ∷ []) 0 k (omega (arith, size, l))))
        ∙ ap (λ x. total x (λ k. get_or equation.factors k 0 * get_or values k 0)) (sym size)

pub row_of-equation_of : (n : ℕ) (row : List ℕ) → length row ≡ n + 1 → row_of (equation_of row) ≡ row
row_of-equation_of n row size =
    let last : length row - 1 ≡ n = omega (arith, size) in
    ap (λ k. take k row ++ get_or row k 0 ∷ []) last ∙ sym (take_more row n 0 (omega (arith, size))) ∙ take_all (n + 1) row (omega (arith, size))

pub equation_of-row_of : (equation : LinearRow) → equation_of (row_of equation) ≡ equation
equation_of-row_of equation =
    let last : length (row_of equation) - 1 ≡ length equation.factors = omega (arith, length_push equation.factors equation.right) in
    λ i. record {
      factors = (ap (λ k. take k (row_of equation)) last ∙ take-append_seam equation.factors (equation.right ∷ [])) i;
      right = get_or_push equation.factors equation.right 0 (length (row_of equation) - 1) (sym last) i;
    }

-- a row of numbers below the modulus
pub row_is_equation : (m n : ℕ) (row : List ℕ) → length row ≡ n + 1 → All (λ entry. entry < m) row → IsEquation m n (equation_of row)
row_is_equation m n row size below =
    let last : length row - 1 ≡ n = omega (arith, size) in record {
      one_each = length-take-le (length row - 1) row (omega arith) ∙ last;
      factors_below = All-take (λ entry. entry < m) (length row - 1) row below;
      right_below = All-get_or (λ entry. entry < m) row (length row - 1) 0 (omega (arith, size)) below;
    }

-- one equation more
all_before : {X : Type 0} (P : X → Type 0) (xs : List X) (x : X) → All P (xs ++ x ∷ []) → All P xs
all_before P xs x each = λ k d l. subst P (get_or_append_left xs (x ∷ []) d k l) (each k d (omega (arith, length_push xs x, l)))

all_last : {X : Type 0} (P : X → Type 0) (xs : List X) (x : X) → All P (xs ++ x ∷ []) → P x
all_last P xs x each = subst P (get_or_push xs x x (length xs) refl) (each (length xs) x (omega (arith, length_push xs x)))

none_at : (n place : ℕ) → get_or {A = Option (List ℕ)} (replicate n None) place None ≡ None
none_at n place = go (cases_lt place n)
  where
    go : (place < n) ⊎ (n ≤ place) → get_or {A = Option (List ℕ)} (replicate n None) place None ≡ None
    go (inl within) = get_or-replicate n place None None within
    go (inr past) = get_or_past (replicate n None) place None (omega (arith, length-replicate {A = Option (List ℕ)} n None, past))

pub stand_for-none : (m n : ℕ) → IsFieldModulus m → StandFor (record { modulus = m; rows = replicate n None }) (no_equations m n)
stand_for-none m n field = record {
  is_system = record { modulus = field; rows = All-nil (IsEquation m n) };
  modulus = refl;
  size = length-replicate n None;
  are_pivots = λ place row found. absurd (none-some row (sym (none_at n place) ∙ found));
  same = λ w. (λ _. All-nil (λ equation. Meets m n w (row_of equation)), λ _ place row found. absurd (none-some row (sym (none_at n place) ∙ found)));
}

pub are_rows-none : (m n : ℕ) (places wide : List ℕ) → IsFieldModulus m → n < 2 ^ 32 → length places ≡ n → length wide ≡ n + 1
    → AreRows (record { modulus = m; rows = replicate n None }) places wide
are_rows-none m n places wide field few size room = record {
  modulus = field;
  few = omega (arith, few, length-replicate {A = Option (List ℕ)} n None);
  small = λ place row found. absurd (none-some row (sym (none_at n place) ∙ found));
  room = omega (arith, room, length-replicate {A = Option (List ℕ)} n None);
  rows = λ place row found. absurd (none-some row (sym (none_at n place) ∙ found));
  firsts = record {
    size = size ∙ sym (length-replicate n None);
    none_before = λ place row found. absurd (none-some row (sym (none_at n place) ∙ found));
  };
}

pub stand_for-more : (s : System) (equation : LinearRow) (old new : Pivots) → IsEquation s.modulus s.unknowns equation → StandFor old s
    → new.modulus ≡ old.modulus → length new.rows ≡ length old.rows → ArePivots (length old.rows) new.rows
    → IsAdded old.modulus (length old.rows) (row_of equation) old.rows new.rows → StandFor new (with_equations s (equation ∷ []))
stand_for-more s equation old new is_equation stand modulus size are_pivots added = record {
  is_system = record { modulus = stand.is_system.modulus; rows = All-push (IsEquation s.modulus s.unknowns) s.rows equation stand.is_system.rows is_equation };
  modulus = modulus ∙ stand.modulus;
  size = size ∙ stand.size;
  are_pivots = subst (λ x. ArePivots x new.rows) stand.size are_pivots;
  same = λ w.
      let step = subst (λ x. IsAdded s.modulus x (row_of equation) old.rows new.rows) stand.size
      (subst (λ m. IsAdded m (length old.rows) (row_of equation) old.rows new.rows) stand.modulus added) w in
      let Meeting : LinearRow → Type 0 = λ e. Meets s.modulus s.unknowns w (row_of e) in (
        λ all. let both = step.1 all in All-push Meeting s.rows equation ((stand.same w).0 both.0) both.1,
        λ each. step.0 ((stand.same w).1 (all_before Meeting s.rows equation each), all_last Meeting s.rows equation each),
      );
}

-- solutions meet the pivots
pub meets-solution : (s : System) (values : List ℕ) (p : Pivots) → StandFor p s → Solves s values
    → MeetsAll s.modulus s.unknowns (λ k. get_or values k 0) p.rows
meets-solution s values p stand solves = (stand.same (λ k. get_or values k 0)).1 (λ k d l.
    (meets-row_of s.modulus s.unknowns (get_or s.rows k d) values (stand.is_system.rows k d l).one_each).0 (solves.each_holds k d l))

-- an equation that is against them leaves no solution
pub no_solution : (s : System) (equation : LinearRow) (p : Pivots) → IsEquation s.modulus s.unknowns equation → StandFor p s
    → IsAgainst p.modulus (length p.rows) (row_of equation) p.rows → HasNoSolution (with_equations s (equation ∷ []))
no_solution s equation p is_equation stand against values solves =
    subst (λ x. IsAgainst s.modulus x (row_of equation) p.rows) stand.size
    (subst (λ m. IsAgainst m (length p.rows) (row_of equation) p.rows) stand.modulus against)
    (λ k. get_or values k 0)
    (meets-solution s values p stand (record {
      are_values = record { one_each = solves.are_values.one_each; below = solves.are_values.below };
      each_holds = all_before (Holds s.modulus values) s.rows equation solves.each_holds;
    }))
    ((meets-row_of s.modulus s.unknowns equation values is_equation.one_each).0 (all_last (Holds s.modulus values) s.rows equation solves.each_holds))

-- values that meet all pivots hold in all equations
pub holds_from_meets : (s : System) (values : List ℕ) (p : Pivots) → StandFor p s
    → MeetsAll s.modulus s.unknowns (λ k. get_or values k 0) p.rows → All (Holds s.modulus values) s.rows
holds_from_meets s values p stand meets = λ k d l.
    (meets-row_of s.modulus s.unknowns (get_or s.rows k d) values (stand.is_system.rows k d l).one_each).1 ((stand.same (λ k. get_or values k 0)).0 meets k d l)

-- the row of an equation
pub length-row_of : (m n : ℕ) (equation : LinearRow) → IsEquation m n equation → length (row_of equation) ≡ n + 1
length-row_of m n equation is = length_push equation.factors equation.right ∙ ap (λ k. k + 1) is.one_each

pub row_of-below : (m n : ℕ) (equation : LinearRow) → IsEquation m n equation → All (λ entry. entry < m) (row_of equation)
row_of-below m n equation is = All-push (λ entry. entry < m) equation.factors equation.right is.factors_below is.right_below

-- the first equations of a system
abbrev pub front : ℕ → System → System
front i s = record { modulus = s.modulus; unknowns = s.unknowns; rows = take i s.rows }

pub front_more : (s : System) (i : ℕ) (equation : LinearRow) → i < length s.rows → equation ≡ get_or s.rows i equation
    → with_equations (front i s) (equation ∷ []) ≡ front (i + 1) s
front_more s i equation within is =
    ap (λ xs. record { modulus = s.modulus; unknowns = s.unknowns; rows = xs })
    (ap (λ e. take i s.rows ++ e ∷ []) is ∙ sym (take_more s.rows i equation within))

pub no_solution-front : (s : System) (i : ℕ) → HasNoSolution (front i s) → HasNoSolution s
no_solution-front s i none values solves = none values (record {
  are_values = record { one_each = solves.are_values.one_each; below = solves.are_values.below };
  each_holds = All-take (Holds s.modulus values) i s.rows solves.each_holds;
})
