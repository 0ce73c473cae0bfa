-- The definitions of systems and of greedy solutions at small examples that were worked out by hand.
use Rattle.matrix_models.proofs.Prelude.{◌≡◌, ℕ, zero, suc, ◌<◌, ◌≤◌, [], ◌∷◌, get_or, refl, arith, zero-mul, All-nil, All-cons, System, LinearRow, Holds, Solves, HasNoSolution, CanTake, IsGreedy}

-- x + y = 3 modulo 7
abbrev sum : LinearRow
sum = record { factors = 1 ∷ 1 ∷ []; right = 3 }

abbrev sum_is_three : System
sum_is_three = record { modulus = 7; unknowns = 2; rows = sum ∷ [] }

three_is_one_and_two : Solves sum_is_three (1 ∷ 2 ∷ [])
three_is_one_and_two = record {
  are_values = record { one_each = refl; below = All-cons (λ v. v < 7) 1 (2 ∷ []) (omega arith) (All-cons (λ v. v < 7) 2 [] (omega arith) (All-nil (λ v. v < 7))) };
  each_holds = All-cons (Holds 7 (1 ∷ 2 ∷ [])) sum [] refl (All-nil (Holds 7 (1 ∷ 2 ∷ [])));
}

-- with 1 and 5 preferred: 5 can't be had beside 1
first_is_preferred : IsGreedy sum_is_three (1 ∷ 5 ∷ []) (1 ∷ 2 ∷ [])
first_is_preferred = record { solves = three_is_one_and_two; preferred = preferred; least = least }
  where
    preferred : (place : ℕ) → place < 2 → CanTake sum_is_three (1 ∷ 2 ∷ []) place (get_or (1 ∷ 5 ∷ []) place 0) → ◌≡◌ {A = ℕ} (get_or (1 ∷ 2 ∷ []) place 0) (get_or (1 ∷ 5 ∷ []) place 0)
    preferred zero within can = refl
    preferred (suc zero) within can = let holds : Holds 7 (1 ∷ 5 ∷ can.rest) sum = can.solves.each_holds 0 sum (omega arith) in absurd (omega (arith, holds))
    preferred (suc (suc n)) within can = absurd (omega arith)

    least : (place value : ℕ) → place < 2 → (CanTake sum_is_three (1 ∷ 2 ∷ []) place (get_or (1 ∷ 5 ∷ []) place 0) → ⊥) → CanTake sum_is_three (1 ∷ 2 ∷ []) place value
        → get_or (1 ∷ 2 ∷ []) place 0 ≤ value
    least zero value within cannot can = absurd (cannot (record { rest = 2 ∷ []; solves = three_is_one_and_two }))
    least (suc zero) value within cannot can = let holds : Holds 7 (1 ∷ value ∷ can.rest) sum = can.solves.each_holds 0 sum (omega arith) in omega (arith, holds)
    least (suc (suc n)) value within cannot can = absurd (omega arith)

-- 2 x = 4 modulo 5, with 0 preferred
abbrev double : LinearRow
double = record { factors = 2 ∷ []; right = 4 }

abbrev double_is_four : System
double_is_four = record { modulus = 5; unknowns = 1; rows = double ∷ [] }

four_is_twice_two : Solves double_is_four (2 ∷ [])
four_is_twice_two = record {
  are_values = record { one_each = refl; below = All-cons (λ v. v < 5) 2 [] (omega arith) (All-nil (λ v. v < 5)) };
  each_holds = All-cons (Holds 5 (2 ∷ [])) double [] refl (All-nil (Holds 5 (2 ∷ [])));
}

only_one : IsGreedy double_is_four (0 ∷ []) (2 ∷ [])
only_one = record { solves = four_is_twice_two; preferred = preferred; least = least }
  where
    preferred : (place : ℕ) → place < 1 → CanTake double_is_four (2 ∷ []) place (get_or (0 ∷ []) place 0) → ◌≡◌ {A = ℕ} (get_or (2 ∷ []) place 0) (get_or (0 ∷ []) place 0)
    preferred zero within can = let holds : Holds 5 (0 ∷ can.rest) double = can.solves.each_holds 0 double (omega arith) in absurd (omega (arith, holds))
    preferred (suc n) within can = absurd (omega arith)

    least : (place value : ℕ) → place < 1 → (CanTake double_is_four (2 ∷ []) place (get_or (0 ∷ []) place 0) → ⊥) → CanTake double_is_four (2 ∷ []) place value
        → get_or (2 ∷ []) place 0 ≤ value
    least zero value within cannot can = let holds : Holds 5 (value ∷ can.rest) double = can.solves.each_holds 0 double (omega arith) in omega (arith, holds)
    least (suc n) value within cannot can = absurd (omega arith)

-- two unknowns and no equation, modulo 2
abbrev no_equation : System
no_equation = record { modulus = 2; unknowns = 2; rows = [] }

all_solves : Solves no_equation (1 ∷ 0 ∷ [])
all_solves = record {
  are_values = record { one_each = refl; below = All-cons (λ v. v < 2) 1 (0 ∷ []) (omega arith) (All-cons (λ v. v < 2) 0 [] (omega arith) (All-nil (λ v. v < 2))) };
  each_holds = All-nil (Holds 2 (1 ∷ 0 ∷ []));
}

all_preferred : IsGreedy no_equation (1 ∷ 0 ∷ []) (1 ∷ 0 ∷ [])
all_preferred = record { solves = all_solves; preferred = λ place within can. refl; least = least }
  where
    least : (place value : ℕ) → place < 2 → (CanTake no_equation (1 ∷ 0 ∷ []) place (get_or (1 ∷ 0 ∷ []) place 0) → ⊥) → CanTake no_equation (1 ∷ 0 ∷ []) place value
        → get_or (1 ∷ 0 ∷ []) place 0 ≤ value
    least zero value within cannot can = absurd (cannot (record { rest = 0 ∷ []; solves = all_solves }))
    least (suc zero) value within cannot can = omega arith
    least (suc (suc n)) value within cannot can = absurd (omega arith)

-- 0 x = 1 modulo 7
abbrev nothing : LinearRow
nothing = record { factors = 0 ∷ []; right = 1 }

abbrev zero_is_one : System
zero_is_one = record { modulus = 7; unknowns = 1; rows = nothing ∷ [] }

unsolvable : HasNoSolution zero_is_one
unsolvable values solves = let holds : Holds 7 values nothing = solves.each_holds 0 nothing (omega arith) in absurd (omega (arith, holds, zero-mul (get_or values 0 0)))
