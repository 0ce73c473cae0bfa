-- The definitions of blocks at small examples that were worked out by hand.
use Rattle.matrix_models.proofs.Prelude.{◌≡◌, ℕ, zero, suc, ◌<◌, [], ◌∷◌, List, Contains, All, ◌⊎◌, inl, inr, refl, arith, eqb-true, All-nil, All-cons, All-contains, System, LinearRow, IsWithin, IsOutside, IsPart, numbered, AreParts, joined}

-- each unknown is a block
abbrev own_block : ℕ → ℕ
own_block place = place

-- x = 3 and 2 y = 4, modulo 7
abbrev first_row : LinearRow
first_row = record { factors = 1 ∷ 0 ∷ []; right = 3 }

abbrev second_row : LinearRow
second_row = record { factors = 0 ∷ 2 ∷ []; right = 4 }

abbrev both : System
both = record { modulus = 7; unknowns = 2; rows = first_row ∷ second_row ∷ [] }

abbrev each : ℕ → System
each zero = record { modulus = 7; unknowns = 2; rows = first_row ∷ [] }
each (suc n) = record { modulus = 7; unknowns = 2; rows = second_row ∷ [] }

first_has_x_alone : IsWithin (numbered own_block 0) first_row
first_has_x_alone zero other = absurd (cc)
first_has_x_alone (suc zero) other = refl
first_has_x_alone (suc (suc n)) other = refl

second_has_no_x : IsOutside (numbered own_block 0) second_row
second_has_no_x zero inside = refl
second_has_no_x (suc n) inside = absurd (omega (arith, eqb-true (suc n) 0 inside))

second_has_y_alone : IsWithin (numbered own_block 1) second_row
second_has_y_alone zero other = refl
second_has_y_alone (suc zero) other = absurd (cc)
second_has_y_alone (suc (suc n)) other = refl

first_has_no_y : IsOutside (numbered own_block 1) first_row
first_has_no_y zero inside = absurd (cc)
first_has_no_y (suc zero) inside = refl
first_has_no_y (suc (suc n)) inside = absurd (omega (arith, eqb-true (suc (suc n)) 1 inside))

of_one : (P : LinearRow → Type 0) (row : LinearRow) → P row → All P (row ∷ [])
of_one P row holds = All-cons P row [] holds (All-nil P)

of_both : (P : LinearRow → Type 0) → P first_row → P second_row → All P both.rows
of_both P first second = All-cons P first_row (second_row ∷ []) first (of_one P second_row second)

apart : AreParts own_block 2 both each
apart = record {
  each_part = each_part;
  each_unknown = λ place within. within;
  each_row = of_both (λ row. (number : ℕ) × (number < 2) × Contains (each number).rows row)
      (0, omega arith, (0, omega arith, refl)) (1, omega arith, (0, omega arith, refl));
}
  where
    each_part : (number : ℕ) → number < 2 → IsPart (numbered own_block number) both (each number)
    each_part zero below = record {
      same_modulus = refl;
      same_unknowns = refl;
      from_system = of_one (Contains both.rows) first_row (0, omega arith, refl);
      within_block = of_one (IsWithin (numbered own_block 0)) first_row first_has_x_alone;
      others_outside = of_both (λ row. Contains (each 0).rows row ⊎ IsOutside (numbered own_block 0) row)
          (inl (0, omega arith, refl)) (inr second_has_no_x);
    }
    each_part (suc zero) below = record {
      same_modulus = refl;
      same_unknowns = refl;
      from_system = of_one (Contains both.rows) second_row (1, omega arith, refl);
      within_block = of_one (IsWithin (numbered own_block 1)) second_row second_has_y_alone;
      others_outside = of_both (λ row. Contains (each 1).rows row ⊎ IsOutside (numbered own_block 1) row)
          (inr first_has_no_y) (inl (0, omega arith, refl));
    }
    each_part (suc (suc n)) below = absurd (omega arith)

-- 3 of the one, and 2 of the other
abbrev lists : ℕ → List ℕ
lists zero = 3 ∷ 0 ∷ []
lists (suc n) = 6 ∷ 2 ∷ []

three_and_two : joined own_block 2 lists ≡ 3 ∷ 2 ∷ []
three_and_two = refl

-- x + y = 3 modulo 7 has no part for x alone
abbrev sum : LinearRow
sum = record { factors = 1 ∷ 1 ∷ []; right = 3 }

abbrev shared : System
shared = record { modulus = 7; unknowns = 2; rows = sum ∷ [] }

no_part : (part : System) → IsPart (numbered own_block 0) shared part → ⊥
no_part part is_part = go (is_part.others_outside 0 sum (omega arith))
  where
    go : Contains part.rows sum ⊎ IsOutside (numbered own_block 0) sum → ⊥
    go (inl contained) =
        let none : ◌≡◌ {A = ℕ} 1 0 = All-contains (IsWithin (numbered own_block 0)) part.rows sum is_part.within_block contained 1 refl in
        absurd (omega arith)
    go (inr outside) = let none : ◌≡◌ {A = ℕ} 1 0 = outside 0 refl in absurd (omega arith)
