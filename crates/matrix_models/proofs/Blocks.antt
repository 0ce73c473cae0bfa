-- Blocks of unknowns that are solved apart: what holds of an equation is told by the unknowns that it has.
use Rattle.matrix_models.proofs.Prelude.{◌≡◌, ◌↔◌, ℕ, zero, suc, ◌*◌, ◌%◌, ◌<◌, ◌≤◌, Bool, true, false, cond, List, [], ◌∷◌, ◌++◌, All, Contains, length, map, get_or, take, ◌⊎◌, inl, inr, refl, sym, ap, ap₂, subst, ◌∙◌, arith, zero-mul, range_with_len, cases_Bool, cases_eq, cases_lt, cond-true, cond-false, cond_both, eqb-true, eq-eqb, get_or_at, get_or_append_left, get_or_past, get_or-take, length-take-le, append_assoc, ext_get_or, All-contains, All-contains_itself, All-from_get_or, All-get_or, All-weaker, get_or-map-range_with_len, length-map-range_with_len, total_same, LinearRow, System, AreValues, Holds, Solves, Extends, CanTake, IsGreedy, HasGreedySolution, IsWithin, IsOutside, IsPart, numbered, AreParts, HasSolution, joined}
use Rattle.matrix_models.proofs.GreedyLists.{same_fronts}
use Rattle.matrix_models.proofs.GreedySolutions.{can_take_own}
use Rattle.matrix_models.proofs.GreedyExistence.{has_greedy_solution}

-- an equation holds with other values for unknowns whose factor is 0
holds_alike : (m : ℕ) (row : LinearRow) (values others : List ℕ)
    → ((k : ℕ) → (get_or row.factors k 0 ≡ 0) ⊎ (get_or others k 0 ≡ get_or values k 0)) → Holds m values row → Holds m others row
holds_alike m row values others alike holds = ap (λ x. x % m) (total_same (length row.factors) _ _ (λ k _. same k (alike k))) ∙ holds
  where
    same : (k : ℕ) → (get_or row.factors k 0 ≡ 0) ⊎ (get_or others k 0 ≡ get_or values k 0)
        → get_or row.factors k 0 * get_or others k 0 ≡ get_or row.factors k 0 * get_or values k 0
    same k (inl none) = ap (λ x. x * get_or others k 0) none ∙ zero-mul (get_or others k 0)
        ∙ sym (ap (λ x. x * get_or values k 0) none ∙ zero-mul (get_or values k 0))
    same k (inr alike) = ap (λ x. get_or row.factors k 0 * x) alike

-- the values of a system are those of its part
values_of_part : (block : ℕ → Bool) (s part : System) (values : List ℕ) → IsPart block s part → AreValues s values → AreValues part values
values_of_part block s part values is_part are_values = record {
  one_each = are_values.one_each ∙ sym is_part.same_unknowns;
  below = subst (λ m. All (λ value. value < m) values) (sym is_part.same_modulus) are_values.below;
}

values_of_system : (block : ℕ → Bool) (s part : System) (values : List ℕ) → IsPart block s part → AreValues part values → AreValues s values
values_of_system block s part values is_part are_values = record {
  one_each = are_values.one_each ∙ is_part.same_unknowns;
  below = subst (λ m. All (λ value. value < m) values) is_part.same_modulus are_values.below;
}

-- and so are its solutions
solves_part : (block : ℕ → Bool) (s part : System) (values : List ℕ) → IsPart block s part → Solves s values → Solves part values
solves_part block s part values is_part solves = record {
  are_values = values_of_part block s part values is_part solves.are_values;
  each_holds = All-weaker (Contains s.rows) (Holds part.modulus values) row_holds part.rows is_part.from_system;
}
  where
    row_holds : (row : LinearRow) → Contains s.rows row → Holds part.modulus values row
    row_holds row contained = subst (λ m. Holds m values row) (sym is_part.same_modulus)
        (All-contains (Holds s.modulus values) s.rows row solves.each_holds contained)

-- values that are others in the block, and outside it
abbrev AgreeIn : (ℕ → Bool) → List ℕ → List ℕ → Type 0
AgreeIn block values others = (k : ℕ) → block k ≡ true → get_or values k 0 ≡ get_or others k 0

abbrev AgreeOutside : (ℕ → Bool) → List ℕ → List ℕ → Type 0
AgreeOutside block values others = (k : ℕ) → block k ≡ false → get_or values k 0 ≡ get_or others k 0

-- an equation of the part holds with what a solution of the part has in the block
row_of_part : (block : ℕ → Bool) (s part : System) (solution values : List ℕ) (row : LinearRow) → IsPart block s part
    → Solves part solution → AgreeIn block values solution → Contains part.rows row → Holds s.modulus values row
row_of_part block s part solution values row is_part solves agree contained =
    subst (λ m. Holds m values row) is_part.same_modulus
    (holds_alike part.modulus row solution values (λ k. told k (cases_Bool (block k)))
    (All-contains (Holds part.modulus solution) part.rows row solves.each_holds contained))
  where
    told : (k : ℕ) → (block k ≡ true) ⊎ (block k ≡ false) → (get_or row.factors k 0 ≡ 0) ⊎ (get_or values k 0 ≡ get_or solution k 0)
    told k (inl inside) = inr (agree k inside)
    told k (inr outside) = inl (All-contains (IsWithin block) part.rows row is_part.within_block contained k outside)

-- and so do all of them
part_solved : (block : ℕ → Bool) (s part : System) (solution values : List ℕ) → IsPart block s part
    → Solves part solution → AreValues s values → AgreeIn block values solution → Solves part values
part_solved block s part solution values is_part solves are_values agree = record {
  are_values = values_of_part block s part values is_part are_values;
  each_holds = All-weaker (Contains part.rows) (Holds part.modulus values) row_holds part.rows (All-contains_itself part.rows);
}
  where
    row_holds : (row : LinearRow) → Contains part.rows row → Holds part.modulus values row
    row_holds row contained = subst (λ m. Holds m values row) (sym is_part.same_modulus)
        (row_of_part block s part solution values row is_part solves agree contained)

-- values that are those of a solution of the part in the block, and of one of the system outside it
system_solved : (block : ℕ → Bool) (s part : System) (solution others values : List ℕ) → IsPart block s part
    → Solves part solution → Solves s others → AreValues s values
    → AgreeIn block values solution → AgreeOutside block values others → Solves s values
system_solved block s part solution others values is_part solves solves_too are_values inside outside = record {
  are_values = are_values;
  each_holds = λ k d within. row_holds _ (solves_too.each_holds k d within) (is_part.others_outside k d within);
}
  where
    row_holds : (row : LinearRow) → Holds s.modulus others row → Contains part.rows row ⊎ IsOutside block row → Holds s.modulus values row
    row_holds row holds (inl contained) = row_of_part block s part solution values row is_part solves inside contained
    row_holds row holds (inr none) = holds_alike s.modulus row others values (λ k. told k (cases_Bool (block k))) holds
      where
        told : (k : ℕ) → (block k ≡ true) ⊎ (block k ≡ false) → (get_or row.factors k 0 ≡ 0) ⊎ (get_or values k 0 ≡ get_or others k 0)
        told k (inl in_block) = inl (none k in_block)
        told k (inr not_in_block) = inr (outside k not_in_block)

-- values that are chosen from lists, from one list at each place
abbrev chosen : ℕ → (ℕ → List ℕ) → List ℕ
chosen n lists = map (λ place. get_or (lists place) place 0) (range_with_len 0 n)

length-chosen : (n : ℕ) (lists : ℕ → List ℕ) → length (chosen n lists) ≡ n
length-chosen n lists = length-map-range_with_len (λ place. get_or (lists place) place 0) 0 n

chosen-at : (n : ℕ) (lists : ℕ → List ℕ) (k : ℕ) → length (lists k) ≡ n → get_or (chosen n lists) k 0 ≡ get_or (lists k) k 0
chosen-at n lists k size = go (cases_lt k n)
  where
    go : (k < n) ⊎ (n ≤ k) → get_or (chosen n lists) k 0 ≡ get_or (lists k) k 0
    go (inl within) = get_or-map-range_with_len (λ place. get_or (lists place) place 0) 0 n k k 0 within (omega arith)
    go (inr past) =
        get_or_past (chosen n lists) k 0 (omega (arith, length-chosen n lists))
        ∙ sym (get_or_past (lists k) k 0 (omega arith))

-- from the list that stands at the place
chosen-from : (n : ℕ) (lists : ℕ → List ℕ) (k : ℕ) (values : List ℕ) → length values ≡ n → lists k ≡ values
    → get_or (chosen n lists) k 0 ≡ get_or values k 0
chosen-from n lists k values size same = chosen-at n lists k (ap length same ∙ size) ∙ ap (λ list. get_or list k 0) same

chosen_are_values : (s : System) (lists : ℕ → List ℕ) → ((k : ℕ) → k < s.unknowns → AreValues s (lists k))
    → AreValues s (chosen s.unknowns lists)
chosen_are_values s lists are_values = record {
  one_each = length-chosen s.unknowns lists;
  below = All-from_get_or (λ value. value < s.modulus) (chosen s.unknowns lists) 0
      (λ k within. small k (subst (λ n. k < n) (length-chosen s.unknowns lists) within));
}
  where
    small : (k : ℕ) → k < s.unknowns → get_or (chosen s.unknowns lists) k 0 < s.modulus
    small k within =
        let here : AreValues s (lists k) = are_values k within in
        subst (λ x. x < s.modulus) (sym (chosen-at s.unknowns lists k here.one_each))
        (All-get_or (λ value. value < s.modulus) (lists k) k 0 (omega (arith, here.one_each, within)) here.below)

-- from one list in the block, and from another outside it
mixed : (ℕ → Bool) → ℕ → List ℕ → List ℕ → List ℕ
mixed block n values others = chosen n (λ place. cond (block place) values others)

mixed-in : (block : ℕ → Bool) (n : ℕ) (values others : List ℕ) → length values ≡ n → AgreeIn block (mixed block n values others) values
unfolding mixed
mixed-in block n values others size k inside =
    chosen-from n (λ place. cond (block place) values others) k values size (cond-true (block k) values others inside)

mixed-out : (block : ℕ → Bool) (n : ℕ) (values others : List ℕ) → length others ≡ n → AgreeOutside block (mixed block n values others) others
unfolding mixed
mixed-out block n values others size k outside =
    chosen-from n (λ place. cond (block place) values others) k others size (cond-false (block k) values others outside)

mixed_are_values : (block : ℕ → Bool) (s : System) (values others : List ℕ) → AreValues s values → AreValues s others
    → AreValues s (mixed block s.unknowns values others)
unfolding mixed
mixed_are_values block s values others first second =
    chosen_are_values s (λ place. cond (block place) values others) (λ k _. cond_both (block k) values others (AreValues s) (λ _. first) (λ _. second))

-- a solution that shows that an unknown can take a value
record IsTaken (s : System) (values : List ℕ) (place value : ℕ) (solution : List ℕ) : Type 0 where
  solves : Solves s solution
  same_before : (k : ℕ) → k < place → get_or solution k 0 ≡ get_or values k 0
  here : get_or solution place 0 ≡ value

-- the one that the value's own record has
taken_by : (s : System) (values : List ℕ) (place value : ℕ) → place < s.unknowns → length values ≡ s.unknowns
    → (can : CanTake s values place value) → IsTaken s values place value (take place values ++ value ∷ [] ++ can.rest)
taken_by s values place value within size can = record {
  solves = can.solves;
  same_before = λ k before.
      ap (λ x. get_or x k 0) as_written
      ∙ get_or_append_left (take place values) (value ∷ can.rest) 0 k (omega (arith, front_size, before))
      ∙ get_or-take place values k 0 before;
  here = ap (λ x. get_or x place 0) as_written ∙ get_or_at (take place values) value can.rest 0 place front_size;
}
  where
    as_written : take place values ++ value ∷ [] ++ can.rest ≡ take place values ++ (value ∷ can.rest)
    as_written = append_assoc (take place values) (value ∷ []) can.rest

    front_size : length (take place values) ≡ place
    front_size = length-take-le place values (omega (arith, size, within))

-- any such solution will do
can_take : (s : System) (values solution : List ℕ) (place value : ℕ) → place < s.unknowns → length values ≡ s.unknowns
    → IsTaken s values place value solution → CanTake s values place value
can_take s values solution place value within size taken =
    subst (Extends s) (ap₂ (λ x y. x ++ y ∷ []) front taken.here) (can_take_own s solution place within taken.solves)
  where
    front : take place solution ≡ take place values
    front = same_fronts solution values place (omega (arith, taken.solves.are_values.one_each, size, within)) (omega (arith, size, within))
        (λ k before _. taken.same_before k before)

-- an unknown of the block can take the same values in the part, where those before it in the block agree
in_part : (block : ℕ → Bool) (s part : System) (values others : List ℕ) (place value : ℕ) → IsPart block s part
    → AreValues s values → Solves part others → place < s.unknowns → block place ≡ true
    → ((k : ℕ) → k < place → block k ≡ true → get_or values k 0 ≡ get_or others k 0)
    → CanTake s values place value → CanTake part others place value
in_part block s part values others place value is_part are_values solves within in_block before can =
    can_take part others solution place value (omega (arith, within, is_part.same_unknowns)) solves.are_values.one_each (record {
      solves = part_solved block s part taking solution is_part taking_solves
          (mixed_are_values block s taking others taken.solves.are_values others_are_values) agree;
      same_before = λ k earlier. same k earlier (cases_Bool (block k));
      here = agree place in_block ∙ taken.here;
    })
  where
    taking : List ℕ
    taking = take place values ++ value ∷ [] ++ can.rest

    taken : IsTaken s values place value taking
    taken = taken_by s values place value within are_values.one_each can

    taking_solves : Solves part taking
    taking_solves = solves_part block s part taking is_part taken.solves

    others_are_values : AreValues s others
    others_are_values = values_of_system block s part others is_part solves.are_values

    solution : List ℕ
    solution = mixed block s.unknowns taking others

    agree : AgreeIn block solution taking
    agree = mixed-in block s.unknowns taking others taken.solves.are_values.one_each

    same : (k : ℕ) → k < place → (block k ≡ true) ⊎ (block k ≡ false) → get_or solution k 0 ≡ get_or others k 0
    same k earlier (inl inside) = agree k inside ∙ taken.same_before k earlier ∙ before k earlier inside
    same k earlier (inr outside) = mixed-out block s.unknowns taking others others_are_values.one_each k outside

-- and in the system
in_system : (block : ℕ → Bool) (s part : System) (values others : List ℕ) (place value : ℕ) → IsPart block s part
    → Solves s values → AreValues part others → place < s.unknowns → block place ≡ true
    → ((k : ℕ) → k < place → block k ≡ true → get_or values k 0 ≡ get_or others k 0)
    → CanTake part others place value → CanTake s values place value
in_system block s part values others place value is_part solves are_values within in_block before can =
    can_take s values solution place value within solves.are_values.one_each (record {
      solves = system_solved block s part taking values solution is_part taken.solves solves
          (mixed_are_values block s taking values taking_are_values solves.are_values) inside_agrees outside_agrees;
      same_before = λ k earlier. same k earlier (cases_Bool (block k));
      here = inside_agrees place in_block ∙ taken.here;
    })
  where
    taking : List ℕ
    taking = take place others ++ value ∷ [] ++ can.rest

    taken : IsTaken part others place value taking
    taken = taken_by part others place value (omega (arith, within, is_part.same_unknowns)) are_values.one_each can

    taking_are_values : AreValues s taking
    taking_are_values = values_of_system block s part taking is_part taken.solves.are_values

    solution : List ℕ
    solution = mixed block s.unknowns taking values

    inside_agrees : AgreeIn block solution taking
    inside_agrees = mixed-in block s.unknowns taking values taking_are_values.one_each

    outside_agrees : AgreeOutside block solution values
    outside_agrees = mixed-out block s.unknowns taking values solves.are_values.one_each

    same : (k : ℕ) → k < place → (block k ≡ true) ⊎ (block k ≡ false) → get_or solution k 0 ≡ get_or values k 0
    same k earlier (inl inside) = inside_agrees k inside ∙ taken.same_before k earlier ∙ sym (before k earlier inside)
    same k earlier (inr outside) = outside_agrees k outside

-- two choices by one preferred number, among the same numbers
same_choice : (Can CanToo : ℕ → Type 0) (liked value other : ℕ) → ((x : ℕ) → Can x → CanToo x) → ((x : ℕ) → CanToo x → Can x)
    → Can value → (Can liked → value ≡ liked) → ((x : ℕ) → (Can liked → ⊥) → Can x → value ≤ x)
    → CanToo other → (CanToo liked → other ≡ liked) → ((x : ℕ) → (CanToo liked → ⊥) → CanToo x → other ≤ x)
    → value ≡ other
same_choice Can CanToo liked value other forth back can liked_is least can_too liked_too least_too = go (cases_eq value liked)
  where
    go : (value ≡ liked) ⊎ (value ≡ liked → ⊥) → value ≡ other
    go (inl chosen) = chosen ∙ sym (liked_too (forth liked (subst Can chosen can)))
    go (inr not_chosen) =
        let up : value ≤ other = least other (λ has. not_chosen (liked_is has)) (back other can_too) in
        let down : other ≤ value = least_too value (λ has. not_chosen (liked_is (back liked has))) (forth value can) in
        omega (arith, up, down)

pub blocks_solved_apart : (block : ℕ → Bool) (s part : System) (prefer values others : List ℕ) → IsPart block s part
    → IsGreedy s prefer values → IsGreedy part prefer others
    → (place : ℕ) → place < s.unknowns → block place ≡ true → get_or values place 0 ≡ get_or others place 0
blocks_solved_apart block s part prefer values others is_part greedy greedy_part place within inside =
    all_below s.unknowns (omega arith) place within inside
  where
    one_place : (place : ℕ) → place < s.unknowns → block place ≡ true
        → ((k : ℕ) → k < place → block k ≡ true → get_or values k 0 ≡ get_or others k 0) → get_or values place 0 ≡ get_or others place 0
    one_place place within inside before =
        same_choice (CanTake s values place) (CanTake part others place) (get_or prefer place 0) (get_or values place 0) (get_or others place 0)
        (λ x can. in_part block s part values others place x is_part greedy.solves.are_values greedy_part.solves within inside before can)
        (λ x can. in_system block s part values others place x is_part greedy.solves greedy_part.solves.are_values within inside before can)
        (can_take_own s values place within greedy.solves)
        (greedy.preferred place within) (λ x. greedy.least place x within)
        (can_take_own part others place within_part greedy_part.solves)
        (greedy_part.preferred place within_part) (λ x. greedy_part.least place x within_part)
      where
        within_part : place < part.unknowns
        within_part = omega (arith, within, is_part.same_unknowns)

    all_below : (n : ℕ) → n ≤ s.unknowns → (place : ℕ) → place < n → block place ≡ true → get_or values place 0 ≡ get_or others place 0
    all_below zero _ place before _ = absurd (omega arith)
    all_below (suc n) small place before inside = go (cases_eq place n) (all_below n (omega arith))
      where
        go : (place ≡ n) ⊎ (place ≡ n → ⊥) → ((k : ℕ) → k < n → block k ≡ true → get_or values k 0 ≡ get_or others k 0)
            → get_or values place 0 ≡ get_or others place 0
        go (inl last) earlier = one_place place (omega arith) inside (λ k sooner. earlier k (omega arith))
        go (inr other) earlier = earlier place (omega arith) inside

-- the parts' solutions, joined: in each block they are those of its part
joined-in : (block_of : ℕ → ℕ) (n : ℕ) (solutions : ℕ → List ℕ) (number : ℕ) → length (solutions number) ≡ n
    → AgreeIn (numbered block_of number) (joined block_of n solutions) (solutions number)
joined-in block_of n solutions number size k inside =
    chosen-from n (λ place. solutions (block_of place)) k (solutions number) size (ap solutions (eqb-true (block_of k) number inside))

joined_solves : (block_of : ℕ → ℕ) (count : ℕ) (s : System) (parts : ℕ → System) (solutions : ℕ → List ℕ) → AreParts block_of count s parts
    → ((number : ℕ) → number < count → Solves (parts number) (solutions number)) → Solves s (joined block_of s.unknowns solutions)
joined_solves block_of count s parts solutions are_parts solves = record {
  are_values = chosen_are_values s (λ place. solutions (block_of place)) (λ k within. values_at (block_of k) (are_parts.each_unknown k within));
  each_holds = λ k d within. row_holds _ (are_parts.each_row k d within);
}
  where
    values_at : (number : ℕ) → number < count → AreValues s (solutions number)
    values_at number below = values_of_system (numbered block_of number) s (parts number) (solutions number)
        (are_parts.each_part number below) (solves number below).are_values

    row_holds : (row : LinearRow) → (number : ℕ) × (number < count) × Contains (parts number).rows row
        → Holds s.modulus (joined block_of s.unknowns solutions) row
    row_holds row (number, below, contained) =
        row_of_part (numbered block_of number) s (parts number) (solutions number) (joined block_of s.unknowns solutions) row
        (are_parts.each_part number below) (solves number below)
        (joined-in block_of s.unknowns solutions number (values_at number below).one_each) contained

-- the solutions that there are below the count
found_solution : (count : ℕ) (parts : ℕ → System) (has : (number : ℕ) → number < count → HasSolution (parts number)) (number : ℕ)
    → (number < count) ⊎ (count ≤ number) → List ℕ
found_solution count parts has number (inl below) = (has number below).values
found_solution count parts has number (inr past) = []

found_solves : (count : ℕ) (parts : ℕ → System) (has : (number : ℕ) → number < count → HasSolution (parts number)) (number : ℕ) → number < count
    → (told : (number < count) ⊎ (count ≤ number)) → Solves (parts number) (found_solution count parts has number told)
unfolding found_solution
found_solves count parts has number below (inl again) = (has number again).solves
found_solves count parts has number below (inr past) = absurd (omega arith)

pub solvable_by_parts : (block_of : ℕ → ℕ) (count : ℕ) (s : System) (parts : ℕ → System) → AreParts block_of count s parts
    → HasSolution s ↔ ((number : ℕ) → number < count → HasSolution (parts number))
solvable_by_parts block_of count s parts are_parts = (
  λ has number below. record {
    values = has.values;
    solves = solves_part (numbered block_of number) s (parts number) has.values (are_parts.each_part number below) has.solves;
  },
  λ has. record {
    values = joined block_of s.unknowns (λ number. found_solution count parts has number (cases_lt number count));
    solves = joined_solves block_of count s parts (λ number. found_solution count parts has number (cases_lt number count)) are_parts
        (λ number below. found_solves count parts has number below (cases_lt number count));
  },
)

pub greedy_joined : (block_of : ℕ → ℕ) (count : ℕ) (s : System) (parts : ℕ → System) (prefer : List ℕ) (solutions : ℕ → List ℕ)
    → AreParts block_of count s parts → ((number : ℕ) → number < count → IsGreedy (parts number) prefer (solutions number))
    → IsGreedy s prefer (joined block_of s.unknowns solutions)
greedy_joined block_of count s parts prefer solutions are_parts greedy = subst (IsGreedy s prefer) same whole.greedy
  where
    solution : List ℕ
    solution = joined block_of s.unknowns solutions

    solves : Solves s solution
    solves = joined_solves block_of count s parts solutions are_parts (λ number below. (greedy number below).solves)

    whole : HasGreedySolution s prefer
    whole = has_greedy_solution s prefer solution solves

    size : length whole.values ≡ s.unknowns
    size = whole.greedy.solves.are_values.one_each

    one_place : (k : ℕ) → k < s.unknowns → get_or whole.values k 0 ≡ get_or solution k 0
    one_place k within =
        let below : block_of k < count = are_parts.each_unknown k within in
        let is_part : IsPart (numbered block_of (block_of k)) s (parts (block_of k)) = are_parts.each_part (block_of k) below in
        let part_greedy : IsGreedy (parts (block_of k)) prefer (solutions (block_of k)) = greedy (block_of k) below in
        blocks_solved_apart (numbered block_of (block_of k)) s (parts (block_of k)) prefer whole.values (solutions (block_of k)) is_part
        whole.greedy part_greedy k within (eq-eqb (block_of k) (block_of k) refl)
        ∙ sym (chosen-at s.unknowns (λ place. solutions (block_of place)) k (part_greedy.solves.are_values.one_each ∙ is_part.same_unknowns))

    same : whole.values ≡ solution
    same = ext_get_or 0 whole.values solution (size ∙ sym solves.are_values.one_each) (λ k within. one_place k (omega (arith, within, size)))
