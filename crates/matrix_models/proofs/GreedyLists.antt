-- Lists of a length that pass: at most one of them is greedy, and where it can be told whether a list passes, one is or none passes.
use Rattle.matrix_models.proofs.Prelude.{◌≡◌, ℕ, zero, suc, ◌+◌, ◌<◌, ◌≤◌, List, [], ◌∷◌, ◌++◌, length, get_or, take, drop, All, ◌⊎◌, inl, inr, refl, sym, ap, subst, ◌∙◌, arith, take-append_seam, cases_eq, cases_lt, append-nil, append_assoc, length-append, length_push, get_or_at, take_all, take_more, take_more_same, take-append-drop, All-get_or, IsDecided, decided_by}

-- the least number that passes, or none below the bound does
record LeastOf (Q : ℕ → Type 0) : Type 0 where
  number : ℕ
  passes : Q number
  least : (other : ℕ) → Q other → number ≤ other

least_or_none : (Q : ℕ → Type 0) → ((x : ℕ) → IsDecided (Q x)) → (bound : ℕ) → LeastOf Q ⊎ ((x : ℕ) → x < bound → Q x → ⊥)
least_or_none Q decided zero = inr (λ x below. absurd (omega (arith, below)))
least_or_none Q decided (suc n) = elim (least_or_none Q decided n) [
  | inl found ↦ inl found
  | inr none ↦ elim (decided n) [
    | inl here ↦ inl (record {
      number = n;
      passes = here;
      least = λ other passes. elim (cases_lt other n) [ inl less ↦ absurd (none other less passes) | inr h ↦ h ];
    })
    | inr not_here ↦ inr (λ x below passes. elim (cases_eq x n) [
      | inl same ↦ not_here (subst Q same passes)
      | inr other ↦ none x (omega (arith, below, other)) passes
    ])
  ]
]

-- lists that agree at each place where they agree before it
pub same_fronts : (values others : List ℕ) (n : ℕ) → n ≤ length values → n ≤ length others
    → ((place : ℕ) → place < n → take place values ≡ take place others → get_or values place 0 ≡ get_or others place 0) → take n values ≡ take n others
same_fronts values others zero in_values in_others step = refl
same_fronts values others (suc n) in_values in_others step =
    let before = same_fronts values others n (omega arith) (omega arith) (λ place within. step place (omega arith)) in
    let next : suc n ≡ n + 1 = omega arith in
    ap (λ x. take x values) next ∙ take_more_same values others n 0 (omega arith) (omega arith) before (step n (omega arith) before)
    ∙ ap (λ x. take x others) (sym next)

module _ (P : List ℕ → Type 0) where
  -- a list that passes begins with these
  pub record Begins (front : List ℕ) : Type 0 where
    pub rest : List ℕ
    pub passes : P (front ++ rest)

  -- The value is the preferred one where that can stand behind the front, and else the least that can.
  pub record IsChoice (front : List ℕ) (preferred value : ℕ) : Type 0 where
    pub preferred_if : Begins (front ++ preferred ∷ []) → value ≡ preferred
    pub least_else : (other : ℕ) → (Begins (front ++ preferred ∷ []) → ⊥) → Begins (front ++ other ∷ []) → value ≤ other

  choice_is_one : {front : List ℕ} {preferred x y : ℕ} → IsChoice front preferred x → IsChoice front preferred y → Begins (front ++ x ∷ [])
      → Begins (front ++ y ∷ []) → x ≡ y
  choice_is_one {front} {preferred} {x} {y} first second of_x of_y = elim (cases_eq x preferred) [
    | inl same ↦ same ∙ sym (second.preferred_if (subst (λ z. Begins (front ++ z ∷ [])) same of_x))
    | inr other ↦ elim (cases_eq y preferred) [
      | inl same ↦ first.preferred_if (subst (λ z. Begins (front ++ z ∷ [])) same of_y) ∙ sym same
      | inr neither ↦
          let up = first.least_else y (λ can. other (first.preferred_if can)) of_y in
          let down = second.least_else x (λ can. neither (second.preferred_if can)) of_x in
          omega (arith, up, down)
    ]
  ]

  -- with one item more
  longer : (front : List ℕ) (x : ℕ) → Begins (front ++ x ∷ []) → Begins front
  longer front x begins = record { rest = x ∷ begins.rest; passes = subst P (append_assoc front (x ∷ []) begins.rest) begins.passes }

  module _ (size : ℕ) (of_size : (xs : List ℕ) → P xs → length xs ≡ size) (prefer : List ℕ) where
    pub record IsGreedyList (values : List ℕ) : Type 0 where
      pub passes : P values
      pub chosen : (place : ℕ) → place < size → IsChoice (take place values) (get_or prefer place 0) (get_or values place 0)

    own : (values : List ℕ) → P values → (place : ℕ) → place < size → Begins (take place values ++ get_or values place 0 ∷ [])
    own values passes place within = record {
      rest = drop (place + 1) values;
      passes = subst P (sym (ap (λ x. x ++ drop (place + 1) values)
          (sym (take_more values place 0 (omega (arith, of_size values passes, within)))) ∙ take-append-drop (place + 1) values)) passes;
    }

    pub one_greedy : {values others : List ℕ} → IsGreedyList values → IsGreedyList others → values ≡ others
    one_greedy {values} {others} first second =
        let size_is = of_size values first.passes in
        let other_size = of_size others second.passes in
        sym (take_all size values (omega (arith, size_is)))
        ∙ same_fronts values others size (omega (arith, size_is)) (omega (arith, other_size)) (λ place within same.
        choice_is_one (first.chosen place within)
        (subst (λ front. IsChoice front (get_or prefer place 0) (get_or others place 0)) (sym same) (second.chosen place within))
        (own values first.passes place within)
        (subst (λ front. Begins (front ++ get_or others place 0 ∷ [])) (sym same) (own others second.passes place within)))
        ∙ take_all size others (omega (arith, other_size))

    module _ (bound : ℕ) (below : (xs : List ℕ) → P xs → All (λ x. x < bound) xs) (decided : (xs : List ℕ) → IsDecided (P xs)) where
      -- the item behind the front is below the bound
      next_begins : {front : List ℕ} (n : ℕ) → length front + suc n ≡ size → Begins front → (x : ℕ) × (x < bound) × Begins (front ++ x ∷ [])
      next_begins {front} n left begins = go begins.rest begins.passes
        where
          go : (rest : List ℕ) → P (front ++ rest) → (x : ℕ) × (x < bound) × Begins (front ++ x ∷ [])
          go [] passes = absurd (omega (arith, left, length-append front [], of_size (front ++ []) passes))
          go (x ∷ rest) passes = (
            x,
            subst (λ y. y < bound) (get_or_at front x rest 0 (length front) refl)
                (All-get_or (λ y. y < bound) (front ++ x ∷ rest) (length front) 0 (omega (arith, length-append front (x ∷ rest)))
                (below (front ++ x ∷ rest) passes)),
            record { rest = rest; passes = subst P (sym (append_assoc front (x ∷ []) rest)) passes },
          )

      whole : (front : List ℕ) → length front ≡ size → Begins front → P front
      whole front size_is begins = go begins.rest begins.passes
        where
          go : (rest : List ℕ) → P (front ++ rest) → P front
          go [] passes = subst P (append-nil front) passes
          go (x ∷ rest) passes = absurd (omega (arith, size_is, length-append front (x ∷ rest), of_size (front ++ x ∷ rest) passes))

      begins_decided : (n : ℕ) (front : List ℕ) → length front + n ≡ size → IsDecided (Begins front)
      begins_decided zero front left = decided_by (λ passes. record { rest = []; passes = subst P (sym (append-nil front)) passes })
          (whole front (omega (arith, left))) (decided front)
      begins_decided (suc n) front left = elim (least_or_none (λ x. Begins (front ++ x ∷ [])) (λ x. begins_decided n (front ++ x ∷ [])
          (omega (arith, left, length_push front x))) bound) [
            | inl found ↦ inl (longer front found.number found.passes)
            | inr none ↦ inr (λ begins. let next = next_begins n left begins in none next.0 next.1 next.2)
          ]

      record Choice (front : List ℕ) : Type 0 where
        value : ℕ
        begins : Begins (front ++ value ∷ [])
        choice : IsChoice front (get_or prefer (length front) 0) value

      choose : (n : ℕ) {front : List ℕ} → length front + suc n ≡ size → Begins front → Choice front
      choose n {front} left begins =
          let told : (x : ℕ) → IsDecided (Begins (front ++ x ∷ [])) = λ x. begins_decided n (front ++ x ∷ [])
          (omega (arith, left, length_push front x)) in
          let draw = get_or prefer (length front) 0 in
          elim (told draw) [
            | inl can ↦ record {
              value = draw;
              begins = can;
              choice = record { preferred_if = λ again. refl; least_else = λ other cannot. absurd (cannot can) };
            }
            | inr cannot ↦ elim (least_or_none (λ x. Begins (front ++ x ∷ [])) told bound) [
              | inl found ↦ record {
                value = found.number;
                begins = found.passes;
                choice = record { preferred_if = λ can. absurd (cannot can); least_else = λ other no can. found.least other can };
              }
              | inr none ↦ let next = next_begins n left begins in absurd (none next.0 next.1 next.2)
            ]
          ]

      -- from the end of the front on each item is the choice
      record IsGreedyFrom (front : List ℕ) : Type 0 where
        rest : List ℕ
        passes : P (front ++ rest)
        chosen : (place : ℕ) → length front ≤ place → place < size
            → IsChoice (take place (front ++ rest)) (get_or prefer place 0) (get_or (front ++ rest) place 0)

      behind : (front : List ℕ) (next : Choice front) → IsGreedyFrom (front ++ next.value ∷ []) → IsGreedyFrom front
      behind front next more = record {
        rest = next.value ∷ more.rest;
        passes = subst P written more.passes;
        chosen = λ place least most. elim (cases_eq place (length front)) [
          | inl same ↦ subst (λ k. IsChoice (take k all) (get_or prefer k 0) (get_or all k 0)) (sym same) first
          | inr other ↦
              subst (λ xs. IsChoice (take place xs) (get_or prefer place 0) (get_or xs place 0)) written
              (more.chosen place (omega (arith, least, other, length_push front next.value)) most)
        ];
      }
        where
          all : List ℕ
          all = front ++ next.value ∷ more.rest

          written : (front ++ next.value ∷ []) ++ more.rest ≡ all
          written = append_assoc front (next.value ∷ []) more.rest

          first : IsChoice (take (length front) all) (get_or prefer (length front) 0) (get_or all (length front) 0)
          first =
              subst (λ xs. IsChoice xs (get_or prefer (length front) 0) (get_or all (length front) 0))
              (sym (take-append_seam front (next.value ∷ more.rest)))
              (subst (IsChoice front (get_or prefer (length front) 0)) (sym (get_or_at front next.value more.rest 0 (length front) refl))
              next.choice)

      greedy_from : (n : ℕ) (front : List ℕ) → length front + n ≡ size → Begins front → IsGreedyFrom front
      greedy_from zero front left begins = record {
        rest = begins.rest;
        passes = begins.passes;
        chosen = λ place least most. absurd (omega (arith, left, least, most));
      }
      greedy_from (suc n) front left begins =
          let next = choose n left begins in
          behind front next (greedy_from n (front ++ next.value ∷ []) (omega (arith, left, length_push front next.value)) next.begins)

      -- a greedy one, or none passes
      pub greedy_or_none : ((values : List ℕ) × IsGreedyList values) ⊎ ((values : List ℕ) → P values → ⊥)
      greedy_or_none = elim (begins_decided size [] (omega arith)) [
        | inl begins ↦
            let found = greedy_from size [] (omega arith) begins in
            inl (found.rest, record { passes = found.passes; chosen = λ place most. found.chosen place (omega arith) most })
        | inr none ↦ inr (λ values passes. none (record { rest = values; passes = passes }))
      ]
