-- How many solved letters a word has.
use Rattle.model_candidates.proofs.Prelude.{◌≡◌, ℕ, suc, ◌+◌, ◌<◌, ◌≤◌, ℤ, Bool, true, false, cond, nat_le, List, [], ◌∷◌, ◌++◌, length, get_or, filter, Some, None, inl, inr, refl, sym, ap, ◌∙◌, arith, AllByRecursion, position, position_or_len, cases_lt, false_from_ne_true, and_from, and_parts, le-leb, leb-true, lt-ltb, none-some, length-append, filter-append, fails_before_first, Quiver, Letter, solved_count, has_few}

-- each word of the polynomial has so many solved letters at most
abbrev pub HasFew : Quiver → List Letter → ℕ → List (ℤ × List ℕ) → Type 0
HasFew q solved most p = AllByRecursion (λ t. solved_count q solved t.1 ≤ most) p

pub few_words : (q : Quiver) (solved : List Letter) (most : ℕ) (p : List (ℤ × List ℕ)) → has_few q solved most p ≡ true → HasFew q solved most p
few_words q solved most [] is = tt
few_words q solved most (t ∷ p) is =
    let parts = and_parts (nat_le (solved_count q solved t.1) most) (has_few q solved most p) is in
    (leb-true (solved_count q solved t.1) most parts.0, few_words q solved most p parts.1)

pub fewer : (q : Quiver) (solved : List Letter) (p : List (ℤ × List ℕ)) → has_few q solved 0 p ≡ true → has_few q solved 1 p ≡ true
fewer q solved [] is = refl
fewer q solved (t ∷ p) is =
    let parts = and_parts (nat_le (solved_count q solved t.1) 0) (has_few q solved 0 p) is in
    let none = leb-true (solved_count q solved t.1) 0 parts.0 in
    and_from (nat_le (solved_count q solved t.1) 1) (has_few q solved 1 p) (le-leb (solved_count q solved t.1) 1 (omega (arith, none)))
    (fewer q solved p parts.1)

module _ (p : ℕ → Bool) where
  pub kept_first : (x : ℕ) (xs : List ℕ) → length (filter p (x ∷ xs)) ≡ cond (p x) 1 0 + length (filter p xs)
  kept_first x xs = elim (p x) as (λ b. length (cond b (x ∷ filter p xs) (filter p xs)) ≡ cond b 1 0 + length (filter p xs)) [
    | true ↦ omega arith
    | false ↦ omega arith
  ]

  -- where none is kept
  pub none_first : (x : ℕ) (xs : List ℕ) → length (filter p (x ∷ xs)) ≡ 0 → (p x ≡ false) × (length (filter p xs) ≡ 0)
  none_first x xs none = (
    false_from_ne_true (p x) (λ is. absurd (omega (arith, kept_first x xs, ap {B = ℕ} (λ b. cond b 1 0) is, none))),
    omega (arith, kept_first x xs, none),
  )

  -- those before and behind one that passes
  pub kept_around : (xs ys : List ℕ) {x : ℕ} → p x ≡ true
      → length (filter p (xs ++ x ∷ ys)) ≡ length (filter p xs) + suc (length (filter p ys))
  kept_around xs ys {x} is =
      ap length (filter-append p xs (x ∷ ys)) ∙ length-append (filter p xs) (filter p (x ∷ ys))
      ∙ omega (arith, kept_first x ys, ap {B = ℕ} (λ b. cond b 1 0) is)

  none_kept : (xs : List ℕ) → ((k : ℕ) → k < length xs → p (get_or xs k 0) ≡ false) → length (filter p xs) ≡ 0
  none_kept [] none = refl
  none_kept (x ∷ xs) none =
      let first = ap {B = ℕ} (λ b. cond b 1 0) (none 0 (omega arith)) in
      omega (arith, kept_first x xs, first, none_kept xs (λ k inside. none (suc k) (omega (arith, inside))))

  -- where there is no first one
  pub none_found : (xs : List ℕ) → position p xs ≡ None → length (filter p xs) ≡ 0
  none_found xs none = none_kept xs (λ k inside. fails_before_first p xs k 0 (elim (cases_lt (position_or_len p xs) (length xs)) [
    | inl found ↦
        absurd (none-some (position_or_len p xs) (sym none ∙ ap (λ b. cond b (Some (position_or_len p xs)) None) (lt-ltb _ _ found)))
    | inr past ↦ omega (arith, inside, past)
  ]))
