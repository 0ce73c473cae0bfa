-- Ambiguities at the places of two words at which they agree, one place after another.
use Rattle.ambiguities.proofs.Prelude.{◌≡◌, ◌⊎◌, inl, inr, ℕ, ◌+◌, ◌<◌, ◌≤◌, List, ◌∷◌, ◌++◌, [], refl, sym, subst, arith, cases_lt, Kind, Ambiguity, Agree, IsAgreement, IsBefore, IsGrown, ambiguity_at}
use Rattle.ambiguities.proofs.Exactly.{exactly-one, grown-append, grown-same, grown-none}

module _ (i j : ℕ) (kind : Kind) (word other : List ℕ) (low : ℕ) where
  -- those at the places before one
  abbrev Before : ℕ → Ambiguity → Type 0
  Before = IsAgreement i j kind word other low

  pub agreeing-first : (old : List Ambiguity) → IsGrown (IsAgreement i j kind word other low low) old old
  agreeing-first old = grown-none (Before low) old (λ a is. absurd (omega (arith, is.reached, is.below)))

  wider : (n : ℕ) (a : Ambiguity) → Before n a → Before (n + 1) a
  wider n a is = record { first = is.first; second = is.second; of_kind = is.of_kind; reached = is.reached; below = omega (arith, is.below); agree = is.agree }

  narrower : (n : ℕ) (a : Ambiguity) → Before (n + 1) a → a.place < n → Before n a
  narrower n a is less = record { first = is.first; second = is.second; of_kind = is.of_kind; reached = is.reached; below = less; agree = is.agree }

  -- one place more, at which they agree
  pub agreeing-more : (n : ℕ) (old mid new : List Ambiguity) → low ≤ n → Agree word other n → new ≡ mid ++ ambiguity_at i j kind n ∷ [] → IsGrown (IsAgreement i j kind word other low n) old mid
      → IsGrown (IsAgreement i j kind word other low (n + 1)) old new
  agreeing-more n old mid new reached agree pushed before =
      grown-append (Before n) (λ a. item ≡ a) (Before (n + 1)) old mid new before (record { more = item ∷ []; appended = pushed; exact = exactly-one IsBefore item })
      (λ a b is same. subst (IsBefore a) same (inr (is.first, inr (is.second, inr (is.of_kind, is.below)))))
      (λ a. (λ is. split a is (cases_lt a.place n), join a))
    where
      item : Ambiguity
      item = ambiguity_at i j kind n

      split : (a : Ambiguity) → Before (n + 1) a → (a.place < n) ⊎ (n ≤ a.place) → Before n a ⊎ (item ≡ a)
      split a is (inl less) = inl (narrower n a is less)
      split a is (inr past) =
          let last : n ≡ a.place = omega (arith, past, is.below) in
          inr (λ m. record { i = sym is.first m; j = sym is.second m; kind = sym is.of_kind m; place = last m })

      join : (a : Ambiguity) → Before n a ⊎ (item ≡ a) → Before (n + 1) a
      join a (inl is) = wider n a is
      join a (inr same) = subst (Before (n + 1)) same (record { first = refl; second = refl; of_kind = refl; reached = reached; below = omega arith; agree = agree })

  -- and one at which they don't
  pub agreeing-same : (n : ℕ) (old new : List Ambiguity) → (Agree word other n → ⊥) → IsGrown (IsAgreement i j kind word other low n) old new → IsGrown (IsAgreement i j kind word other low (n + 1)) old new
  agreeing-same n old new not_here before = grown-same (Before n) (Before (n + 1)) old new (λ a. (λ is. split a is (cases_lt a.place n), wider n a)) before
    where
      split : (a : Ambiguity) → Before (n + 1) a → (a.place < n) ⊎ (n ≤ a.place) → Before n a
      split a is (inl less) = narrower n a is less
      split a is (inr past) = let last : a.place ≡ n = omega (arith, past, is.below) in absurd (not_here (subst (Agree word other) last is.agree))

  -- all places up to the last one
  pub agreeing-all : (n high : ℕ) (old new : List Ambiguity) → (low ≤ high → n ≡ high) → (high < low → n ≡ low) → IsGrown (IsAgreement i j kind word other low n) old new
      → IsGrown (IsAgreement i j kind word other low high) old new
  agreeing-all n high old new reached nothing before = go (cases_lt high low)
    where
      go : (high < low) ⊎ (low ≤ high) → IsGrown (IsAgreement i j kind word other low high) old new
      go (inl past) = grown-same (Before n) (Before high) old new
          (λ a. (λ is. absurd (omega (arith, is.reached, is.below, past)), λ is. absurd (omega (arith, is.reached, is.below, nothing past)))) before
      go (inr ordered) = subst (λ m. IsGrown (IsAgreement i j kind word other low m) old new) (reached ordered) before
