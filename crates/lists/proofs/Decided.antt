-- What holds or doesn't.
use Rattle.lists.proofs.Prelude.{◌⊎◌, inl, inr, ℕ, ◌<◌, ◌≤◌, List, [], ◌∷◌, arith, AllByRecursion, cases_lt}

-- it holds, or it doesn't
abbrev pub IsDecided : Type 0 → Type 0
IsDecided P = P ⊎ (P → ⊥)

pub decided_by : {P Q : Type 0} → (P → Q) → (Q → P) → IsDecided P → IsDecided Q
decided_by to from (inl p) = inl (to p)
decided_by to from (inr not) = inr (λ q. not (from q))

pub both_decided : {P Q : Type 0} → IsDecided P → IsDecided Q → IsDecided (P × Q)
both_decided (inl p) (inl q) = inl (p, q)
both_decided (inl p) (inr not) = inr (λ h. not h.1)
both_decided (inr not) d = inr (λ h. not h.0)

pub le_decided : (a b : ℕ) → IsDecided (a ≤ b)
le_decided a b = go (cases_lt b a)
  where
    go : (b < a) ⊎ (a ≤ b) → IsDecided (a ≤ b)
    go (inl above) = inr (λ h. absurd (omega (arith, above, h)))
    go (inr h) = inl h

pub lt_decided : (a b : ℕ) → IsDecided (a < b)
lt_decided a b = go (cases_lt a b)
  where
    go : (a < b) ⊎ (b ≤ a) → IsDecided (a < b)
    go (inl h) = inl h
    go (inr above) = inr (λ h. absurd (omega (arith, above, h)))

pub all_decided : {X : Type 0} (P : X → Type 0) → ((x : X) → IsDecided (P x)) → (xs : List X) → IsDecided (AllByRecursion P xs)
all_decided P each [] = inl tt
all_decided P each (x ∷ xs) = both_decided (each x) (all_decided P each xs)
