-- what the steps of a check mean for its outcome
use Rattle.cofactor_checker.proofs.Prelude.{inl, inr, ℕ, ℤ, ◌+◌, List, [], ◌∷◌, ◌++◌, length, Result, Ok, Err, OnOk, Lemma, LemmaCertificate, Accepted, IsEvidenceOf, lemma_polynomial, RefusesLemma, RefusesLemmaRows, RefusesLemmas, row_count, goal_claim, all_polynomials, GoalBegins, HasLemmas, AcceptsLemmas, RefusesLemmaCertificate, RefusesGoal, Refusal}
use Rattle.cofactor_checker.specs.declared.refusal.Refusal.TheVariants as refusal
use Rattle.cofactor_checker.proofs.LemmaSums.{shows}

-- what is told of no lemma is told of no list of lemmas
never : (gs : List (List (ℤ × List ℕ))) (e : Refusal) → ((ps : List (List (ℤ × List ℕ))) (rows : ℕ) (l : Lemma) → RefusesLemma gs ps rows l e → ⊥)
    → (ps : List (List (ℤ × List ℕ))) (rows : ℕ) (lemmas : List Lemma) → RefusesLemmas gs ps rows lemmas e → ⊥
never gs e none ps rows [] refused = refused
never gs e none ps rows (l ∷ lemmas) (inl here) = none ps rows l here
never gs e none ps rows (l ∷ lemmas) (inr later) = never gs e none (ps ++ lemma_polynomial gs ps l ∷ []) (rows + length l.rows) lemmas later.1

-- a refusal of a row of the goal is one of the goal
pub goal_from_rows : (gs ls : List (List (ℤ × List ℕ))) (before : ℕ) (goal : Lemma) (claim : List (ℤ × List ℕ)) (e : Refusal) → RefusesLemmaRows gs ls before goal.rows e → RefusesGoal gs ls before goal claim e
goal_from_rows gs ls before goal claim (refusal.Differs word want got) refused = absurd refused
goal_from_rows gs ls before goal claim other refused = refused

module _ (claims gs : List (List (ℤ × List ℕ))) (c : LemmaCertificate) where
  -- a refusal of a lemma, where the lemmas are reached
  pub refuses_from_lemmas : GoalBegins claims c → (e : Refusal) → RefusesLemmas gs [] 0 c.lemmas e → RefusesLemmaCertificate claims gs c e
  refuses_from_lemmas begins (refusal.Overflow row o) refused = inr (inl (begins, refused))
  refuses_from_lemmas begins (refusal.Memory failed) refused = tt
  refuses_from_lemmas begins refusal.NoSuchClaim refused = absurd (never gs refusal.NoSuchClaim (λ ps rows l none. none) [] 0 c.lemmas refused)
  refuses_from_lemmas begins refusal.ZeroDenominator refused = absurd (never gs refusal.ZeroDenominator (λ ps rows l none. none) [] 0 c.lemmas refused)
  refuses_from_lemmas begins (refusal.LooseScale lemma) refused = absurd (never gs (refusal.LooseScale lemma) (λ ps rows l none. none) [] 0 c.lemmas refused)
  refuses_from_lemmas begins (refusal.Differs word want got) refused = absurd (never gs (refusal.Differs word want got) (λ ps rows l none. none) [] 0 c.lemmas refused)
  refuses_from_lemmas begins other refused = inl (begins, refused)

  -- a refusal of a row of the goal, where these are reached, or of their sum
  pub refuses_from_goal : HasLemmas claims gs c → (e : Refusal) → RefusesGoal gs (all_polynomials gs c) (row_count c.lemmas) c.goal (goal_claim claims c) e → RefusesLemmaCertificate claims gs c e
  refuses_from_goal has (refusal.Overflow row o) refused = inr (inr (has, refused))
  refuses_from_goal has (refusal.NoSuchGenerator row) refused = inr (has, refused)
  refuses_from_goal has (refusal.NoSuchLemma row) refused = inr (has, refused)
  refuses_from_goal has (refusal.Size row) refused = inr (has, refused)
  refuses_from_goal has (refusal.Differs word want got) refused = record { adds_up = record { lemmas = has; rows = refused.rows }; difference = refused.difference }
  refuses_from_goal has (refusal.Memory failed) refused = tt
  refuses_from_goal has other refused = absurd refused

  pub shows_result : (r : Result Accepted Refusal) → OnOk r (AcceptsLemmas claims gs c) → OnOk r (IsEvidenceOf gs (all_polynomials gs c) c (goal_claim claims c))
  shows_result (Ok a) accepted = shows claims gs c accepted
  shows_result (Err e) none = tt
