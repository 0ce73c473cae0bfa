-- Tables that mark letters, one letter after another.
use Rattle.cancel_rules.proofs.Prelude.{◌≡◌, ◌≢◌, ◌⊎◌, inl, inr, ℕ, ◌<◌, Bool, true, false, List, [], ◌∷◌, ◌++◌, length, get_or, set, sym, ap, subst, ◌∙◌, Contains, cases_eq, get_or-set_same, get_or-set_other, Contains-push, Contains-push_cases, Contains-append_left, Letter, MarksLetters}

pub one_more : (letters : List Letter) (a : Letter) (marks : List Bool) → a.0 < length marks → MarksLetters letters marks → MarksLetters (letters ++ a ∷ []) (set marks a.0 true)
one_more letters a marks inside so_far = record { each = λ b. by b (cases_eq b.0 a.0) }
  where
    first : (b : Letter) → b.0 ≢ a.0 → Contains letters b ⊎ (a ≡ b) → Contains letters b
    first b apart (inl earlier) = earlier
    first b apart (inr same) = absurd (apart (ap (λ (l : Letter). l.0) (sym same)))

    by : (b : Letter) → (b.0 ≡ a.0) ⊎ (b.0 ≡ a.0 → ⊥) → ((get_or (set marks a.0 true) b.0 false ≡ true) → Contains (letters ++ a ∷ []) b) × (Contains (letters ++ a ∷ []) b → (get_or (set marks a.0 true) b.0 false ≡ true))
    by b (inl same) = (
      λ is. subst (Contains (letters ++ a ∷ [])) (ap (λ (n : ℕ). record { 0 = n }) (sym same)) (Contains-push letters a),
      λ h. ap (λ n. get_or (set marks a.0 true) n false) same ∙ get_or-set_same marks a.0 true false inside,
    )
    by b (inr apart) =
        let other = get_or-set_other marks a.0 b.0 true false apart in (
          λ is. Contains-append_left letters (a ∷ []) b ((so_far.each b).0 (sym other ∙ is)),
          λ h. other ∙ (so_far.each b).1 (first b apart (Contains-push_cases letters a b h)),
        )
