-- one change of the table in which a sum is kept
use Rattle.nc_polynomial.proofs.Prelude.{cases_Bool, cond_both, ◌≡◌, ◌≢◌, ℕ, ℤ, pos, ◌+ℤ◌, List, [], ◌∷◌, true, false, cond, Option, Some, unwrap_or, sym, ap, ◌∙◌, subst, inl, inr, BTreeMap, get, Updates, +ℤ_idr, IsCoefficient, word_cmp, word_eq, word_eq-true, coefficient_in, IsRunning, Adds}
use Rattle.nc_polynomial.proofs.Words.{word_eq-cmp}

module _ (m n : BTreeMap (List ℕ) ℤ) (w : List ℕ) (v : Option ℤ) (update : Updates word_cmp m n w v) where
  -- what the map has after the change
  get_after : (u : List ℕ) → get word_cmp n u ≡ cond (word_eq w u) v (get word_cmp m u)
  get_after u = update.0 u ∙ ap (λ b. cond b v (get word_cmp m u)) (sym (word_eq-cmp w u))

  -- the word's coefficient has grown by x, and no other has changed
  pub adds_from_update : (x : ℤ) → unwrap_or v (pos 0) ≡ coefficient_in m w +ℤ x → Adds m n ((x, w) ∷ [])
  adds_from_update x grown = record {
    at = λ u. ap (λ o. unwrap_or o (pos 0)) (get_after u) ∙ elim (cases_Bool (word_eq w u)) [
      | inl same ↦
          ap (λ b. unwrap_or (cond b v (get word_cmp m u)) (pos 0)) same ∙ grown ∙ ap (λ y. coefficient_in m y +ℤ x) (word_eq-true w u same)
          ∙ ap (λ k. coefficient_in m u +ℤ k) (sym (ap (λ b. cond b x (pos 0) +ℤ pos 0) same ∙ +ℤ_idr x))
      | inr apart ↦ ap (λ b. unwrap_or (cond b v (get word_cmp m u)) (pos 0)) apart ∙ sym (ap (λ b. coefficient_in m u +ℤ (cond b x (pos 0) +ℤ pos 0)) apart ∙ +ℤ_idr (coefficient_in m u))
    ];
  }

  -- the map has still no zeros, and coefficients alone
  pub running_from_update : IsRunning m → v ≢ Some (pos 0) → IsCoefficient (unwrap_or v (pos 0)) → IsRunning n
  running_from_update running nonzero in_range = record {
    nonzero = λ u zero. cond_both (word_eq w u) v (get word_cmp m u) (λ o. o ≡ Some (pos 0) → ⊥) (λ _. nonzero) (λ _. running.nonzero u) (sym (get_after u) ∙ zero);
    in_range = λ u. subst (λ o. IsCoefficient (unwrap_or o (pos 0))) (sym (get_after u))
        (cond_both (word_eq w u) v (get word_cmp m u) (λ o. IsCoefficient (unwrap_or o (pos 0))) (λ _. in_range) (λ _. running.in_range u));
  }

-- nothing is added with the coefficient zero
pub adds_zero : (m : BTreeMap (List ℕ) ℤ) (w : List ℕ) → Adds m m ((pos 0, w) ∷ [])
adds_zero m w = record {
  at = λ u. elim (word_eq w u) as (λ b. coefficient_in m u ≡ coefficient_in m u +ℤ (cond b (pos 0) (pos 0) +ℤ pos 0))
      [ true ↦ sym (+ℤ_idr (coefficient_in m u)) | false ↦ sym (+ℤ_idr (coefficient_in m u)) ];
}
