-- one change of the table in which rows are added up
use Rattle.cofactor_checker.proofs.Prelude.{◌≡◌, ◌≢◌, ℕ, ℤ, pos, ◌+ℤ◌, List, [], ◌∷◌, Bool, true, false, cond, Option, Some, unwrap_or, sym, refl, ap, ◌∙◌, subst, get, +ℤ_idr, IsCoefficient, word_eq, word_eq-true, Table, coefficient_at, IsTable, Adds}

module _ (m n : Table) (w : List ℕ) (v : Option ℤ) (after : (u : List ℕ) → get word_eq n u ≡ cond (word_eq w u) v (get word_eq m u)) where
  -- the word's coefficient has grown by x, and no other has changed
  pub adds_from_update : (x : ℤ) → unwrap_or v (pos 0) ≡ coefficient_at m w +ℤ x → Adds m n ((x, w) ∷ [])
  adds_from_update x grown = record { at = λ u. ap (λ o. unwrap_or o (pos 0)) (after u) ∙ go u (word_eq w u) refl }
    where
      go : (u : List ℕ) (b : Bool) → word_eq w u ≡ b → unwrap_or (cond b v (get word_eq m u)) (pos 0) ≡ coefficient_at m u +ℤ (cond (word_eq w u) x (pos 0) +ℤ pos 0)
      go u true same = grown ∙ ap (λ y. coefficient_at m y +ℤ x) (word_eq-true w u same) ∙ ap (λ k. coefficient_at m u +ℤ k) (sym (ap (λ b. cond b x (pos 0) +ℤ pos 0) same ∙ +ℤ_idr x))
      go u false apart = sym (ap (λ b. coefficient_at m u +ℤ (cond b x (pos 0) +ℤ pos 0)) apart ∙ +ℤ_idr (coefficient_at m u))

  -- the table has still no zeros, and coefficients alone
  pub table_from_update : IsTable m → v ≢ Some (pos 0) → IsCoefficient (unwrap_or v (pos 0)) → IsTable n
  table_from_update kept nonzero in_range = record {
    nonzero = λ u zero. go u (word_eq w u) (sym (after u) ∙ zero);
    in_range = λ u. subst (λ o. IsCoefficient (unwrap_or o (pos 0))) (sym (after u)) (within u (word_eq w u));
  }
    where
      go : (u : List ℕ) (b : Bool) → cond b v (get word_eq m u) ≡ Some (pos 0) → ⊥
      go u true zero = nonzero zero
      go u false zero = kept.nonzero u zero

      within : (u : List ℕ) (b : Bool) → IsCoefficient (unwrap_or (cond b v (get word_eq m u)) (pos 0))
      within u true = in_range
      within u false = kept.in_range u

-- nothing is added with the coefficient zero
pub adds_zero : (m : Table) (w : List ℕ) → Adds m m ((pos 0, w) ∷ [])
adds_zero m w = record { at = λ u. go u (word_eq w u) }
  where
    go : (u : List ℕ) (b : Bool) → coefficient_at m u ≡ coefficient_at m u +ℤ (cond b (pos 0) (pos 0) +ℤ pos 0)
    go u true = sym (+ℤ_idr (coefficient_at m u))
    go u false = sym (+ℤ_idr (coefficient_at m u))
