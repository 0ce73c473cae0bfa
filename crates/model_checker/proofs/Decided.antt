-- Whether a matrix is another, and whether it is one of a modulus, can be told.
use Rattle.model_checker.proofs.Prelude.{◌≡◌, ℕ, ◌*◌, ◌<◌, List, [], ◌∷◌, length, ◌⊎◌, inl, inr, refl, ap, cases_eq, IsDecided, decided_by, both_decided, le_decided, lt_decided, each_decided, modulus_limit, side_limit, Matrix, IsModulus, IsSide, HasShape, IsMatrix}

list_decided : (xs ys : List ℕ) → IsDecided (xs ≡ ys)
list_decided [] [] = inl refl
list_decided [] (y ∷ ys) = inr (λ e. cc)
list_decided (x ∷ xs) [] = inr (λ e. cc)
list_decided (x ∷ xs) (y ∷ ys) = go (cases_eq x y) (list_decided xs ys)
  where
    go : (x ≡ y) ⊎ (x ≡ y → ⊥) → IsDecided (xs ≡ ys) → IsDecided ((x ∷ xs) ≡ (y ∷ ys))
    go (inl same) (inl rest) = inl (λ i. same i ∷ rest i)
    go (inl same) (inr other) = inr (λ e. other (cc))
    go (inr other) d = inr (λ e. other (cc))

pub matrix_decided : (a b : Matrix) → IsDecided (a ≡ b)
matrix_decided a b =
    decided_by
    (λ h i. record { modulus = h.0 i; rows = h.1.0 i; columns = h.1.1.0 i; entries = h.1.1.1 i })
    (λ e. (ap (λ x. x.modulus) e, (ap (λ x. x.rows) e, (ap (λ x. x.columns) e, ap (λ x. x.entries) e))))
    (both_decided (cases_eq a.modulus b.modulus) (both_decided (cases_eq a.rows b.rows) (both_decided (cases_eq a.columns b.columns) (list_decided a.entries b.entries))))

side_decided : (n : ℕ) → IsDecided (IsSide n)
side_decided n =
    decided_by (λ h. record { positive = h.0; at_most = h.1 }) (λ side. (side.positive, side.at_most)) (both_decided (le_decided 1 n) (le_decided n side_limit))

-- entries below the modulus, with their number and the sides
pub is_matrix_decided : (m : ℕ) (a : Matrix) → IsDecided (IsMatrix m a)
is_matrix_decided m a =
    decided_by
    (λ h. record { is_modulus = h.0; modulus_is = h.1.0; shape = h.1.1.0; entries_below = h.1.1.1 })
    (λ is. (is.is_modulus, (is.modulus_is, (is.shape, is.entries_below))))
    (both_decided modulus (both_decided (cases_eq a.modulus m) (both_decided shape (each_decided (λ entry. entry < m) (λ entry. lt_decided entry m) a.entries))))
  where
    modulus : IsDecided (IsModulus m)
    modulus =
        decided_by (λ h. record { at_least = h.0; at_most = h.1 }) (λ is. (is.at_least, is.at_most)) (both_decided (le_decided 2 m) (le_decided m modulus_limit))

    shape : IsDecided (HasShape a.rows a.columns (length a.entries))
    shape =
        decided_by (λ h. record { rows_side = h.0; columns_side = h.1.0; size = h.1.1 }) (λ is. (is.rows_side, (is.columns_side, is.size)))
        (both_decided (side_decided a.rows) (both_decided (side_decided a.columns) (cases_eq (length a.entries) (a.rows * a.columns))))
