-- Each word of a typed polynomial in canonical form is a path.
use Rattle.representations.proofs.Prelude.{◌≡◌, ℤ, ℕ, true, List, All, Quiver, is_path, IsTyped, IsCanonical, recursion_from_IsDescending, distinct-descending, words_listed}

pub words_are_paths : (q : Quiver) (u v : ℕ) (p : List (ℤ × List ℕ)) → IsCanonical p → IsTyped q u v p → All (λ t. is_path q u v t.1 ≡ true) p
words_are_paths q u v p canonical typed =
    words_listed (λ w. is_path q u v w ≡ true) p (distinct-descending p (recursion_from_IsDescending p canonical.shaped.descending)) canonical.shaped.nonzero typed.at
