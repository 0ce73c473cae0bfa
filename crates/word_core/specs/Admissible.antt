-- Admissible orders of words.
use Rattle.std.specs.Prelude.{◌≡◌, ◌≤◌, ◌⊎◌, ℕ, List, [], ◌++◌, length}
use Rattle.std.specs.Cmp.{IsTotalOrder}
use Rattle.std.specs.Cmp.Lexicographic.{slice_cmp}
use Rattle.std.specs.Ordering.{nat_cmp}
use Rattle.std.specs.declared.cmp.Ordering.{Ordering}
use Rattle.std.specs.declared.cmp.Ordering.TheVariants.{Less, Equal}
use Rattle.word_core.specs.Letters.{IsOver}

-- how two words compare
abbrev pub Compare : Type 0
Compare = List ℕ → List ℕ → Ordering

-- An admissible order of the words over the letters below a number. Only the rank needs the letters to be below it.
pub record IsAdmissible (letters : ℕ) (compare : Compare) (rank : List ℕ → List ℕ) : Type 0 where
  -- total, and words that compare as equal are the same
  pub total : IsTotalOrder compare
  pub same : (u v : List ℕ) → compare u v ≡ Equal → u ≡ v
  -- the empty word is least
  pub least : (u : List ℕ) → (u ≡ []) ⊎ (compare [] u ≡ Less)
  -- the same words around two words keep their order
  pub around : (l u v r : List ℕ) → compare u v ≡ Less → compare (l ++ (u ++ r)) (l ++ (v ++ r)) ≡ Less
  -- a rank has at most three numbers, all ranks have the same number of them, and their lexicographic order is that of the words
  pub rank_short : (u : List ℕ) → length (rank u) ≤ 3
  pub rank_length : (u v : List ℕ) → length (rank u) ≡ length (rank v)
  pub ranked : (u v : List ℕ) → IsOver letters u → IsOver letters v → compare u v ≡ slice_cmp nat_cmp (rank u) (rank v)
