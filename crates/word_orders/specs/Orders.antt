-- Admissible orders, as proofs about words use them.
use Rattle.std.specs.Prelude.{◌≡◌, ◌⊎◌, ℕ, List, ◌++◌}
use Rattle.std.specs.declared.cmp.Ordering.TheVariants.{Less}
use Rattle.word_core.specs.Letters.{IsOver}
use Rattle.word_orders.specs.Admissible.{Compare}

-- An admissible order of the words that are in range. What is less is in range, and so is what is greater.
pub record Order : Type 1 where
  pub Range : List ℕ → Type 0
  pub Less : List ℕ → List ℕ → Type 0
  pub less_range : (u v : List ℕ) → Less u v → Range u
  pub irreflexive : (u : List ℕ) → Less u u → ⊥
  pub less_trans : (u v w : List ℕ) → Less u v → Less v w → Less u w
  pub compare : (u v : List ℕ) → Range u → Range v → (u ≡ v) ⊎ (Less u v ⊎ Less v u)
  -- what holds of a word when it holds of all lower ones holds of all
  pub induction : (P : List ℕ → Type 0) → ((M : List ℕ) → ((L : List ℕ) → Less L M → P L) → P M) → (M : List ℕ) → P M
  pub compatible : (l u v r : List ℕ) → Range (l ++ (v ++ r)) → Less u v → Less (l ++ (u ++ r)) (l ++ (v ++ r))
  pub factor : (l u r : List ℕ) → Range (l ++ (u ++ r)) → Range u
  pub factor_le : (l u r : List ℕ) → Range (l ++ (u ++ r)) → (u ≡ l ++ (u ++ r)) ⊎ Less u (l ++ (u ++ r))
  pub range_decided : (u : List ℕ) → Range u ⊎ (Range u → ⊥)
  pub range_left : (l u r : List ℕ) → Range (l ++ (u ++ r)) → Range l
  pub range_right : (l u r : List ℕ) → Range (l ++ (u ++ r)) → Range r
  pub range_join : (l u r : List ℕ) → Range l → Range u → Range r → Range (l ++ (u ++ r))

-- both words are over the letters below the number, and the first is below the second
pub record IsBelow (letters : ℕ) (compare : Compare) (u v : List ℕ) : Type 0 where
  pub left : IsOver letters u
  pub right : IsOver letters v
  pub less : compare u v ≡ Less
