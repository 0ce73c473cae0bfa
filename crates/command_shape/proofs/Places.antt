-- A list up to a place, the item there, and what follows it.
use Rattle.command_shape.proofs.Prelude.{◌≡◌, ℕ, zero, suc, ◌+◌, ◌<◌, ◌≤◌, List, [], ◌∷◌, ◌++◌, length, take, drop, get_or, refl, sym, ap, ◌∙◌, arith}

module _ {Item : Type 0} where
  drop-suc : (bs : List Item) (place : ℕ) (b : Item) → place < length bs → b ≡ get_or bs place b → drop place bs ≡ b ∷ drop (suc place) bs
  drop-suc [] place b inside is = absurd (omega arith)
  drop-suc (d ∷ bs) zero b inside is = ap (λ x. x ∷ bs) (sym is)
  drop-suc (d ∷ bs) (suc place) b inside is = drop-suc bs place b (omega arith) is

  pub drop-at : (bs : List Item) (place : ℕ) (b : Item) → place < length bs → b ≡ get_or bs place b → drop place bs ≡ b ∷ drop (place + 1) bs
  drop-at bs place b inside is = let next : suc place ≡ place + 1 = omega arith in drop-suc bs place b inside is ∙ ap (λ n. b ∷ drop n bs) next

  pub drop-all : (bs : List Item) (place : ℕ) → length bs ≤ place → drop place bs ≡ []
  drop-all [] zero past = refl
  drop-all [] (suc place) past = refl
  drop-all (b ∷ bs) zero past = absurd (omega arith)
  drop-all (b ∷ bs) (suc place) past = drop-all bs place (omega arith)

  take-suc : (bs : List Item) (place : ℕ) (b : Item) → place < length bs → b ≡ get_or bs place b → take (suc place) bs ≡ take place bs ++ b ∷ []
  take-suc [] place b inside is = absurd (omega arith)
  take-suc (d ∷ bs) zero b inside is = ap (λ x. x ∷ []) (sym is)
  take-suc (d ∷ bs) (suc place) b inside is = ap (λ x. d ∷ x) (take-suc bs place b (omega arith) is)

  pub take-at : (bs : List Item) (place : ℕ) (b : Item) → place < length bs → b ≡ get_or bs place b → take (place + 1) bs ≡ take place bs ++ b ∷ []
  take-at bs place b inside is = let next : place + 1 ≡ suc place = omega arith in ap (λ n. take n bs) next ∙ take-suc bs place b inside is

  taken : (bs : List Item) (place : ℕ) → take place bs ++ drop place bs ≡ bs
  taken bs zero = refl
  taken [] (suc place) = refl
  taken (b ∷ bs) (suc place) = ap (λ x. b ∷ x) (taken bs place)

  pub splits-at : (bs : List Item) (place : ℕ) (b : Item) → place < length bs → b ≡ get_or bs place b → take place bs ++ b ∷ drop (place + 1) bs ≡ bs
  splits-at bs place b inside is = ap (λ x. take place bs ++ x) (sym (drop-at bs place b inside is)) ∙ taken bs place
