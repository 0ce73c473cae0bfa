-- Where one word occurs in another.
use Rattle.std.specs.Prelude.{◌≡◌, ℕ, ◌<◌, List, ◌++◌, length}

-- the word is the other with some letters on either side, those before it as many as the place says
pub record OccursAt (word sub : List ℕ) (place : ℕ) : Type 0 where
  pub before : List ℕ
  pub after : List ℕ
  pub splits : word ≡ before ++ (sub ++ after)
  pub at_place : length before ≡ place

-- it occurs at this place, and at none further left
pub record IsFirstPlace (word sub : List ℕ) (place : ℕ) : Type 0 where
  pub occurs : OccursAt word sub place
  pub least : (earlier : ℕ) → earlier < place → OccursAt word sub earlier → ⊥

-- it occurs at no place
abbrev pub OccursNowhere : List ℕ → List ℕ → Type 0
OccursNowhere word sub = (place : ℕ) → OccursAt word sub place → ⊥
