-- When words have the same letters from a place on, and marks of letters, by which many words are seen not to.
use Rattle.std.specs.Prelude.{◌≡◌, ℕ, ◌+◌, ◌%◌, ◌<◌, ◌≤◌, Bool, true, false, List, length, get_or}
use Rattle.ambiguities.specs.declared.ambiguity.Kind.{Kind}
use Rattle.ambiguities.specs.declared.ambiguity.Ambiguity.{Ambiguity}

-- the word from the place on and the other word have the same letters, up to the end of the shorter one
abbrev pub Agree : List ℕ → List ℕ → ℕ → Type 0
Agree word other place = (k : ℕ) → place + k < length word → k < length other → get_or word (place + k) 0 ≡ get_or other k 0

-- the first letter of a word, or 0 where there is none
abbrev pub first_of : List ℕ → ℕ
first_of word = get_or word 0 0

-- whether the letter is marked: its mark is its number modulo the number of marks
abbrev pub is_marked : List Bool → ℕ → Bool
is_marked marks letter = get_or marks (letter % length marks) false

-- all letters of the word are marked
abbrev pub HasMarks : List Bool → List ℕ → Type 0
HasMarks marks word = (k : ℕ) → k < length word → is_marked marks (get_or word k 0) ≡ true

-- an ambiguity of the two rules and the kind, at a place from one on up to another at which the words agree
pub record IsAgreement (i j : ℕ) (kind : Kind) (word other : List ℕ) (low high : ℕ) (a : Ambiguity) : Type 0 where
  pub first : a.i ≡ i
  pub second : a.j ≡ j
  pub of_kind : a.kind ≡ kind
  pub reached : low ≤ a.place
  pub below : a.place < high
  pub agree : Agree word other a.place
