-- The prefixes of the words of an index, and how many there are.
use Rattle.std.specs.Prelude.{◌≡◌, ◌↔◌, ℕ, ◌<◌, ◌||◌, ◌&&◌, Bool, true, false, nat_eq, List, [], ◌∷◌, length, get_or}
use Rattle.rule_index.specs.Matches.{begins_with}

-- whether two words are the same
abbrev pub same_word : List ℕ → List ℕ → Bool
same_word [] [] = true
same_word [] (y ∷ w) = false
same_word (x ∷ v) [] = false
same_word (x ∷ v) (y ∷ w) = nat_eq x y && same_word v w

-- whether the word is among the words
abbrev pub has : List (List ℕ) → List ℕ → Bool
has [] w = false
has (v ∷ words) w = same_word w v || has words w

abbrev pub word_at : List (List ℕ) → ℕ → List ℕ
word_at words k = get_or words k []

-- whether the word is a prefix of the word of an entry, or empty
abbrev pub is_prefix : List (List ℕ × ℕ) → List ℕ → Bool
is_prefix [] w = same_word w []
is_prefix (e ∷ entries) w = begins_with e.0 w || is_prefix entries w

-- the number of distinct prefixes of the entries' words, the empty one included
pub record IsPrefixCount (entries : List (List ℕ × ℕ)) (count : ℕ) : Type 0 where
  pub words : List (List ℕ)
  pub counted : length words ≡ count
  pub distinct : (j k : ℕ) → j < length words → k < length words → word_at words j ≡ word_at words k → j ≡ k
  pub listed : (w : List ℕ) → (has words w ≡ true) ↔ (is_prefix entries w ≡ true)
