-- Where a word can occur in another one, or overlap it.
use Rattle.ambiguities.proofs.Prelude.{◌≡◌, ℕ, ◌+◌, ◌<◌, ◌≤◌, List, length, take, drop, get_or, ap, ◌∙◌, arith, length-take-le, length-drop, length-append, same_lists, get_or-take, get_or-drop, get_or_default, OccursAt, OverlapsAt, OccursAt-length}

module _ (word sub : List ℕ) (place : ℕ) where
  pub front_is : place + length sub ≤ length word → ((k : ℕ) → k < length sub → get_or word (place + k) 0 ≡ get_or sub k 0) → take (length sub) (drop place word) ≡ sub
  front_is fits agree = same_lists (take (length sub) (drop place word)) sub lengths letters
    where
      lengths : length (take (length sub) (drop place word)) ≡ length sub
      lengths = length-take-le (length sub) (drop place word) (omega (arith, length-drop place word, fits))

      letters : (k : ℕ) (d : ℕ) → k < length (take (length sub) (drop place word)) → get_or (take (length sub) (drop place word)) k d ≡ get_or sub k d
      letters k d inside =
          let k_in : k < length sub = omega (arith, inside, lengths) in
          get_or-take (length sub) (drop place word) k d k_in
          ∙ get_or-drop place word k d
          ∙ get_or_default word (place + k) d 0 (omega (arith, fits, k_in))
          ∙ agree k k_in
          ∙ get_or_default sub k 0 d k_in

  pub occurs_within : OccursAt word sub place → place < length word + 1
  occurs_within at = omega (arith, OccursAt-length word sub place at)

-- an overlap begins inside the left word
pub overlaps_within : (p q : List ℕ) (place : ℕ) → OverlapsAt p q place → place < length p
overlaps_within p q place at = omega (arith, ap length at.left_splits, length-append at.before at.shared, at.at_place, at.shared_letters)

-- and the second word ends after it
pub overlaps_past : (p q : List ℕ) (place : ℕ) → OverlapsAt p q place → length p < place + length q
overlaps_past p q place at =
    omega (arith, ap length at.left_splits, length-append at.before at.shared, at.at_place, ap length at.right_splits, length-append at.shared at.after, at.after_letters)
