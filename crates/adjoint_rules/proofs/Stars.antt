-- The adjoints of the letters of a quiver as a list.
use Rattle.adjoint_rules.proofs.Prelude.{◌≡◌, ℕ, ◌+◌, ◌<◌, List, [], ◌∷◌, ◌++◌, length, take, get_or, sym, ap, ap₂, subst, ◌∙◌, length-map, map-append, take_more, Letter, star, numbers_of, IsInvolution, Declaration, LetterEntry, letter_count, letter_table, letter_at, quiver_of, IsDeclared, length-letter_table, letter_is, star-quiver_of, in_range_from_table}

module _ (ds : List Declaration) where
  pub length-stars : length (quiver_of ds).stars ≡ letter_count ds
  length-stars = length-map (letter_table ds) (λ (e : LetterEntry). e.star) ∙ length-letter_table ds

  pub stars_are_involution : IsDeclared ds → IsInvolution (quiver_of ds).stars
  stars_are_involution declared = record {
    in_range = λ a h. subst (λ n. star (quiver_of ds) a < n) (sym length-stars) (below a (listed a h));
    twice = λ a h.
        star-quiver_of ds (star (quiver_of ds) a) (below a (listed a h))
        ∙ ap (λ b. (letter_at ds b).star) (star-quiver_of ds a (listed a h))
        ∙ (letter_is ds declared a (listed a h)).star_star;
  }
    where
      listed : (a : ℕ) → a < length (quiver_of ds).stars → a < letter_count ds
      listed a h = subst (λ n. a < n) length-stars h

      below : (a : ℕ) → a < letter_count ds → star (quiver_of ds) a < letter_count ds
      below a h = subst (λ b. b < letter_count ds) (sym (star-quiver_of ds a h)) (in_range_from_table ds (letter_at ds a).star (letter_is ds declared a h).star_is_letter)

-- one more letter of a list of numbers
pub numbers_more : (letters : List Letter) (l : Letter) (i : ℕ) (xs : List ℕ) → i < length xs → numbers_of letters ≡ take i xs → l.0 ≡ get_or xs i i → numbers_of (letters ++ l ∷ []) ≡ take (i + 1) xs
numbers_more letters l i xs below so_far is =
    map-append (λ (a : Letter). a.0) letters (l ∷ []) ∙ ap₂ (λ ys a. ys ++ a ∷ []) so_far is ∙ sym (take_more xs i i below)
