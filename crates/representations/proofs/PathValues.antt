-- The value of a path, made from its last letter on.
use Rattle.representations.proofs.Prelude.{◌≡◌, ℕ, suc, ◌<◌, List, length, get_or, drop, sym, ap, ap₂, subst, ◌∙◌, Structure, IsArrow, PreadditiveLaws, Quiver, source, target, word_value, letter_is_arrow, word_value_is_arrow, listed, IsRepresentation}
use Rattle.representations.proofs.Suffixes.{HasPath, suffix_path, letter_within, letters_meet, value-next}

module _ {Object Arrow : Type 0} {s : Structure Object Arrow} (laws : PreadditiveLaws s) {q : Quiver} {objects : List Object} {arrows : List Arrow}
    (rep : IsRepresentation s q objects arrows) {w : List ℕ} (whole : HasPath q w) where
  pub letter_in_list : (place letter : ℕ) → place < length w → letter ≡ get_or w place 0 → letter < length arrows
  letter_in_list place letter within is =
      subst (λ n. n < length arrows) (sym is) (subst (λ n. get_or w place 0 < n) (sym rep.arrows_length) (letter_within q whole.source whole.target w place whole.path within))

  -- the arrow of a letter, with its ends
  pub letter_arrow : (place letter : ℕ) → place < length w → letter ≡ get_or w place 0 → (x : Arrow) → ((a : Arrow) → x ≡ get_or arrows letter a)
      → (o : Object) → IsArrow s (get_or objects (source q (get_or w place 0)) o) (get_or objects (target q (get_or w place 0)) o) x
  letter_arrow place letter within is x x_is o =
      let b = get_or w place 0 in
      subst (IsArrow s (get_or objects (source q b) o) (get_or objects (target q b) o)) (sym (x_is x ∙ ap (λ n. get_or arrows n x) is))
      (letter_is_arrow laws q (listed objects arrows o x) (rep.represents o x) (target q b) b (letter_within q whole.source whole.target w place whole.path within) (λ i. target q b))

  -- the value of the letters from a place on, with its ends
  pub suffix_arrow : (place : ℕ) → place < length w → (y : Arrow) → ((o : Object) (a none : Arrow) → y ≡ word_value s (listed objects arrows o a) none (drop place w))
      → (o : Object) → IsArrow s (get_or objects whole.source o) (get_or objects (target q (get_or w place 0)) o) y
  suffix_arrow place within y y_is o =
      subst (IsArrow s (get_or objects whole.source o) (get_or objects (target q (get_or w place 0)) o)) (sym (y_is o y y))
      (word_value_is_arrow laws q (listed objects arrows o y) (rep.represents o y) whole.source (target q (get_or w place 0)) (drop place w) y (suffix_path q whole.source whole.target w place whole.path within))

  -- a letter's arrow and the value of the letters after it
  module _ (place next : ℕ) (follows : suc place ≡ next) (within : next < length w) where
    next_within : suc place < length w
    next_within = subst (λ n. n < length w) (sym follows) within

    pub ends_meet : (x y : Arrow) → ((o : Object) → IsArrow s (get_or objects (source q (get_or w place 0)) o) (get_or objects (target q (get_or w place 0)) o) x)
        → ((o : Object) → IsArrow s (get_or objects whole.source o) (get_or objects (target q (get_or w next 0)) o) y) → s.source x ≡ s.target y
    ends_meet x y x_ends y_ends =
        let o = s.source x in
        (x_ends o).source ∙ ap (λ n. get_or objects n o) (letters_meet q whole.source whole.target w place whole.path next_within ∙ ap (λ n. target q (get_or w n 0)) follows) ∙ sym (y_ends o).target

  pub value_from_next : (place next letter : ℕ) → suc place ≡ next → next < length w → letter ≡ get_or w place 0 → (x y z : Arrow) → ((a : Arrow) → x ≡ get_or arrows letter a)
      → ((o : Object) (a none : Arrow) → y ≡ word_value s (listed objects arrows o a) none (drop next w)) → z ≡ s.compose x y
      → (o : Object) (a none : Arrow) → z ≡ word_value s (listed objects arrows o a) none (drop place w)
  value_from_next place next letter follows within is x y z x_is y_is composed o a none =
      composed
      ∙ ap₂ s.compose (x_is a ∙ ap (λ n. get_or arrows n a) is) (y_is o a none ∙ ap (λ n. word_value s (listed objects arrows o a) none (drop n w)) (sym follows))
      ∙ sym (value-next s (listed objects arrows o a) none w place (subst (λ n. n < length w) (sym follows) within))
