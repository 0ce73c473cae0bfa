-- What is numbered is written one after another.
use Rattle.certificate_text.proofs.Prelude.{◌≡◌, ◌<◌, ◌+◌, ℕ, suc, List, [], ◌∷◌, ◌++◌, arith, ap, sym, ◌∙◌, subst, length, take, get_or, All-get_or, append-nil, append_assoc, take_more, length-take-le, numbered_texts, All}

module _ {X : Type 0} (text_of : ℕ → X → List ℕ) where
  -- one more after others
  numbered_behind : (number : ℕ) (xs : List X) (x : X) → numbered_texts text_of number (xs ++ x ∷ []) ≡ numbered_texts text_of number xs ++ text_of (length xs + number) x
  numbered_behind number [] x =
      let none : 0 + number ≡ number = omega arith in
      rw none (append-nil _)
  numbered_behind number (y ∷ xs) x =
      let count : length xs + suc number ≡ suc (length xs) + number = omega arith in
      ap (λ t. text_of number y ++ t) (numbered_behind (suc number) xs x ∙ ap (λ n. numbered_texts text_of (suc number) xs ++ text_of n x) count)
      ∙ sym (append_assoc (text_of number y) (numbered_texts text_of (suc number) xs) (text_of (suc (length xs) + number) x))

  -- So many of them are appended to others, and this is the number of the next one.
  abbrev pub ArePut : List X → List ℕ → ℕ → ℕ → List ℕ → Type 0
  ArePut xs front place number out = (out ≡ front ++ numbered_texts text_of 1 (take place xs)) × (number ≡ place + 1)

  pub next_put : (xs : List X) (front : List ℕ) (place number : ℕ) (x d : X) (before after : List ℕ) → ArePut xs front place number before
      → place < length xs → x ≡ get_or xs place d → after ≡ before ++ text_of number x → ArePut xs front (place + 1) (number + 1) after
  next_put xs front place number x d before after are within read put =
      let split : take (place + 1) xs ≡ take place xs ++ get_or xs place d ∷ [] = take_more xs place d within in
      let count : length (take place xs) ≡ place = length-take-le place xs (omega (arith, within)) in (
        rw (put, are.0, split, ← read, numbered_behind 1 (take place xs) x, count, are.1) (append_assoc front (numbered_texts text_of 1 (take place xs)) (text_of (place + 1) x)),
        omega (arith, are.1),
      )

-- what holds of all holds of the one at a place
pub holds_there : {X : Type 0} (P : X → Type 0) (xs : List X) (place : ℕ) (x d : X) → All P xs → place < length xs → x ≡ get_or xs place d → P x
holds_there P xs place x d each within read = subst P (sym read) (All-get_or P xs place d within each)
