-- The first place in a list at which a test passes, and the letters of a word from a place on.
use Rattle.model_candidates.proofs.Prelude.{◌≡◌, ℕ, suc, ◌+◌, ◌<◌, ◌≤◌, Bool, true, false, cond, ltb, List, ◌∷◌, length, get_or, take, drop, Some, None, ap, ◌∙◌, arith, position, position_or_len, le-ltb, lt-ltb, get_or-take, length-take-le, position_or_len_is, drop-cons}

pub first_place : {X : Type 0} (p : X → Bool) (xs : List X) (d : X) {place : ℕ} → place < length xs
    → ((k : ℕ) → k < place → p (get_or xs k d) ≡ false) → p (get_or xs place d) ≡ true → position p xs ≡ Some place
first_place p xs d {place} inside before here =
    let first : position_or_len p xs ≡ place = position_or_len_is p xs place d (omega (arith, inside)) before (λ _. here) in
    ap (λ n. cond (ltb n (length xs)) (Some n) None) first ∙ ap (λ b. cond b (Some place) None) (lt-ltb place (length xs) inside)

pub no_place : (p : ℕ → Bool) (xs : List ℕ) (count : ℕ) → length xs ≤ count → ((k : ℕ) → k < count → p (get_or xs k 0) ≡ false) → position p xs ≡ None
no_place p xs count all none =
    let last : position_or_len p xs ≡ length xs =
    position_or_len_is p xs (length xs) 0 (omega arith) (λ k inside. none k (omega (arith, inside, all))) (λ inside. absurd (omega (arith, inside))) in
    ap (λ n. cond (ltb n (length xs)) (Some n) None) last ∙ ap (λ b. cond b (Some (length xs)) None) (le-ltb (length xs) (length xs)
    (omega arith))

-- the letters before `to`, from a place on
pub letters_from : (w : List ℕ) {place to : ℕ} → place < to → to ≤ length w → drop place (take to w) ≡ get_or w place 0 ∷ drop (place + 1) (take to w)
letters_from w {place} {to} before within =
    let size = length-take-le to w within in
    let next : suc place ≡ place + 1 = omega arith in
    drop-cons (take to w) place 0 (omega (arith, size, before))
    ∙ ap (λ x. x ∷ drop (suc place) (take to w)) (get_or-take to w place 0 before)
    ∙ ap (λ n. get_or w place 0 ∷ drop n (take to w)) next
