-- Fronts of lists.
use Rattle.rule_index.proofs.Prelude.{◌≡◌, ℕ, zero, suc, ◌<◌, ◌≤◌, List, [], ◌∷◌, length, take, min, refl, sym, ap, ◌∙◌, arith, length-take, get_or-take, IsAscending}

pub take-take : {X : Type 0} (m n : ℕ) (xs : List X) → m ≤ n → take m (take n xs) ≡ take m xs
take-take zero n xs below = refl
take-take (suc m) zero xs below = absurd (omega arith)
take-take (suc m) (suc n) [] below = refl
take-take (suc m) (suc n) (x ∷ xs) below = ap (λ ys. x ∷ ys) (take-take m n xs (omega arith))

pub front-short : {X : Type 0} (xs ys : List X) → take (length xs) ys ≡ xs → length xs ≤ length ys
front-short xs ys front = omega (arith, ap length front, length-take (length xs) ys)

-- the front of a front
pub front-more : {X : Type 0} (xs ys zs : List X) → take (length xs) ys ≡ xs → take (length ys) zs ≡ ys → take (length xs) zs ≡ xs
front-more xs ys zs first second = sym (take-take (length xs) (length ys) zs (front-short xs ys first)) ∙ ap (take (length xs)) second ∙ first

-- numbers that ascend ascend at the front
pub ascending-take : (entries : List (List ℕ × ℕ)) (count : ℕ) → IsAscending entries → IsAscending (take count entries)
ascending-take entries count up = λ i j d below inside.
    let within : j < min count (length entries) = omega (arith, length-take count entries) in
    let j_is = get_or-take count entries j d (omega (arith, within)) in
    let i_is = get_or-take count entries i d (omega (arith, within)) in
    omega (arith, ap (λ e. e.1) i_is, ap (λ e. e.1) j_is, up i j d below (omega (arith, within)))
