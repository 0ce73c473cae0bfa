-- Letters that are solved maps or adjoints of these, and the flags of the entries of a map.
use Rattle.model_candidates.proofs.Prelude.{◌≡◌, ℕ, ◌<◌, ◌≤◌, suc, Bool, true, false, cond, ◌||◌, nat_eq, List, [], ◌∷◌, length, map, filter, replicate, ◌⊎◌, inl, inr, refl, sym, ap, ap₂, ◌∙◌, eq-eqb, ne_eqb, arith, AllByRecursion, cases_eq, Quiver, IsQuiver, letters, star, Letter, is_solved, is_solved_map}

either_of_both : (x y u v : Bool) → ((x || y) || (u || v)) ≡ ((x || u) || (y || v))
either_of_both true y u v = refl
either_of_both false true true v = refl
either_of_both false true false v = refl
either_of_both false false u v = refl

-- a letter is the adjoint of another exactly where its adjoint is the other
adjoint_of : {q : Quiver} {a l : ℕ} → IsQuiver q → a < letters q → l < letters q → nat_eq a (star q l) ≡ nat_eq (star q a) l
adjoint_of {q} {a} {l} quiver in_a in_l = go (cases_eq a (star q l))
  where
    go : (a ≡ star q l) ⊎ (a ≡ star q l → ⊥) → nat_eq a (star q l) ≡ nat_eq (star q a) l
    go (inl same) = eq-eqb a (star q l) same ∙ sym (eq-eqb (star q a) l (ap (star q) same ∙ quiver.star_star l in_l))
    go (inr other) = ne_eqb a (star q l) other ∙ sym (ne_eqb (star q a) l (λ e. other (sym (quiver.star_star a in_a) ∙ ap (star q) e)))

pub solved_by_maps : {q : Quiver} (solved : List Letter) (a : ℕ) → IsQuiver q → a < letters q → AllByRecursion (λ l. l.0 < letters q) solved
    → (is_solved_map solved a || is_solved_map solved (star q a)) ≡ is_solved q solved a
solved_by_maps [] a quiver in_a in_solved = refl
solved_by_maps {q} (l ∷ solved) a quiver in_a in_solved =
    either_of_both (nat_eq a l.0) (is_solved_map solved a) (nat_eq (star q a) l.0) (is_solved_map solved (star q a))
    ∙ ap₂ (λ x y. (nat_eq a l.0 || x) || y) (sym (adjoint_of quiver in_a in_solved.0)) (solved_by_maps solved a quiver in_a in_solved.1)

-- a test that gives the same for each item
pub map-same : {X Y : Type 0} (f : X → Y) (xs : List X) (y : Y) → AllByRecursion (λ x. f x ≡ y) xs → map f xs ≡ replicate (length xs) y
map-same f [] y all = refl
map-same f (x ∷ xs) y all = ap₂ (λ z zs. z ∷ zs) all.0 (map-same f xs y all.1)

pub few_kept : {X : Type 0} (keep : X → Bool) (xs : List X) → length (filter keep xs) ≤ length xs
few_kept keep [] = omega arith
few_kept keep (x ∷ xs) = go (keep x) (few_kept keep xs)
  where
    go : (b : Bool) → length (filter keep xs) ≤ length xs → length (cond b (x ∷ filter keep xs) (filter keep xs)) ≤ suc (length xs)
    go true few = omega (arith, few)
    go false few = omega (arith, few)
