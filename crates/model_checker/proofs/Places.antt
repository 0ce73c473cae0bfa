-- What is known of the polynomial at a place of a list, and of the first places of a list.
use Rattle.model_checker.proofs.Prelude.{◌≡◌, ℕ, suc, ◌+◌, ◌-◌, ◌<◌, ◌≤◌, ℤ, List, [], ◌∷◌, length, get_or, take, Some, MatchOption, All, slice_get, option_map, refl, sym, ap, subst, ◌∙◌, arith, AllByRecursion, AllZip, IsSomeAnd, take_more, length-map, All-get_or, get_or_from_slice_get, slice_get-map, slice_get_read, slice_get_within, AllZip-left, generator_at, all-append, Poly, polynomials}

-- places
pub item_at : {X : Type 0} (items xs : List X) (k : ℕ) (x : X) → items ≡ xs → k < length items → x ≡ get_or items k x → slice_get xs k ≡ Some x
item_at items xs k x same below is = ap (λ ys. slice_get ys k) (sym same) ∙ slice_get_read items (length items) k x refl below is

pub all_at : {X : Type 0} (P : X → Type 0) (xs : List X) (k : ℕ) (x : X) → All P xs → slice_get xs k ≡ Some x → P x
all_at P xs k x all is = subst P (get_or_from_slice_get xs k x x is) (All-get_or P xs k x (slice_get_within xs k x is) all)

pub zip_at : {X Y : Type 0} (R : X → Y → Type 0) (xs : List X) (ys : List Y) (k : ℕ) (x : X) (y : Y) → AllZip R xs ys → slice_get xs k ≡ Some x → slice_get ys k ≡ Some y → R x y
zip_at R xs ys k x y all is_x is_y =
    subst (λ o. IsSomeAnd o (R x)) is_y (subst (λ o. MatchOption o (Unit {0}) (λ z. IsSomeAnd (slice_get ys k) (R z))) is_x (AllZip-left R xs ys all k))

-- polynomials, numbered from 1
pub generator_at-suc : (ps : List Poly) (k : ℕ) (p : Poly) → slice_get ps k ≡ Some p → generator_at (polynomials ps) (k + 1) ≡ p.terms
generator_at-suc ps k p is =
    let next : k + 1 ≡ suc k = omega arith in
    ap (generator_at (polynomials ps)) next
    ∙ get_or_from_slice_get (polynomials ps) k p.terms [] (slice_get-map (λ r. r.terms) ps k ∙ ap (option_map (λ r. r.terms)) is)

pub generator_at-number : (ps : List Poly) (n : ℕ) (p : Poly) → 1 ≤ n → slice_get ps (n - 1) ≡ Some p → generator_at (polynomials ps) n ≡ p.terms
generator_at-number ps n p least is =
    let number : n - 1 + 1 ≡ n = omega arith in
    ap (generator_at (polynomials ps)) (sym number) ∙ generator_at-suc ps (n - 1) p is

pub inside : (ps : List Poly) (k : ℕ) (p : Poly) → slice_get ps k ≡ Some p → k < length (polynomials ps)
inside ps k p is = subst (λ n. k < n) (sym (length-map ps (λ r. r.terms))) (slice_get_within ps k p is)

-- what holds of the first ones and of the next
pub one_more : (P : List (ℤ × List ℕ) → Type 0) (ps : List Poly) (k : ℕ) (p : Poly) → slice_get ps k ≡ Some p → AllByRecursion P (take k (polynomials ps)) → P p.terms
    → AllByRecursion P (take (k + 1) (polynomials ps))
one_more P ps k p is before here =
    let there = get_or_from_slice_get (polynomials ps) k p.terms [] (slice_get-map (λ r. r.terms) ps k ∙ ap (option_map (λ r. r.terms)) is) in
    subst (AllByRecursion P) (sym (take_more (polynomials ps) k [] (inside ps k p is)))
    (all-append P (take k (polynomials ps)) (get_or (polynomials ps) k [] ∷ []) before (subst P (sym there) here, tt))
