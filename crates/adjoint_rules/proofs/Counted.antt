-- How many generators there are.
use Rattle.adjoint_rules.proofs.Prelude.{◌≡◌, ℕ, suc, ◌+◌, ◌-◌, ◌*◌, ◌<◌, ◌≤◌, negsuc, Bool, true, false, cond, ◌||◌, List, [], ◌∷◌, ◌++◌, length, refl, ap, subst, sym, arith, eqb, leb, eqb-true, All, AllPairs, flat_map, range_with_len, sum_by, false_from_ne_true, length-append, length-map, length-flat_map, All-head, All-tail, All-map, All-weaker, length_all_zip, length-range_with_len, sum_by-cons, Term, SamePolynomial, poly_eq, poly_multiple, Quiver, letters, source, target, star, adjoint_poly, new_adjoint, left_unit, right_unit, letter_units, units, Object, Poly, object_count, quiver_of, letters-quiver_of, few_letters, Parts, generator_limit, polynomials, numbers, IsPosed, IsClosed, generators_in, adjoints_in, units_in}

-- sums
sum_le : {X : Type 0} (f g h : X → ℕ) → ((x : X) → f x ≤ g x + h x) → (xs : List X) → sum_by f xs ≤ sum_by g xs + sum_by h xs
sum_le f g h each [] = omega arith
sum_le f g h each (x ∷ xs) = omega (arith, each x, sum_le f g h each xs, sum_by-cons f x xs, sum_by-cons g x xs, sum_by-cons h x xs)

sum_of_none : {X : Type 0} (xs : List X) → sum_by (λ x. 0) xs ≡ 0
sum_of_none [] = refl
sum_of_none (x ∷ xs) = omega (arith, sum_of_none xs, sum_by-cons (λ y. 0) x xs)

sum_of_ones : {X : Type 0} (xs : List X) → sum_by (λ x. 1) xs ≡ length xs
sum_of_ones [] = refl
sum_of_ones (x ∷ xs) = omega (arith, sum_of_ones xs, sum_by-cons (λ y. 1) x xs)

-- ascending numbers
abbrev Ascends : List ℕ → Type 0
Ascends [] = Unit {0}
Ascends (v ∷ vs) = All (λ w. v < w) vs × Ascends vs

ascends_from_pairs : (vs : List Object) → AllPairs (λ v w. v.0 < w.0) vs → Ascends (numbers vs)
ascends_from_pairs [] h = tt
ascends_from_pairs (v ∷ vs) h = (
  All-map (λ w. v.0 < w) (λ w. w.0) vs (λ i x k. h 0 (suc i) x (omega arith) (omega arith)),
  ascends_from_pairs vs (λ i j x k l. h (suc i) (suc j) x (omega arith) (omega arith)),
)

-- at most n numbers are below n
length_ascending : (k n : ℕ) (vs : List ℕ) → Ascends vs → All (λ v. k ≤ v) vs → All (λ v. v < n) vs → length vs ≤ n - k
length_ascending k n [] up from below = omega arith
length_ascending k n (v ∷ vs) up from below =
    let later = All-weaker (λ w. v < w) (λ w. v + 1 ≤ w) (λ w h. omega (arith, h)) vs up.0 in
    omega (arith, All-head (λ w. k ≤ w) v vs from, All-head (λ w. w < n) v vs below, length_ascending (v + 1) n vs up.1 later (All-tail (λ w. w < n) v vs below))

-- how often a number is listed
abbrev bit : Bool → ℕ
bit b = cond b 1 0

abbrev hits : ℕ → List ℕ → ℕ
hits x vs = sum_by (λ v. bit (eqb x v)) vs

no_hit : (x : ℕ) (vs : List ℕ) → All (λ w. x < w) vs → hits x vs ≡ 0
no_hit x [] h = refl
no_hit x (v ∷ vs) h =
    let other : eqb x v ≡ false = false_from_ne_true (eqb x v) (λ e. absurd (omega (arith, All-head (λ w. x < w) v vs h, eqb-true x v e))) in
    omega (arith, sum_by-cons (λ w. bit (eqb x w)) v vs, ap bit other, no_hit x vs (All-tail (λ w. x < w) v vs h))

hits_once : (x : ℕ) (vs : List ℕ) → Ascends vs → hits x vs ≤ 1
hits_once x [] up = omega arith
hits_once x (v ∷ vs) up = go (eqb x v) refl (hits_once x vs up.1)
  where
    go : (b : Bool) → eqb x v ≡ b → hits x vs ≤ 1 → hits x (v ∷ vs) ≤ 1
    go true e rest =
        let none : hits x vs ≡ 0 = no_hit x vs (subst (λ y. All (λ w. y < w) vs) (sym (eqb-true x v e)) up.0) in
        omega (arith, sum_by-cons (λ w. bit (eqb x w)) v vs, ap bit e, none)
    go false e rest = omega (arith, sum_by-cons (λ w. bit (eqb x w)) v vs, ap bit e, rest)

-- the relations of identities
module _ (q : Quiver) (starred : Bool) where
  few_each : (a v : ℕ) → length (letter_units q starred v a) ≤ bit (eqb (target q a) v) + bit (eqb (source q a) v)
  few_each a v = go (starred || leb a (star q a)) (eqb (target q a) v) (eqb (source q a) v)
    where
      go : (b c d : Bool) → length (cond b (cond c (left_unit v a ∷ []) [] ++ cond d (right_unit v a ∷ []) []) []) ≤ bit c + bit d
      go true true true = omega arith
      go true true false = omega arith
      go true false true = omega arith
      go true false false = omega arith
      go false c d = omega arith

  -- a letter ends at one object and starts at one
  few_of_letter : (a : ℕ) (vs : List ℕ) → Ascends vs → sum_by (λ v. length (letter_units q starred v a)) vs ≤ 2
  few_of_letter a vs up =
      omega (
        arith,
        sum_le (λ v. length (letter_units q starred v a)) (λ v. bit (eqb (target q a) v)) (λ v. bit (eqb (source q a) v)) (few_each a) vs,
        hits_once (target q a) vs up,
        hits_once (source q a) vs up,
      )

  few_of_letters : (ns vs : List ℕ) → Ascends vs → sum_by (λ v. length (flat_map (letter_units q starred v) ns)) vs ≤ 2 * length ns
  few_of_letters [] vs up = omega (arith, sum_of_none vs)
  few_of_letters (a ∷ ns) vs up =
      omega (
        arith,
        sum_le (λ v. length (flat_map (letter_units q starred v) (a ∷ ns))) (λ v. length (letter_units q starred v a)) (λ v. length (flat_map (letter_units q starred v) ns))
            (λ v. omega (arith, length-append (letter_units q starred v a) (flat_map (letter_units q starred v) ns))) vs,
        few_of_letter a vs up,
        few_of_letters ns vs up,
      )

  few_units : (vs : List ℕ) → Ascends vs → length (flat_map (units q starred) vs) ≤ length vs + 2 * (letters q - q.objects)
  few_units vs up =
      let ns = range_with_len q.objects (letters q - q.objects) in
      omega (
        arith,
        length-flat_map (units q starred) vs,
        sum_le (λ v. length (units q starred v)) (λ v. 1) (λ v. length (flat_map (letter_units q starred v) ns)) (λ v. omega arith) vs,
        sum_of_ones vs,
        few_of_letters ns vs up,
        length-range_with_len q.objects (letters q - q.objects),
      )

  few_adjoints : (ps : List (List Term)) → length (flat_map (new_adjoint q) ps) ≤ length ps
  few_adjoints [] = omega arith
  few_adjoints (p ∷ ps) = omega (arith, length-append (new_adjoint q p) (flat_map (new_adjoint q) ps), few_adjoints ps, one (poly_eq (adjoint_poly q p) p || poly_eq (adjoint_poly q p) (poly_multiple (negsuc 0) p)))
    where
      one : (b : Bool) → length (cond b [] (adjoint_poly q p ∷ [])) ≤ 1
      one true = omega arith
      one false = omega arith

few_generators : (p : Parts) → IsPosed p → length (generators_in p) ≤ generator_limit
few_generators p posed =
    let q = quiver_of p.quiver in
    let ps = polynomials p.assumptions in
    let vs = numbers p.marked in
    let up = ascends_from_pairs p.marked posed.marked_ascending in
    let below = All-map (λ v. v < object_count p.quiver) (λ v. v.0) p.marked posed.marked_objects in
    omega (
      arith,
      length-append ps (adjoints_in p ++ units_in p),
      length-append (adjoints_in p) (units_in p),
      adjoints p.starred,
      few_units q p.starred vs up,
      length_ascending 0 (object_count p.quiver) vs up (λ i v inside. omega arith) below,
      letters-quiver_of p.quiver,
      few_letters p.quiver,
      posed.declared.few_objects,
      posed.declared.few_maps,
      posed.few_assumptions,
      length-map p.assumptions (λ f. f.terms),
    )
  where
    adjoints : (b : Bool) → length (cond b (flat_map (new_adjoint (quiver_of p.quiver)) (polynomials p.assumptions)) []) ≤ length (polynomials p.assumptions)
    adjoints true = few_adjoints (quiver_of p.quiver) true (polynomials p.assumptions)
    adjoints false = omega arith

pub few_closed : (p : Parts) (generators : List Poly) → IsPosed p → IsClosed p generators → length generators ≤ generator_limit
few_closed p generators posed closed =
    omega (arith, few_generators p posed, length_all_zip SamePolynomial (polynomials generators) (generators_in p) closed.same, length-map generators (λ f. f.terms))

-- the relations of identities are among the generators
pub few_units_closed : (p : Parts) (generators : List Poly) → IsClosed p generators → length (units_in p) ≤ length generators
few_units_closed p generators closed =
    omega (
      arith,
      length-append (polynomials p.assumptions) (adjoints_in p ++ units_in p),
      length-append (adjoints_in p) (units_in p),
      length_all_zip SamePolynomial (polynomials generators) (generators_in p) closed.same,
      length-map generators (λ f. f.terms),
    )
