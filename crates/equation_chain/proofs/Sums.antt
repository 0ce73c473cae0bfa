-- The steps alone add up to what all rows add up to.
use Rattle.equation_chain.proofs.Prelude.{◌≡◌, ℕ, zero, suc, pos, ◌+ℤ◌, ◌*ℤ◌, Bool, true, false, cond, ◌&&◌, List, [], ◌∷◌, filter, map, get_or, sym, refl, ap, ◌∙◌, not, AllZip, int_eq, Decides-int_eq, +ℤ_idl, zero-*ℤ, Term, coefficient_of, poly_multiple, poly_between, IsTyped, Row, generator_at, row_poly, row_sum, is_typed_row, coefficient_of-append, coefficient_of-multiple, typed_rows_suffice, Poly, Sig, Declaration, quiver_of, ends_of, row_of, rows_of, Problem, polynomials, IsTypedOf, generators_have_signatures, combination_from_accepts, claim_ends, is_empty, counts, is_step, steps_of, claim_in, StepsAddUp}

-- a row that is zero adds nothing
empty_adds_nothing : (r : Row) (g : List Term) (x : List ℕ) → is_empty g ≡ true → coefficient_of (poly_multiple r.coefficient (poly_between r.left g r.right)) x ≡ pos 0
empty_adds_nothing r [] x e = refl
empty_adds_nothing r (t ∷ g) x e = absurd (cc)

adds_nothing : (generators : List (List Term)) (r : Row) (x : List ℕ) → counts generators r ≡ false → coefficient_of (row_poly generators r) x ≡ pos 0
adds_nothing generators r x e = go (int_eq r.coefficient (pos 0)) (is_empty (generator_at generators r.generator)) refl refl e
  where
    go : (a b : Bool) → int_eq r.coefficient (pos 0) ≡ a → is_empty (generator_at generators r.generator) ≡ b → (not a && not b) ≡ false → coefficient_of (row_poly generators r) x ≡ pos 0
    go true b zero_is b_is e =
        coefficient_of-multiple r.coefficient (poly_between r.left (generator_at generators r.generator) r.right) x
        ∙ ap (λ k. k *ℤ coefficient_of (poly_between r.left (generator_at generators r.generator) r.right) x) ((Decides-int_eq r.coefficient (pos 0)).0 zero_is)
        ∙ zero-*ℤ (coefficient_of (poly_between r.left (generator_at generators r.generator) r.right) x)
    go false true zero_is b_is e = empty_adds_nothing r (generator_at generators r.generator) x b_is
    go false false zero_is b_is e = absurd (cc)

counted_sum : (generators : List (List Term)) (rows : List Row) (x : List ℕ) → coefficient_of (row_sum generators (filter (counts generators) rows)) x ≡ coefficient_of (row_sum generators rows) x
counted_sum generators [] x = refl
counted_sum generators (r ∷ rows) x = go (counts generators r) refl (counted_sum generators rows x)
  where
    go : (b : Bool) → counts generators r ≡ b → coefficient_of (row_sum generators (filter (counts generators) rows)) x ≡ coefficient_of (row_sum generators rows) x
        → coefficient_of (row_sum generators (cond b (r ∷ filter (counts generators) rows) (filter (counts generators) rows))) x ≡ coefficient_of (row_sum generators (r ∷ rows)) x
    go true e ih =
        coefficient_of-append (row_poly generators r) (row_sum generators (filter (counts generators) rows)) x ∙ ap (λ k. coefficient_of (row_poly generators r) x +ℤ k) ih
        ∙ sym (coefficient_of-append (row_poly generators r) (row_sum generators rows) x)
    go false e ih =
        ih ∙ sym (+ℤ_idl (coefficient_of (row_sum generators rows) x))
        ∙ ap (λ k. k +ℤ coefficient_of (row_sum generators rows) x) (sym (adds_nothing generators r x e))
        ∙ sym (coefficient_of-append (row_poly generators r) (row_sum generators rows) x)

-- two tests one after the other are one
both_tests : {X Y : Type 0} (f : X → Y) (one : X → Bool) (counted typed : Y → Bool) → ((x : X) → one x ≡ (counted (f x) && typed (f x))) → (xs : List X)
    → map f (filter one xs) ≡ filter counted (filter typed (map f xs))
both_tests {X = X} {Y = Y} f one counted typed same [] = refl
both_tests {X = X} {Y = Y} f one counted typed same (x ∷ xs) =
    ap (λ b. map f (cond b (x ∷ filter one xs) (filter one xs))) (same x) ∙ go (counted (f x)) (typed (f x)) refl (both_tests f one counted typed same xs)
  where
    go : (a b : Bool) → counted (f x) ≡ a → map f (filter one xs) ≡ filter counted (filter typed (map f xs))
        → map f (cond (a && b) (x ∷ filter one xs) (filter one xs)) ≡ filter counted (cond b (f x ∷ filter typed (map f xs)) (filter typed (map f xs)))
    go true true is rest = ap (λ (ys : List Y). f x ∷ ys) rest ∙ sym (ap (λ b. cond b (f x ∷ filter counted (filter typed (map f xs))) (filter counted (filter typed (map f xs)))) is)
    go false true is rest = rest ∙ sym (ap (λ b. cond b (f x ∷ filter counted (filter typed (map f xs))) (filter counted (filter typed (map f xs)))) is)
    go true false is rest = rest
    go false false is rest = rest

-- the claim has the signature that is listed for it
typed_at : (ds : List Declaration) (ps : List Poly) (sigs : List Sig) → AllZip (IsTypedOf ds) ps sigs → (n : ℕ)
    → IsTyped (quiver_of ds) (get_or (map ends_of sigs) n (0, 0)).0 (get_or (map ends_of sigs) n (0, 0)).1 (get_or (polynomials ps) n [])
typed_at ds [] [] all n = record { at = λ w there. absurd (there refl) }
typed_at ds [] (s ∷ sigs) all n = absurd all
typed_at ds (p ∷ ps) [] all n = absurd all
typed_at ds (p ∷ ps) (s ∷ sigs) all zero = all.0
typed_at ds (p ∷ ps) (s ∷ sigs) all (suc n) = typed_at ds ps sigs all.1 n

pub claim_typed : (problem : Problem) (claim : ℕ) → IsTyped (quiver_of problem.parts.quiver) (claim_ends problem claim).0 (claim_ends problem claim).1 (generator_at (polynomials problem.parts.claims) claim)
claim_typed problem zero = record { at = λ w there. absurd (there refl) }
claim_typed problem (suc n) = typed_at problem.parts.quiver problem.parts.claims problem.parts.claim_sigs problem.posed.claims_typed n

-- the law
pub steps_add_up : StepsAddUp
steps_add_up problem c accepted =
    let q = quiver_of problem.parts.quiver in
    let u = (claim_ends problem c.claim).0 in
    let v = (claim_ends problem c.claim).1 in
    let generators = polynomials problem.generators in
    let kept = typed_rows_suffice.combination q u v generators (rows_of c.rows) c.denominator (claim_in problem c)
    (generators_have_signatures problem.parts problem.posed problem.generators problem.closed) (claim_typed problem c.claim) (combination_from_accepts accepted) in
    let one : rows_of (steps_of problem c) ≡ filter (counts generators) (filter (is_typed_row q u v generators) (rows_of c.rows)) =
    both_tests row_of (is_step problem c.claim) (counts generators) (is_typed_row q u v generators) (λ r. refl) c.rows in
    record {
      positive = kept.positive;
      sum = record { at = λ x. ap (λ rows. coefficient_of (row_sum generators rows) x) one ∙ counted_sum generators (filter (is_typed_row q u v generators) (rows_of c.rows)) x ∙ kept.sum.at x };
    }
