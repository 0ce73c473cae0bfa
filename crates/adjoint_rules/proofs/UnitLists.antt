-- The list of the relations of an identity, as its parts are appended to one another.
use Rattle.adjoint_rules.proofs.Prelude.{Bool, ◌||◌, true, false, if◌then◌else◌, nat_le, nat_cmp, is_gt, ◌≡◌, ℕ, List, [], ◌∷◌, ◌++◌, ap, ◌∙◌, sym, refl, rules, append_assoc, map-append, append-nil, Term, Poly, polynomials}

-- a number that is not above another is at most that
pub not_gt-le : (a s : ℕ) → is_gt (nat_cmp a s) ≡ false → nat_le a s ≡ true
not_gt-le a s not_above = search rules

-- a letter that is not above its adjoint is in play, starred or not
pub in_play-of_not_gt : (starred : Bool) (a s : ℕ) → is_gt (nat_cmp a s) ≡ false → (starred || nat_le a s) ≡ true
in_play-of_not_gt true a s not_above = refl
in_play-of_not_gt false a s not_above = not_gt-le a s not_above

-- a polynomial that was appended to others since a test was true
pub polynomials-pushed : (ps qs : List Poly) (p : Poly) (t : List Term) (b : Bool) → b ≡ true → qs ≡ ps ++ p ∷ [] → p.terms ≡ t → polynomials qs ≡ polynomials ps ++ (if b then t ∷ [] else [])
polynomials-pushed ps qs p t b holds more is =
    rw holds (ap polynomials more ∙ map-append (λ (r : Poly). r.terms) ps (p ∷ []) ∙ ap (λ r. polynomials ps ++ r ∷ []) is)

-- and none, since it was false
pub polynomials-kept : (ps qs : List Poly) (t : List Term) (b : Bool) → b ≡ false → qs ≡ ps → polynomials qs ≡ polynomials ps ++ (if b then t ∷ [] else [])
polynomials-kept ps qs t b fails same = rw fails (ap polynomials same ∙ sym (append-nil (polynomials ps)))

-- two parts, under a test that is true
pub two_parts : (b : Bool) (ps ms qs xs ys : List (List Term)) → b ≡ true → ms ≡ ps ++ xs → qs ≡ ms ++ ys → qs ≡ ps ++ (if b then xs ++ ys else [])
two_parts b ps ms qs xs ys holds first second = rw holds (second ∙ ap (λ l. l ++ ys) first ∙ append_assoc ps xs ys)
