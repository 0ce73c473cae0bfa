-- The generators of a statement have letters in play.
use Rattle.adjoint_rules.proofs.Prelude.{◌≡◌, ℕ, zero, suc, ◌+◌, ◌-◌, ◌≤◌, ◌<◌, ◌⊎◌, inl, inr, negsuc, Bool, true, false, cond, ◌||◌, List, [], ◌∷◌, ◌++◌, refl, sym, ap, subst, ◌∙◌, arith, ltb, leb, eqb, lt-ltb, ltb-true, eq-eqb, IsTrue, All, AllByRecursion, AllPass, flat_map, list_all, list_any, range_with_len, and_from, and_parts, cases_lt, All-head, All-tail, list_all-append, list_all-from_AllPass, Term, poly_eq, poly_multiple, Quiver, IsQuiver, letters, source, target, star, adjoint_word, adjoint_poly, new_adjoint, left_unit, right_unit, letter_units, units, all-append, Poly, letter_count, quiver_of, letters-quiver_of, Parts, polynomials, numbers, is_in_play, IsPosed, generators_in}
use Rattle.adjoint_rules.proofs.Generators.{posed_quiver, marked_are_objects}

-- a letter among a list is among a longer one
or_right : (b c : Bool) → c ≡ true → (b || c) ≡ true
or_right true c is = refl
or_right false c is = is

-- the parts of a statement
module _ (p : Parts) (posed : IsPosed p) where
  abbrev q : Quiver
  q = quiver_of p.quiver

  abbrev play : ℕ → Bool
  play = is_in_play p.quiver p.starred (numbers p.marked)

  quiver : IsQuiver q
  quiver = posed_quiver p posed

  same_count : letters q ≡ letter_count p.quiver
  same_count = letters-quiver_of p.quiver

  -- the letter of an object by whether it is marked, that of a map by the second test
  by_object : (a : ℕ) → a < letters q → (a < q.objects → list_any (eqb a) (numbers p.marked) ≡ true) → (q.objects ≤ a → (p.starred || leb a (star q a)) ≡ true) → play a ≡ true
  by_object a inside marked mapped = and_from (ltb a (letter_count p.quiver)) _ (lt-ltb a (letter_count p.quiver) (omega (arith, inside, same_count))) (go (ltb a q.objects) refl)
    where
      go : (b : Bool) → ltb a q.objects ≡ b → cond b (list_any (eqb a) (numbers p.marked)) (p.starred || leb a (star q a)) ≡ true
      go true is = marked (ltb-true a q.objects is)
      go false is = mapped (past (cases_lt a q.objects))
        where
          clash : true ≡ false → ⊥
          clash e = cc

          past : (a < q.objects) ⊎ (q.objects ≤ a) → q.objects ≤ a
          past (inl h) = absurd (clash (sym (lt-ltb a q.objects h) ∙ is))
          past (inr h) = h

  -- the adjoint of a letter in play, where the statement is starred
  star_in_play : p.starred ≡ true → (a : ℕ) → play a ≡ true → play (star q a) ≡ true
  star_in_play starred a is = go (cases_lt a q.objects)
    where
      inside : a < letters q
      inside = omega (arith, ltb-true a (letter_count p.quiver) (and_parts (ltb a (letter_count p.quiver)) _ is).0, same_count)

      go : (a < q.objects) ⊎ (q.objects ≤ a) → play (star q a) ≡ true
      go (inl object) = subst (λ b. play b ≡ true) (sym (quiver.identity_star a object)) is
      go (inr map) = by_object (star q a) (quiver.star_is_letter a inside)
          (λ object. let same : a ≡ star q a = sym (quiver.star_star a inside) ∙ quiver.identity_star (star q a) object in absurd (omega (arith, same, object, map)))
          (λ past. ap (λ b. b || leb (star q a) (star q (star q a))) starred)

  -- words and polynomials
  abbrev pub Words : List Term → Type 0
  Words f = AllByRecursion (λ t. IsTrue (list_all play t.1)) f

  adjoint_in_play : p.starred ≡ true → (w : List ℕ) → IsTrue (list_all play w) → IsTrue (list_all play (adjoint_word q w))
  adjoint_in_play starred [] is = refl
  adjoint_in_play starred (a ∷ w) is =
      let parts = and_parts (play a) (list_all play w) is in
      list_all-append play (adjoint_word q w) (star q a ∷ [])
      ∙ and_from (list_all play (adjoint_word q w)) _ (adjoint_in_play starred w parts.1) (and_from (play (star q a)) true (star_in_play starred a parts.0) refl)

  adjoint_words : p.starred ≡ true → (f : List Term) → Words f → Words (adjoint_poly q f)
  adjoint_words starred [] each = tt
  adjoint_words starred (t ∷ f) each = (adjoint_in_play starred t.1 each.0, adjoint_words starred f each.1)

  adjoints_words : p.starred ≡ true → (fs : List (List Term)) → AllByRecursion Words fs → AllByRecursion Words (flat_map (new_adjoint q) fs)
  adjoints_words starred [] each = tt
  adjoints_words starred (f ∷ fs) each = all-append Words (new_adjoint q f) _ (go (poly_eq (adjoint_poly q f) f || poly_eq (adjoint_poly q f) (poly_multiple (negsuc 0) f))) (adjoints_words starred fs each.1)
    where
      go : (b : Bool) → AllByRecursion Words (cond b [] (adjoint_poly q f ∷ []))
      go true = tt
      go false = (adjoint_words starred f each.0, tt)

  -- the relations of identities
  left_words : (v a : ℕ) → play v ≡ true → play a ≡ true → Words (left_unit v a)
  left_words v a one two = let rest = and_from (play a) true two refl in (and_from (play v) _ one rest, (rest, tt))

  right_words : (v a : ℕ) → play v ≡ true → play a ≡ true → Words (right_unit v a)
  right_words v a one two = (and_from (play a) _ two (and_from (play v) true one refl), (and_from (play a) true two refl, tt))

  letter_words : (v a : ℕ) → play v ≡ true → q.objects ≤ a → a < letters q → AllByRecursion Words (letter_units q p.starred v a)
  letter_words v a one map inside = outer (p.starred || leb a (star q a)) refl
    where
      left : (b : Bool) → play a ≡ true → AllByRecursion Words (cond b (left_unit v a ∷ []) [])
      left true two = (left_words v a one two, tt)
      left false two = tt

      right : (b : Bool) → play a ≡ true → AllByRecursion Words (cond b (right_unit v a ∷ []) [])
      right true two = (right_words v a one two, tt)
      right false two = tt

      outer : (b : Bool) → (p.starred || leb a (star q a)) ≡ b → AllByRecursion Words (cond b ((cond (eqb (target q a) v) (left_unit v a ∷ []) []) ++ (cond (eqb (source q a) v) (right_unit v a ∷ []) [])) [])
      outer true is =
          let two = by_object a inside (λ object. absurd (omega (arith, object, map))) (λ past. is) in
          all-append Words _ _ (left (eqb (target q a) v) two) (right (eqb (source q a) v) two)
      outer false is = tt

  letters_words : (v : ℕ) → play v ≡ true → (a n : ℕ) → q.objects ≤ a → a + n ≤ letters q → AllByRecursion Words (flat_map (letter_units q p.starred v) (range_with_len a n))
  letters_words v one a zero low high = tt
  letters_words v one a (suc n) low high =
      all-append Words (letter_units q p.starred v a) _ (letter_words v a one low (omega (arith, high))) (letters_words v one (a + 1) n (omega (arith, low)) (omega (arith, high)))

  units_words : (v : ℕ) → list_any (eqb v) (numbers p.marked) ≡ true → v < q.objects → AllByRecursion Words (units q p.starred v)
  units_words v marked object =
      let one = by_object v (quiver.identity_is_letter v object) (λ is. marked) (λ past. absurd (omega (arith, object, past))) in
      let inside = quiver.identity_is_letter (q.objects - 1) (omega (arith, object)) in
      (left_words v v one one, letters_words v one q.objects (letters q - q.objects) (omega arith) (omega (arith, inside, object)))

  marked_words : (vs : List ℕ) → ((v : ℕ) → list_any (eqb v) vs ≡ true → list_any (eqb v) (numbers p.marked) ≡ true)
      → AllByRecursion (λ v. v < q.objects) vs → AllByRecursion Words (flat_map (units q p.starred) vs)
  marked_words [] marked objects = tt
  marked_words (v ∷ vs) marked objects =
      all-append Words (units q p.starred v) _ (units_words v (marked v (ap (λ b. b || list_any (eqb v) vs) (eq-eqb v v refl))) objects.0)
      (marked_words vs (λ u m. marked u (or_right (eqb u v) (list_any (eqb u) vs) m)) objects.1)

  -- the generators
  abbrev Plays : Term → Type 0
  Plays t = AllPass play t.1

  assumption_words : (fs : List Poly) → All (λ f. All Plays f.terms) fs → AllByRecursion Words (polynomials fs)
  assumption_words [] each = tt
  assumption_words (f ∷ fs) each = (terms f.terms (All-head (λ g. All Plays g.terms) f fs each), assumption_words fs (All-tail (λ g. All Plays g.terms) f fs each))
    where
      terms : (ts : List Term) → All Plays ts → Words ts
      terms [] is = tt
      terms (t ∷ ts) is = (list_all-from_AllPass play t.1 (All-head Plays t ts is), terms ts (All-tail Plays t ts is))

  pub generator_words : AllByRecursion Words (generators_in p)
  generator_words =
      all-append Words (polynomials p.assumptions) _ assumed
      (all-append Words _ (flat_map (units q p.starred) (numbers p.marked)) (adjoints p.starred refl) (marked_words (numbers p.marked) (λ v m. m) (marked_are_objects p posed)))
    where
      assumed : AllByRecursion Words (polynomials p.assumptions)
      assumed = assumption_words p.assumptions posed.assumption_letters

      adjoints : (b : Bool) → p.starred ≡ b → AllByRecursion Words (cond b (flat_map (new_adjoint q) (polynomials p.assumptions)) [])
      adjoints true is = adjoints_words is (polynomials p.assumptions) assumed
      adjoints false is = tt
