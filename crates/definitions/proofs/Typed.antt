-- Which words are paths, and which polynomials have a signature.
use Rattle.std.proofs.Common.{◌≡◌, ◌≢◌, ℕ, zero, suc, ◌+◌, ◌-◌, ◌<◌, ◌≤◌, ℤ, pos, negsuc, Bool, true, false, cond, ◌&&◌, ◌||◌, List, [], ◌∷◌, ◌++◌, Option, Some, None, sym, refl, ap, ap₂, subst, ◌∙◌, arith, eqb, leb, ltb, eqb-true, eq-eqb, lt-ltb}
use Rattle.std.proofs.lemmas.Bool.{and_from, and_parts}
use Rattle.std.specs.List.{AllByRecursion, flat_map, range_with_len}
use Rattle.std.specs.Option.{option_map}
use Rattle.definitions.specs.Generators.{adjoint_poly, new_adjoint, left_unit, right_unit, letter_units, units, generators_of}
use Rattle.definitions.specs.Poly.{word_eq, coefficient_of, poly_eq, poly_multiple}
use Rattle.definitions.specs.Quiver.{Quiver, IsQuiver, letters, source, target, star, leads, is_path, IsTyped, signature_of}
use Rattle.definitions.specs.Soundness.{HasSignature}
use Rattle.definitions.proofs.Linear.{word_eq-true, coefficient_other}
use Rattle.definitions.proofs.Paths.{step}
use Rattle.definitions.proofs.Adjoints.{typed-adjoint_poly}
use Rattle.definitions.proofs.StarSound.{all-append}

-- the signature of a path
some_is : (x y : ℕ × ℕ) → ◌≡◌ {A = Option (ℕ × ℕ)} (Some x) (Some y) → x ≡ y
some_is x y e = cc

pub signature_from_path : (q : Quiver) (u v : ℕ) (w : List ℕ) → is_path q u v w ≡ true → signature_of q w ≡ Some (u, v)
signature_from_path q u v [] e = absurd (cc)
signature_from_path q u v (a ∷ []) e =
    let first = step q u v a [] e in
    ap (λ b. cond b (Some (source q a, target q a)) None) (lt-ltb a (letters q) first.letter)
    ∙ ap₂ (λ x y. Some (x, y)) (sym (eqb-true u (source q a) first.rest)) first.target
signature_from_path q u v (a ∷ b ∷ w) e =
    let first = step q u v a (b ∷ w) e in
    let second = step q u (source q a) b w first.rest in
    ap (λ c. cond c (option_map (λ s. (s.0, target q a)) (signature_of q (b ∷ w))) None)
    (and_from (ltb a (letters q)) _ (lt-ltb a (letters q) first.letter) (eq-eqb (source q a) (target q b) (sym second.target)))
    ∙ ap (option_map (λ s. (s.0, target q a))) (signature_from_path q u (source q a) (b ∷ w) first.rest)
    ∙ ap (λ y. Some (u, y)) first.target

-- the second part of a signature is the target of the first letter
signature_target : (q : Quiver) (a : ℕ) (w : List ℕ) (s : ℕ × ℕ) → signature_of q (a ∷ w) ≡ Some s → s.1 ≡ target q a
signature_target q a [] s e = go (ltb a (letters q)) e
  where
    go : (b : Bool) → cond {A = Option (ℕ × ℕ)} b (Some (source q a, target q a)) None ≡ Some s → s.1 ≡ target q a
    go true k = ap (λ x. x.1) (some_is _ _ (sym k))
    go false k = absurd (cc)
signature_target q a (b ∷ w) s e = go (ltb a (letters q) && eqb (source q a) (target q b)) (signature_of q (b ∷ w)) e
  where
    go : (c : Bool) (o : Option (ℕ × ℕ)) → cond {A = Option (ℕ × ℕ)} c (option_map (λ t. (t.0, target q a)) o) None ≡ Some s → s.1 ≡ target q a
    go true (Some t) k = ap (λ x. x.1) (some_is _ _ (sym k))
    go true None k = absurd (cc)
    go false o k = absurd (cc)

pub path_from_signature : (q : Quiver) (u v : ℕ) (w : List ℕ) → signature_of q w ≡ Some (u, v) → is_path q u v w ≡ true
path_from_signature q u v [] e = absurd (cc)
path_from_signature q u v (a ∷ []) e = go (ltb a (letters q)) refl e
  where
    go : (b : Bool) → ltb a (letters q) ≡ b → cond {A = Option (ℕ × ℕ)} b (Some (source q a, target q a)) None ≡ Some (u, v) → is_path q u v (a ∷ []) ≡ true
    go true h k =
        let ends = some_is _ _ k in
        and_from _ _ h (and_from _ _ (eq-eqb (target q a) v (ap (λ x. x.1) ends)) (eq-eqb u (source q a) (sym (ap (λ x. x.0) ends))))
    go false h k = absurd (cc)
path_from_signature q u v (a ∷ b ∷ w) e = go (ltb a (letters q) && eqb (source q a) (target q b)) refl (signature_of q (b ∷ w)) refl e (path_from_signature q u (source q a) (b ∷ w))
  where
    go : (c : Bool) → (ltb a (letters q) && eqb (source q a) (target q b)) ≡ c → (o : Option (ℕ × ℕ)) → signature_of q (b ∷ w) ≡ o → cond {A = Option (ℕ × ℕ)} c (option_map (λ s. (s.0, target q a)) o) None ≡ Some (u, v) → (signature_of q (b ∷ w) ≡ Some (u, source q a) → is_path q u (source q a) (b ∷ w) ≡ true) → is_path q u v (a ∷ b ∷ w) ≡ true
    go false h o i k ih = absurd (cc)
    go true h None i k ih = absurd (cc)
    go true h (Some s) i k ih =
        let fit = and_parts (ltb a (letters q)) (eqb (source q a) (target q b)) h in
        let ends = some_is _ _ k in
        let middle : s.1 ≡ source q a = signature_target q b w s i ∙ sym (eqb-true (source q a) (target q b) fit.1) in
        let rest : signature_of q (b ∷ w) ≡ Some (u, source q a) = i ∙ ap₂ (λ x y. Some (x, y)) (ap (λ x. x.0) ends) middle in
        and_from _ _ fit.0 (and_from _ _ (eq-eqb (target q a) v (ap (λ x. x.1) ends)) (ih rest))

-- where each term's word is a path of the signature
pub typed_from_terms : (q : Quiver) (u v : ℕ) (p : List (ℤ × List ℕ)) → AllByRecursion (λ t. is_path q u v t.1 ≡ true) p → IsTyped q u v p
typed_from_terms q u v [] h = record { at = λ w c. absurd (c refl) }
typed_from_terms q u v (t ∷ p) h = let rest = typed_from_terms q u v p h.1 in record { at = λ w c. go w c (word_eq t.1 w) refl (rest.at w) }
  where
    go : (w : List ℕ) → coefficient_of (t ∷ p) w ≢ pos 0 → (b : Bool) → word_eq t.1 w ≡ b → (coefficient_of p w ≢ pos 0 → is_path q u v w ≡ true) → is_path q u v w ≡ true
    go w c true e rest = subst (λ x. is_path q u v x ≡ true) (word_eq-true t.1 w e) h.0
    go w c false e rest = rest (λ z. c (coefficient_other w t p e ∙ z))

module _ (q : Quiver) (quiver : IsQuiver q) where
  letter_path : (a : ℕ) → a < letters q → leads q (source q a) (target q a) (a ∷ []) ≡ true
  letter_path a h = and_from _ _ (lt-ltb a (letters q) h) (and_from _ _ (eq-eqb (target q a) (target q a) refl) (eq-eqb (source q a) (source q a) refl))

  pub left_unit_typed : (x a : ℕ) → x < q.objects → a < letters q → target q a ≡ x → HasSignature q (left_unit x a)
  left_unit_typed x a in_x h e =
      let unit = letter_path x (quiver.identity_is_letter x in_x) in
      let letter = subst (λ y. leads q (source q a) y (a ∷ []) ≡ true) e (letter_path a h) in
      let back : leads q (source q a) (source q x) (a ∷ []) ≡ true = subst (λ y. leads q (source q a) y (a ∷ []) ≡ true) (sym (quiver.identity_source x in_x)) letter in
      let whole : leads q (source q a) x (x ∷ a ∷ []) ≡ true =
      and_from _ _ (lt-ltb x (letters q) (quiver.identity_is_letter x in_x)) (and_from _ _ (eq-eqb (target q x) x (quiver.identity_target x in_x)) back) in
      record { source = source q a; target = x; source_is_object = quiver.source_is_object a h; target_is_object = in_x; typed = typed_from_terms q (source q a) x (left_unit x a) (whole, (letter, tt)) }

  pub right_unit_typed : (x a : ℕ) → x < q.objects → a < letters q → source q a ≡ x → HasSignature q (right_unit x a)
  right_unit_typed x a in_x h e =
      let letter : leads q x (target q a) (a ∷ []) ≡ true = subst (λ y. leads q y (target q a) (a ∷ []) ≡ true) e (letter_path a h) in
      let back : leads q x (source q a) (x ∷ []) ≡ true =
      and_from _ _ (lt-ltb x (letters q) (quiver.identity_is_letter x in_x))
      (and_from _ _ (eq-eqb (target q x) (source q a) (quiver.identity_target x in_x ∙ sym e)) (eq-eqb x (source q x) (sym (quiver.identity_source x in_x)))) in
      let whole : leads q x (target q a) (a ∷ x ∷ []) ≡ true =
      and_from _ _ (lt-ltb a (letters q) h) (and_from _ _ (eq-eqb (target q a) (target q a) refl) back) in
      record { source = x; target = target q a; source_is_object = in_x; target_is_object = quiver.target_is_object a h; typed = typed_from_terms q x (target q a) (right_unit x a) (whole, (letter, tt)) }

  letter_units_typed : (starred : Bool) (x a : ℕ) → x < q.objects → a < letters q → AllByRecursion (HasSignature q) (letter_units q starred x a)
  letter_units_typed starred x a in_x h = outer (starred || leb a (star q a))
    where
      left : (b : Bool) → eqb (target q a) x ≡ b → AllByRecursion (HasSignature q) (cond b (left_unit x a ∷ []) [])
      left true e = (left_unit_typed x a in_x h (eqb-true (target q a) x e), tt)
      left false e = tt

      right : (b : Bool) → eqb (source q a) x ≡ b → AllByRecursion (HasSignature q) (cond b (right_unit x a ∷ []) [])
      right true e = (right_unit_typed x a in_x h (eqb-true (source q a) x e), tt)
      right false e = tt

      outer : (b : Bool) → AllByRecursion (HasSignature q) (cond b ((cond (eqb (target q a) x) (left_unit x a ∷ []) []) ++ (cond (eqb (source q a) x) (right_unit x a ∷ []) [])) [])
      outer true = all-append (HasSignature q) _ _ (left (eqb (target q a) x) refl) (right (eqb (source q a) x) refl)
      outer false = tt

  units_typed_from : (starred : Bool) (x : ℕ) → x < q.objects → (a n : ℕ) → a + n ≤ letters q → AllByRecursion (HasSignature q) (flat_map (letter_units q starred x) (range_with_len a n))
  units_typed_from starred x in_x a zero le = tt
  units_typed_from starred x in_x a (suc n) le =
      all-append (HasSignature q) (letter_units q starred x a) _ (letter_units_typed starred x a in_x (omega arith)) (units_typed_from starred x in_x (a + 1) n (omega arith))

  units_typed : (starred : Bool) (x : ℕ) → x < q.objects → AllByRecursion (HasSignature q) (units q starred x)
  units_typed starred x in_x =
      let h = quiver.identity_is_letter x in_x in
      let last : q.objects - 1 < letters q = quiver.identity_is_letter (q.objects - 1) (omega arith) in
      (left_unit_typed x x in_x h (quiver.identity_target x in_x), units_typed_from starred x in_x q.objects (letters q - q.objects) (omega arith))

  marked_units_typed : (starred : Bool) (marked : List ℕ) → AllByRecursion (λ v. v < q.objects) marked → AllByRecursion (HasSignature q) (flat_map (units q starred) marked)
  marked_units_typed starred [] h = tt
  marked_units_typed starred (x ∷ marked) h = all-append (HasSignature q) (units q starred x) _ (units_typed starred x h.0) (marked_units_typed starred marked h.1)

  new_adjoints_typed : (ps : List (List (ℤ × List ℕ))) → AllByRecursion (HasSignature q) ps → AllByRecursion (HasSignature q) (flat_map (new_adjoint q) ps)
  new_adjoints_typed [] h = tt
  new_adjoints_typed (p ∷ ps) h = all-append (HasSignature q) (new_adjoint q p) _ (go (poly_eq (adjoint_poly q p) p || poly_eq (adjoint_poly q p) (poly_multiple (negsuc 0) p))) (new_adjoints_typed ps h.1)
    where
      go : (b : Bool) → AllByRecursion (HasSignature q) (cond b [] (adjoint_poly q p ∷ []))
      go true = tt
      go false =
          let g = h.0 in
          (record { source = g.target; target = g.source; source_is_object = g.target_is_object; target_is_object = g.source_is_object; typed = typed-adjoint_poly q quiver g.source g.target p g.typed }, tt)

  -- each generator of typed assumptions is typed
  pub generators_typed : (starred : Bool) (marked : List ℕ) (assumptions : List (List (ℤ × List ℕ))) → AllByRecursion (λ v. v < q.objects) marked
      → AllByRecursion (HasSignature q) assumptions → AllByRecursion (HasSignature q) (generators_of q starred marked assumptions)
  generators_typed starred marked assumptions in_range h =
      all-append (HasSignature q) assumptions _ h (all-append (HasSignature q) _ (flat_map (units q starred) marked) (adjoints starred) (marked_units_typed starred marked in_range))
    where
      adjoints : (b : Bool) → AllByRecursion (HasSignature q) (cond b (flat_map (new_adjoint q) assumptions) [])
      adjoints true = new_adjoints_typed assumptions h
      adjoints false = tt
