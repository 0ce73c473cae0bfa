-- A candidate that breaks a claim is a model that can be written.
use Rattle.report_readback.proofs.Prelude.{◌≡◌, ◌<◌, ◌≤◌, ◌&&◌, ℕ, Bool, true, false, cond, nat_eq, nat_le, List, Option, Some, None, refl, sym, ap, ◌∙◌, subst, arith, length, get_or, IsTrue, list_all, and_parts, leb-true, get_or-map-range_with_len, IsQuiver, letters, star, Named, Map, Declaration, object_count, letter_count, letter_name, named_in, quiver_of, IsDeclared, ObjectsFirst, is_found, identity_is, letters-quiver_of, Shape, Problem, posed_quiver, map_after_objects, map_before_adjoint, Matrix, Model, HaveMatrices, map_at, is_declared_map, matrix_by, place_by, model_by, IsCandidate, naming, Breaks, breaking_candidates_refute, is_named, Comes, letter_is_spelled, HasMap, IsPlaced, IsWritableModel, digits}
use Rattle.quiver.specs.declared.named.Named.TheVariants.{Object}

-- declared maps have names
module _ (ds : List Declaration) (declared : IsDeclared ds) (first : ObjectsFirst ds) (quiver : IsQuiver (quiver_of ds)) (names : IsTrue (list_all is_named ds)) where
  module _ (a : ℕ) (letter : a < letter_count ds) (behind : object_count ds ≤ a) (before : a ≤ star (quiver_of ds) a) where
    by_map : (b : ℕ) → named_in ds (letter_name ds a) ≡ Some (Map (record { 0 = b })) → (nat_eq a b ≡ true → b ≡ a) → (nat_eq a b ≡ false → star (quiver_of ds) b ≡ a)
        → (same : Bool) → nat_eq a b ≡ same → HasMap ds a
    by_map b is own adjoint true e = (letter_name ds a, subst (λ n. named_in ds (letter_name ds a) ≡ Some (Map (record { 0 = n }))) (own e) is)
    by_map b is own adjoint false e =
        let b_before : b ≤ star (quiver_of ds) b = map_before_adjoint ds first (letter_name ds a) (record { 0 = b }) is in
        let star_is : star (quiver_of ds) b ≡ a = adjoint e in
        let b_letter : b < letters (quiver_of ds) = subst (λ n. b < n) (sym (letters-quiver_of ds)) (is_found ds (letter_name ds a) (Map (record { 0 = b })) is).0 in
        let back : star (quiver_of ds) a ≡ b = ap (star (quiver_of ds)) (sym star_is) ∙ quiver.star_star b b_letter in
        let same : b ≡ a = omega (arith, b_before, star_is, back, before) in
        (letter_name ds a, subst (λ n. named_in ds (letter_name ds a) ≡ Some (Map (record { 0 = n }))) same is)

    by_name : (found : Option Named) → named_in ds (letter_name ds a) ≡ found → Comes ds a found → HasMap ds a
    by_name None is comes = absurd comes
    by_name (Some (Object v)) is comes =
        let below : v.0 < object_count ds = (is_found ds (letter_name ds a) (Object v) is).0 in
        absurd (omega (arith, behind, below, comes, identity_is ds first v.0 below))
    by_name (Some (Map b)) is comes = by_map b.0 is comes.0 comes.1 (nat_eq a b.0) refl

    declared_map : HasMap ds a
    declared_map = by_name (named_in ds (letter_name ds a)) refl (letter_is_spelled ds a declared names letter).comes

-- it is made of values of the entries
pub record IsMade (problem : Problem) (m : Model) : Type 0 where
  pub shape : Shape
  pub values : List ℕ
  pub maps : m.maps ≡ (model_by (quiver_of problem.parts.quiver) shape 0 values).maps

same_model : (m n : Model) → Some m ≡ Some n → m ≡ n
same_model m n is = cc

candidate_made : (problem : Problem) (number : ℕ) (s : Shape) (seed k : ℕ) (m : Model) → IsCandidate problem number s seed k (Some m) → IsMade problem m
candidate_made problem number s seed k m (IsCandidate.numbered all is) =
    record { shape = s; values = digits (quiver_of problem.parts.quiver) s k; maps = ap (λ (x : Model). x.maps) (same_model m (model_by (quiver_of problem.parts.quiver) s 0 (digits (quiver_of problem.parts.quiver) s k)) is) }
candidate_made problem number s seed k m (IsCandidate.drawn not_all values greedy is) =
    record { shape = s; values = values; maps = ap (λ (x : Model). x.maps) (same_model m (model_by (quiver_of problem.parts.quiver) s 0 values) is) }
candidate_made problem number s seed k m (IsCandidate.unsolvable not_all none is) = absurd (cc)

module _ (problem : Problem) (m : Model) (made : IsMade problem m) (refutes : HaveMatrices (quiver_of problem.parts.quiver) m (letters (quiver_of problem.parts.quiver)))
    (names : IsTrue (list_all is_named problem.parts.quiver)) where
  -- the place of a letter
  placed : (a : ℕ) → a < letters (quiver_of problem.parts.quiver) → map_at m a ≡ place_by (quiver_of problem.parts.quiver) made.shape made.values a
  placed a letter =
      ap (λ (xs : List (Option Matrix)). get_or xs a None) made.maps
      ∙ get_or-map-range_with_len (place_by (quiver_of problem.parts.quiver) made.shape made.values) 0 (letters (quiver_of problem.parts.quiver)) a a None letter (omega arith)

  -- a declared map has a name and a matrix
  at_map : (a : ℕ) → a < letters (quiver_of problem.parts.quiver) → is_declared_map (quiver_of problem.parts.quiver) a ≡ true → IsPlaced problem.parts.quiver m.modulus a (map_at m a)
  at_map a letter is =
      let both = and_parts (nat_le (quiver_of problem.parts.quiver).objects a) (nat_le a (star (quiver_of problem.parts.quiver) a)) is in
      let behind : object_count problem.parts.quiver ≤ a = leb-true (object_count problem.parts.quiver) a both.0 in
      let before : a ≤ star (quiver_of problem.parts.quiver) a = leb-true a (star (quiver_of problem.parts.quiver) a) both.1 in
      let has = refutes.each a letter (record { map = behind; letter = letter; declared = before }) in
      let counted : a < letter_count problem.parts.quiver = subst (λ n. a < n) (letters-quiver_of problem.parts.quiver) letter in
      subst (IsPlaced problem.parts.quiver m.modulus a) (sym has.there)
      (declared_map problem.parts.quiver problem.posed.declared problem.posed.objects_first (posed_quiver problem.parts problem.posed) names a counted behind before, has.ends.matrix)

  at_letter : (a : ℕ) → a < letters (quiver_of problem.parts.quiver) → (is : Bool) → is_declared_map (quiver_of problem.parts.quiver) a ≡ is → IsPlaced problem.parts.quiver m.modulus a (map_at m a)
  at_letter a letter true is = at_map a letter is
  at_letter a letter false is =
      let none : map_at m a ≡ None = placed a letter ∙ ap (λ b. cond b (Some (matrix_by (quiver_of problem.parts.quiver) made.shape made.values a)) None) is in
      subst (IsPlaced problem.parts.quiver m.modulus a) (sym none) tt

  each_placed : (a : ℕ) → a < letter_count problem.parts.quiver → IsPlaced problem.parts.quiver m.modulus a (map_at m a)
  each_placed a counted = at_letter a (subst (λ n. a < n) (sym (letters-quiver_of problem.parts.quiver)) counted) (is_declared_map (quiver_of problem.parts.quiver) a) refl

-- what is written
pub breaking_candidates_are_writable : (problem : Problem) (claim seed number k : ℕ) (m : Model) → IsTrue (list_all is_named problem.parts.quiver)
    → Breaks problem claim seed number k m → IsWritableModel problem.parts.quiver m
breaking_candidates_are_writable problem claim seed number k m names breaks =
    let is = breaking_candidates_refute problem claim seed number k m breaks in
    let made = candidate_made problem number breaks.shape seed k breaks.candidate breaks.is_candidate in
    record {
      claim = omega (arith, is.refutes.assumptions.fitting.claim.most, problem.posed.few_claims);
      model = record {
        modulus = is.model.modulus;
        objects = is.sides;
        sides = is.model.sides;
        letters = is.maps;
        maps = each_placed problem m (record { shape = made.shape; values = made.values; maps = ap (λ (x : Model). x.maps) breaks.named ∙ made.maps }) is.refutes.assumptions.fitting.maps names;
      };
    }
