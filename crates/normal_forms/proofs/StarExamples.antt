-- An object U, a map a of U, the rule a, and a starred statement that assumes nothing: the normal forms tell a' from zero, but have no involution,
-- since a goes to zero. Both ways they have one.
use Rattle.normal_forms.proofs.Prelude.{◌≡◌, ◌<◌, ℕ, zero, suc, pos, Bool, true, false, List, [], ◌∷◌, length, Some, refl, sym, ap, ◌∙◌, arith, ints, length-append, All-nil, AllPairs-cons, All, AllByRecursion, Term, InvolutionLaws, IsPath, StarRepresents, InRationalIdeal, HasSignature, HasValueZero, star_sound, Object, word_cmp, IsOver, word_cmp-admissible, IsAdmissible, rank_of, Declaration, object, arrow, quiver_of, typed_from_paths, Rule, IsRule, rule_at, polynomials_of, AreInPlay, start_of, words_with_coefficients, Kind, Overlap, Inclusion, Ambiguity, MeetsAs, IsAmbiguity, Parts, IsPosed, IsShape, IsSide, IsDeclaredMap, IsTypedOf, HasObjects, HasLettersInPlay, IsInPlay, is_in_play, posed_quiver, IsTypedInPlay, IsReduced, normal_forms_are_reduced, rests_of_ideal_are_zero, shaped_as_written, Fraction, NormalMap, IsBasis, normal_forms, forms_representation, SharpMeans, StarSharpMeans, AllPairs, Resolved}
use Rattle.word_orders.specs.declared.any.OrderSpec.TheVariants as asked
use Rattle.normal_forms.proofs.Basis.{basis_laws, inside_is_zero, sharp_means}
use Rattle.normal_forms.proofs.StarSharp.{star_sharp_means}
use Rattle.normal_forms.proofs.Examples.{one_term, at_object, all_pairs_one, alone, Differs, names_differ}

-- the letters are [U] = 0, a = 1, a' = 2
abbrev declared : List Declaration
declared = object (85 ∷ []) ∷ arrow (97 ∷ []) 0 0 false ∷ []

-- a and a'
abbrev map_terms : List Term
map_terms = (pos 1, 1 ∷ []) ∷ []

abbrev adjoint_terms : List Term
adjoint_terms = (pos 1, 2 ∷ []) ∷ []

abbrev parts : Parts
parts = record {
  quiver = declared;
  order = asked.Degree;
  starred = true;
  marked = [];
  assumptions = [];
  sigs = [];
  claims = record { terms = adjoint_terms; canonical = one_term 2 } ∷ [];
  claim_sigs = at_object 0 ∷ [];
  shapes = record { modulus = 2; sides = 1 ∷ [] } ∷ [];
  solved = [];
}

none_pair : {A : Type 0} (R : A → A → Type 0) → AllPairs R []
none_pair R = λ i j d less inside. absurd (omega (arith, less, inside))

one_typed : (a : ℕ) → IsPath (quiver_of declared) 0 0 (a ∷ []) → IsTypedOf declared (record { terms = (pos 1, a ∷ []) ∷ []; canonical = one_term a }) (at_object 0)
one_typed a path = typed_from_paths (quiver_of declared) 0 0 ((pos 1, a ∷ []) ∷ [])
    (alone (λ (t : Term). IsPath (quiver_of declared) 0 0 t.1) path)

posed : IsPosed parts
posed = record {
  declared = record {
    distinct = AllPairs-cons Differs (85 ∷ []) ((97 ∷ []) ∷ []) (alone (Differs (85 ∷ [])) (names_differ (λ e. omega (arith, e))))
        (all_pairs_one Differs (97 ∷ []));
    few_objects = omega arith;
    few_maps = omega arith;
    ends = refl;
  };
  objects_first = refl;
  order = tt;
  marked_objects = All-nil (λ (v : Object). v.0 < 1);
  marked_ascending = none_pair (λ (v w : Object). v.0 < w.0);
  few_assumptions = omega arith;
  assumptions_typed = tt;
  assumption_ends = All-nil (HasObjects declared);
  assumption_letters = All-nil (HasLettersInPlay declared true []);
  few_claims = omega arith;
  claims_typed = (one_typed 2 refl, tt);
  claim_ends = alone (HasObjects declared) (record { source = omega arith; target = omega arith });
  claim_letters = alone (HasLettersInPlay declared true [])
      (alone (λ (t : Term). All (IsInPlay declared true []) t.1) (alone (IsInPlay declared true []) refl));
  some_shape = omega arith;
  few_shapes = omega arith;
  shapes = alone (IsShape 1)
      (record { modulus = refl; side_of_each = refl; sides = alone IsSide (record { least = omega arith; most = omega arith }) });
  solved_maps = All-nil (IsDeclaredMap declared);
  solved_ascending = λ i j d less inside. absurd (omega (arith, less, inside));
}

-- the rule
abbrev map_rule : Rule
map_rule = record { leading = pos 1; lead = 1 ∷ []; poly = record { terms = map_terms; canonical = one_term 1 } }

abbrev rules : List Rule
rules = map_rule ∷ []

laws : IsAdmissible 3 word_cmp (rank_of 3)
laws = word_cmp-admissible 3

over_letter : (a : ℕ) → a < 3 → IsOver 3 (a ∷ [])
over_letter a inside = alone (λ b. b < 3) inside

are_rules : All (IsRule 3 word_cmp) rules
are_rules = alone (IsRule 3 word_cmp) (record {
  leading = refl;
  positive = omega (arith, ints);
  in_range = omega arith;
  nonempty = alone (λ (t : Term). 0 < length t.1) (omega arith);
  over = alone (λ (t : Term). IsOver 3 t.1) (over_letter 1 (omega arith));
})

which : (n : ℕ) (g : Rule) → rule_at rules n ≡ Some g → (n ≡ 1) × (g.lead ≡ 1 ∷ [])
which zero g is = absurd (cc)
which (suc zero) g is = (refl, (cc))
which (suc (suc n)) g is = absurd (cc)

no_ambiguity : {a : Ambiguity} → IsAmbiguity rules a → ⊥
no_ambiguity {a} is = by_kind a.kind is.meets (which a.i is.first is.first_numbered) (which a.j is.second is.second_numbered)
  where
    by_kind : (k : Kind) → MeetsAs k a.i a.j is.first.lead is.second.lead a.place → (a.i ≡ 1) × (is.first.lead ≡ 1 ∷ [])
        → (a.j ≡ 1) × (is.second.lead ≡ 1 ∷ []) → ⊥
    by_kind Inclusion at f g = at.0 (f.0 ∙ sym g.0)
    by_kind Overlap at f g = omega (arith, ap length (sym f.1 ∙ at.left_splits), length-append at.before at.shared, at.before_letters, at.shared_letters)

resolved : Resolved 3 word_cmp rules
resolved = record { each = λ a is. absurd (no_ambiguity is) }

abbrev play : ℕ → Bool
play = is_in_play declared true []

typed : All (λ g. IsTypedInPlay (quiver_of declared) play g.poly.terms) rules
typed = alone (λ (g : Rule). IsTypedInPlay (quiver_of declared) play g.poly.terms)
    (record { source = 0; target = 0; typed = one_typed 1 refl; in_play = record { at = words_with_coefficients (AreInPlay play) map_terms (alone (λ (t : Term). AreInPlay play t.1) refl) } })

basis : IsBasis parts rules
basis = record {
  posed = posed;
  are_rules = are_rules;
  resolved = resolved;
  typed = typed;
  generated = All-nil (InRationalIdeal (polynomials_of rules));
}

-- a' is its own normal form, and so it is outside
adjoint_over : All (λ t. IsOver 3 t.1) adjoint_terms
adjoint_over = alone (λ (t : Term). IsOver 3 t.1) (over_letter 2 (omega arith))

adjoint_reduced : IsReduced 3 word_cmp rules adjoint_terms (start_of adjoint_terms)
adjoint_reduced = normal_forms_are_reduced 3 word_cmp (rank_of 3) rules adjoint_terms 0 (start_of adjoint_terms) laws are_rules
    (shaped_as_written adjoint_terms (tt, tt) ((λ e. cc), tt) (omega arith, tt))
    adjoint_over refl

outside : InRationalIdeal (polynomials_of rules) adjoint_terms → ⊥
outside inside = cc ((rests_of_ideal_are_zero 3 word_cmp (rank_of 3) rules adjoint_terms (start_of adjoint_terms) laws are_rules resolved inside (record { at = words_with_coefficients (IsOver 3) adjoint_terms adjoint_over }) adjoint_reduced).at (2 ∷ []))

one_signature : (a : ℕ) → IsPath (quiver_of declared) 0 0 (a ∷ []) → HasSignature (quiver_of declared) ((pos 1, a ∷ []) ∷ [])
one_signature a path = record { source = 0; target = 0; source_is_object = omega arith; target_is_object = omega arith; typed = one_typed a path }

sharp : SharpMeans parts rules adjoint_terms
sharp = sharp_means parts rules basis tt adjoint_terms ((refl, tt), tt) (one_signature 2 refl) outside

-- both ways a' isn't zero in a star representation
both_ways_sharp : StarSharpMeans parts rules adjoint_terms
both_ways_sharp = star_sharp_means parts rules adjoint_terms posed refl sharp

-- and by themselves in none, whatever the involution: with a it would make a' zero
no_involution : (adjoint : NormalMap Fraction → NormalMap Fraction) → InvolutionLaws (normal_forms parts rules) adjoint
    → StarRepresents (normal_forms parts rules) adjoint (quiver_of declared) (forms_representation parts rules) → ⊥
no_involution adjoint involution star =
    let claim = sharp.tells.claim in
    claim.nonzero (other.1.0.at claim.source claim.target claim.source_is_object claim.target_is_object claim.typed)
  where
    first : HasValueZero (normal_forms parts rules) (quiver_of declared) (forms_representation parts rules) map_terms
    first = inside_is_zero parts rules basis ((refl, tt), tt) (one_signature 1 refl) (record {
      denominator = pos 1;
      rows = record { coefficient = pos 1; left = []; generator = 1; right = [] } ∷ [];
      combination = record { positive = omega (arith, ints); sum = record { at = λ w. refl } };
    })

    other : AllByRecursion (HasValueZero (normal_forms parts rules) (quiver_of declared) (forms_representation parts rules)) (map_terms ∷ adjoint_terms ∷ [])
    other = (star_sound (basis_laws parts rules basis) involution).generators (quiver_of declared) true [] (map_terms ∷ []) (posed_quiver parts posed) tt
        (forms_representation parts rules) star (first, tt)
