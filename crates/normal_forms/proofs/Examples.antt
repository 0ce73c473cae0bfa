-- Objects U and V, a map x of V, and the rules [U] and x x - x: an overlap, a zero object, and an object that isn't marked.
use Rattle.normal_forms.proofs.Prelude.{◌≡◌, ◌≢◌, ◌<◌, ◌+◌, ℕ, zero, suc, pos, negsuc, Bool, true, false, List, [], ◌∷◌, ◌++◌, length, Some, Ok, refl, sym, ap, ◌∙◌, subst, arith, ints, eq-one_of_dvd-one, length-append, All-nil, All-cons, AllPairs-cons, All, AllPairs, Term, IsArrow, IsPath, InRationalIdeal, Object, word_cmp, IsOver, IsAdmissible, rank_of, word_cmp-admissible, IsShaped, IsCanonical, Sig, Declaration, object, arrow, quiver_of, typed_from_paths, Rule, IsRule, rule_at, polynomials_of, AreInPlay, start_of, words_with_coefficients, Kind, Overlap, Inclusion, Ambiguity, MeetsAs, IsAmbiguity, s_polynomial_of, IsResolved, s_polynomials_balance, Parts, IsPosed, IsShape, IsSide, IsDeclaredMap, IsTypedOf, HasObjects, HasLettersInPlay, IsInPlay, is_in_play, generators_in, IsTypedInPlay, IsReduced, normal_forms_are_reduced, rests_of_ideal_are_zero, zero_rests_are_resolved, shaped_as_written, canonical_as_written, Fraction, NormalMap, IsBasis, normal_forms, SharpMeans, Resolved}
use Rattle.word_orders.specs.declared.any.OrderSpec.TheVariants as asked
use Rattle.normal_forms.proofs.Basis.{sharp_means}
use Rattle.normal_forms.proofs.MapSums.{maps_are_finite_sums}

-- object U V, map x : V -> V: the letters are [U] = 0, [V] = 1, x = 2, x' = 3
abbrev declared : List Declaration
declared = object (85 ∷ []) ∷ object (86 ∷ []) ∷ arrow (120 ∷ []) 1 1 false ∷ []

-- [U], x x - x, and x
abbrev zero_terms : List Term
zero_terms = (pos 1, 0 ∷ []) ∷ []

abbrev square_terms : List Term
square_terms = (pos 1, 2 ∷ 2 ∷ []) ∷ (negsuc 0, 2 ∷ []) ∷ []

abbrev claim_terms : List Term
claim_terms = (pos 1, 2 ∷ []) ∷ []

pub one_term : (a : ℕ) → IsCanonical ((pos 1, a ∷ []) ∷ [])
one_term a = canonical_as_written ((pos 1, a ∷ []) ∷ []) (shaped_as_written ((pos 1, a ∷ []) ∷ []) (tt, tt) ((λ e. cc), tt) (omega arith, tt))
    (omega arith, tt) (omega arith)

square_canonical : IsCanonical square_terms
square_canonical = canonical_as_written square_terms
    (shaped_as_written square_terms ((refl, tt), (tt, tt)) ((λ e. cc), ((λ e. cc), tt)) (omega arith, (omega arith, tt))) (omega arith, (omega arith, tt))
    (omega arith)

abbrev pub at_object : ℕ → Sig
at_object v = record { source = record { 0 = v }; target = record { 0 = v } }

abbrev parts : Parts
parts = record {
  quiver = declared;
  order = asked.Degree;
  starred = false;
  marked = record { 0 = 0 } ∷ [];
  assumptions = record { terms = zero_terms; canonical = one_term 0 } ∷ record { terms = square_terms; canonical = square_canonical } ∷ [];
  sigs = at_object 0 ∷ at_object 1 ∷ [];
  claims = record { terms = claim_terms; canonical = one_term 2 } ∷ [];
  claim_sigs = at_object 1 ∷ [];
  shapes = record { modulus = 2; sides = 1 ∷ 1 ∷ [] } ∷ [];
  solved = [];
}

pub all_pairs_one : {A : Type 0} (R : A → A → Type 0) (x : A) → AllPairs R (x ∷ [])
all_pairs_one R x = λ i j d less inside. absurd (omega (arith, less, inside))

-- what holds of each of one, and of each of two
pub alone : {A : Type 0} (P : A → Type 0) {x : A} → P x → All P (x ∷ [])
alone P {x} one = All-cons P x [] one (All-nil P)

both : {A : Type 0} (P : A → Type 0) (x y : A) → P x → P y → All P (x ∷ y ∷ [])
both P x y one other = All-cons P x (y ∷ []) one (alone P other)

-- the names of U, V and x
abbrev u_name : List ℕ
u_name = 85 ∷ []

abbrev v_name : List ℕ
v_name = 86 ∷ []

abbrev x_name : List ℕ
x_name = 120 ∷ []

abbrev pub Differs : List ℕ → List ℕ → Type 0
Differs v w = v ≢ w

pub names_differ : {a b : ℕ} → a ≢ b → Differs (a ∷ []) (b ∷ [])
names_differ {a} {b} other e = other (cc)

distinct : AllPairs Differs (u_name ∷ v_name ∷ x_name ∷ [])
distinct = AllPairs-cons Differs u_name (v_name ∷ x_name ∷ [])
    (both (Differs u_name) v_name x_name (names_differ (λ e. omega (arith, e))) (names_differ (λ e. omega (arith, e))))
    (AllPairs-cons Differs v_name (x_name ∷ []) (alone (Differs v_name) (names_differ (λ e. omega (arith, e))))
    (all_pairs_one Differs x_name))

typed_zero : IsTypedOf declared (record { terms = zero_terms; canonical = one_term 0 }) (at_object 0)
typed_zero = typed_from_paths (quiver_of declared) 0 0 zero_terms (alone (λ (t : Term). IsPath (quiver_of declared) 0 0 t.1) refl)

typed_square : IsTypedOf declared (record { terms = square_terms; canonical = square_canonical }) (at_object 1)
typed_square = typed_from_paths (quiver_of declared) 1 1 square_terms
    (both (λ (t : Term). IsPath (quiver_of declared) 1 1 t.1) (pos 1, 2 ∷ 2 ∷ []) (negsuc 0, 2 ∷ []) refl refl)

typed_claim : IsTypedOf declared (record { terms = claim_terms; canonical = one_term 2 }) (at_object 1)
typed_claim = typed_from_paths (quiver_of declared) 1 1 claim_terms (alone (λ (t : Term). IsPath (quiver_of declared) 1 1 t.1) refl)

letter_plays : (a : ℕ) → is_in_play declared false (0 ∷ []) a ≡ true → All (IsInPlay declared false (0 ∷ [])) (a ∷ [])
letter_plays a is = alone (IsInPlay declared false (0 ∷ [])) is

posed : IsPosed parts
posed = record {
  declared = record { distinct = distinct; few_objects = omega arith; few_maps = omega arith; ends = refl };
  objects_first = refl;
  order = tt;
  marked_objects = alone (λ (v : Object). v.0 < 2) (omega arith);
  marked_ascending = all_pairs_one (λ (v w : Object). v.0 < w.0) (record { 0 = 0 });
  few_assumptions = omega arith;
  assumptions_typed = (typed_zero, (typed_square, tt));
  assumption_ends = both (HasObjects declared) (at_object 0) (at_object 1)
      (record { source = omega arith; target = omega arith }) (record { source = omega arith; target = omega arith });
  assumption_letters = both (HasLettersInPlay declared false (0 ∷ [])) (record { terms = zero_terms; canonical = one_term 0 }) (record { terms = square_terms; canonical = square_canonical })
      (alone (λ (t : Term). All (IsInPlay declared false (0 ∷ [])) t.1) (letter_plays 0 refl))
      (both (λ (t : Term). All (IsInPlay declared false (0 ∷ [])) t.1) (pos 1, 2 ∷ 2 ∷ []) (negsuc 0, 2 ∷ [])
      (both (IsInPlay declared false (0 ∷ [])) 2 2 refl refl) (letter_plays 2 refl));
  few_claims = omega arith;
  claims_typed = (typed_claim, tt);
  claim_ends = alone (HasObjects declared) (record { source = omega arith; target = omega arith });
  claim_letters = alone (HasLettersInPlay declared false (0 ∷ []))
      (alone (λ (t : Term). All (IsInPlay declared false (0 ∷ [])) t.1) (letter_plays 2 refl));
  some_shape = omega arith;
  few_shapes = omega arith;
  shapes = alone (IsShape 2) (record {
    modulus = refl;
    side_of_each = refl;
    sides = both IsSide 1 1 (record { least = omega arith; most = omega arith }) (record { least = omega arith; most = omega arith });
  });
  solved_maps = All-nil (IsDeclaredMap declared);
  solved_ascending = λ i j d less inside. absurd (omega (arith, less, inside));
}

-- the rules
abbrev zero_rule : Rule
zero_rule = record { leading = pos 1; lead = 0 ∷ []; poly = record { terms = zero_terms; canonical = one_term 0 } }

abbrev square_rule : Rule
square_rule = record { leading = pos 1; lead = 2 ∷ 2 ∷ []; poly = record { terms = square_terms; canonical = square_canonical } }

abbrev rules : List Rule
rules = zero_rule ∷ square_rule ∷ []

laws : IsAdmissible 4 word_cmp (rank_of 4)
laws = word_cmp-admissible 4

over_letter : (a : ℕ) → a < 4 → IsOver 4 (a ∷ [])
over_letter a inside = alone (λ b. b < 4) inside

square_over : IsOver 4 (2 ∷ 2 ∷ [])
square_over = both (λ b. b < 4) 2 2 (omega arith) (omega arith)

are_rules : All (IsRule 4 word_cmp) rules
are_rules = both (IsRule 4 word_cmp) zero_rule square_rule
    (record {
      leading = refl;
      positive = omega (arith, ints);
      in_range = omega arith;
      nonempty = alone (λ (t : Term). 0 < length t.1) (omega arith);
      over = alone (λ (t : Term). IsOver 4 t.1) (over_letter 0 (omega arith));
    })
    (record {
      leading = refl;
      positive = omega (arith, ints);
      in_range = omega arith;
      nonempty = both (λ (t : Term). 0 < length t.1) (pos 1, 2 ∷ 2 ∷ []) (negsuc 0, 2 ∷ []) (omega arith) (omega arith);
      over = both (λ (t : Term). IsOver 4 t.1) (pos 1, 2 ∷ 2 ∷ []) (negsuc 0, 2 ∷ []) square_over (over_letter 2 (omega arith));
    })

-- the one ambiguity, with the overlap word x x x
abbrev itself : Ambiguity
itself = record { i = 2; j = 2; kind = Overlap; place = 1 }

is_one : IsAmbiguity rules itself
is_one = record {
  first = square_rule;
  second = square_rule;
  first_numbered = refl;
  second_numbered = refl;
  meets = record {
    before = 2 ∷ [];
    shared = 2 ∷ [];
    after = 2 ∷ [];
    left_splits = refl;
    right_splits = refl;
    at_place = refl;
    before_letters = omega arith;
    shared_letters = omega arith;
    after_letters = omega arith;
  };
}

difference : s_polynomial_of rules itself ≡ Ok []
difference = refl

zero_reduced : IsReduced 4 word_cmp rules [] (start_of [])
zero_reduced = normal_forms_are_reduced 4 word_cmp (rank_of 4) rules [] 0 (start_of []) laws are_rules (shaped_as_written [] tt tt tt)
    (All-nil (λ (t : Term). IsOver 4 t.1)) refl

-- there is no other
-- a rule by its number
data WhichRule (n : ℕ) (g : Rule) : Type 0 where
  is_zero_rule : n ≡ 1 → g.lead ≡ 0 ∷ [] → WhichRule n g
  is_square_rule : n ≡ 2 → g.lead ≡ 2 ∷ 2 ∷ [] → WhichRule n g

which : (n : ℕ) (g : Rule) → rule_at rules n ≡ Some g → WhichRule n g
which zero g is = absurd (cc)
which (suc zero) g is = is_zero_rule refl (cc)
which (suc (suc zero)) g is = is_square_rule refl (cc)
which (suc (suc (suc n))) g is = absurd (cc)

no_inclusion : {n m : ℕ} {f g : Rule} (place : ℕ) → WhichRule n f → WhichRule m g → MeetsAs Inclusion n m f.lead g.lead place → ⊥
no_inclusion place (is_zero_rule i p) (is_zero_rule j q) at = at.0 (i ∙ sym j)
no_inclusion place (is_square_rule i p) (is_square_rule j q) at = at.0 (i ∙ sym j)
no_inclusion place (is_zero_rule i p) (is_square_rule j q) at =
    too_long at.1.before at.1.after (sym p ∙ at.1.splits ∙ ap (λ w. at.1.before ++ (w ++ at.1.after)) q)
  where
    too_long : (before after : List ℕ) → 0 ∷ [] ≡ before ++ (2 ∷ 2 ∷ after) → ⊥
    too_long before after e = omega (arith, ap length e, length-append before (2 ∷ 2 ∷ after))
no_inclusion place (is_square_rule i p) (is_zero_rule j q) at =
    other_letter at.1.before at.1.after (sym p ∙ at.1.splits ∙ ap (λ w. at.1.before ++ (w ++ at.1.after)) q)
  where
    first : (a b : ℕ) (v w : List ℕ) → a ∷ v ≡ b ∷ w → a ≡ b
    first a b v w e = cc

    rest : (a b : ℕ) (v w : List ℕ) → a ∷ v ≡ b ∷ w → v ≡ w
    rest a b v w e = cc

    differ : ◌≡◌ {A = ℕ} 2 0 → ⊥
    differ e = omega (arith, e)

    other_letter : (before after : List ℕ) → 2 ∷ 2 ∷ [] ≡ before ++ (0 ∷ after) → ⊥
    other_letter [] after e = differ (first 2 0 (2 ∷ []) after e)
    other_letter (b ∷ []) after e = differ (first 2 0 [] after (rest 2 b (2 ∷ []) (0 ∷ after) e))
    other_letter (b ∷ d ∷ before) after e = omega (arith, ap length e, length-append (b ∷ d ∷ before) (0 ∷ after))

only_itself : {a : Ambiguity} → IsAmbiguity rules a → a ≡ itself
only_itself {a} is = by_kind a.kind refl is.meets (which a.i is.first is.first_numbered) (which a.j is.second is.second_numbered)
  where
    by_kind : (k : Kind) → a.kind ≡ k → MeetsAs k a.i a.j is.first.lead is.second.lead a.place → WhichRule a.i is.first → WhichRule a.j is.second → a ≡ itself
    by_kind Inclusion kind at f g = absurd (no_inclusion a.place f g at)
    by_kind Overlap kind at (is_zero_rule i p) g = absurd (omega (arith, ap length (sym p ∙ at.left_splits), length-append at.before at.shared, at.before_letters, at.shared_letters))
    by_kind Overlap kind at (is_square_rule i p) (is_zero_rule j q) =
        absurd (omega (arith, ap length (sym q ∙ at.right_splits), length-append at.shared at.after, at.shared_letters, at.after_letters))
    by_kind Overlap kind at (is_square_rule i p) (is_square_rule j q) =
        let whole : 2 ≡ length at.before + length at.shared = ap length (sym p ∙ at.left_splits) ∙ length-append at.before at.shared in
        let place : a.place ≡ 1 = omega (arith, whole, at.at_place, at.before_letters, at.shared_letters) in
        λ t. record { i = i t; j = j t; kind = kind t; place = place t }

resolved : Resolved 4 word_cmp rules
resolved = record {
  each = λ a is. subst (IsResolved 4 word_cmp rules) (sym (only_itself is))
      (zero_rests_are_resolved 4 word_cmp (rank_of 4) rules itself [] (start_of []) laws are_rules is_one
      (s_polynomials_balance rules itself [] difference) zero_reduced (record { at = λ w. refl }));
}

-- types, and the generators: [U], x x - x and [U] [U] - [U]
abbrev play : ℕ → Bool
play = is_in_play declared false (0 ∷ [])

typed : All (λ g. IsTypedInPlay (quiver_of declared) play g.poly.terms) rules
typed = both (λ (g : Rule). IsTypedInPlay (quiver_of declared) play g.poly.terms) zero_rule square_rule
    (record { source = 0; target = 0; typed = typed_zero; in_play = record { at = words_with_coefficients (AreInPlay play) zero_terms (alone (λ (t : Term). AreInPlay play t.1) refl) } })
    (record {
      source = 1;
      target = 1;
      typed = typed_square;
      in_play = record { at = words_with_coefficients (AreInPlay play) square_terms (both (λ (t : Term). AreInPlay play t.1) (pos 1, 2 ∷ 2 ∷ []) (negsuc 0, 2 ∷ []) refl refl) };
    })

generators_are : generators_in parts ≡ zero_terms ∷ square_terms ∷ ((pos 1, 0 ∷ 0 ∷ []) ∷ (negsuc 0, 0 ∷ []) ∷ []) ∷ []
generators_are = refl

generated : All (InRationalIdeal (polynomials_of rules)) (generators_in parts)
generated = All-cons (InRationalIdeal (polynomials_of rules)) zero_terms (square_terms ∷ ((pos 1, 0 ∷ 0 ∷ []) ∷ (negsuc 0, 0 ∷ []) ∷ []) ∷ [])
    (record {
      denominator = pos 1;
      rows = record { coefficient = pos 1; left = []; generator = 1; right = [] } ∷ [];
      combination = record { positive = omega (arith, ints); sum = record { at = λ w. refl } };
    })
    (both (InRationalIdeal (polynomials_of rules)) square_terms ((pos 1, 0 ∷ 0 ∷ []) ∷ (negsuc 0, 0 ∷ []) ∷ [])
    (record {
      denominator = pos 1;
      rows = record { coefficient = pos 1; left = []; generator = 2; right = [] } ∷ [];
      combination = record { positive = omega (arith, ints); sum = record { at = λ w. refl } };
    })
    (record {
      denominator = pos 1;
      rows = record { coefficient = pos 1; left = []; generator = 1; right = 0 ∷ [] } ∷ record { coefficient = negsuc 0; left = []; generator = 1; right = [] } ∷ [];
      combination = record { positive = omega (arith, ints); sum = record { at = λ w. refl } };
    }))

basis : IsBasis parts rules
basis = record { posed = posed; are_rules = are_rules; resolved = resolved; typed = typed; generated = generated }

-- x is its own normal form, and so it is outside
claim_shaped : IsShaped claim_terms
claim_shaped = shaped_as_written claim_terms (tt, tt) ((λ e. cc), tt) (omega arith, tt)

claim_over : All (λ t. IsOver 4 t.1) claim_terms
claim_over = alone (λ (t : Term). IsOver 4 t.1) (over_letter 2 (omega arith))

claim_reduced : IsReduced 4 word_cmp rules claim_terms (start_of claim_terms)
claim_reduced = normal_forms_are_reduced 4 word_cmp (rank_of 4) rules claim_terms 0 (start_of claim_terms) laws are_rules claim_shaped claim_over refl

outside : InRationalIdeal (polynomials_of rules) claim_terms → ⊥
outside inside = cc ((rests_of_ideal_are_zero 4 word_cmp (rank_of 4) rules claim_terms (start_of claim_terms) laws are_rules resolved inside (record { at = words_with_coefficients (IsOver 4) claim_terms claim_over }) claim_reduced).at (2 ∷ []))

-- so x isn't zero in the category
example : SharpMeans parts rules claim_terms
example = sharp_means parts rules basis
    (((refl, tt), tt), (((refl, (refl, tt)), ((refl, tt), tt)), (((refl, (refl, tt)), ((refl, tt), tt)), tt))) claim_terms ((refl, tt), tt)
    (record { source = 1; target = 1; source_is_object = omega arith; target_is_object = omega arith; typed = typed_claim }) outside

-- 5 beside the empty word: at V it is five times the identity, and at U, which is marked, it is no map
abbrev five_at : ℕ → NormalMap Fraction
five_at v = record { source = v; target = v; form = (record { top = pos 5; bottom = 1 }, []) ∷ [] }

five : IsArrow (normal_forms parts rules) 1 1 (five_at 1)
five = ((maps_are_finite_sums parts rules 1 1 (omega arith, basis) (omega arith, basis)).lists (five_at 1)).1 (record {
  source = refl;
  target = refl;
  fractions = (record { lowest = record { positive = omega arith; apart = λ d top bottom. eq-one_of_dvd-one bottom }; nonzero = refl }, tt);
  ascending = (tt, tt);
  words = ((refl, refl), tt);
})

no_five : IsArrow (normal_forms parts rules) 0 0 (five_at 0) → ⊥
no_five is = cc ((((maps_are_finite_sums parts rules 0 0 (omega arith, basis) (omega arith, basis)).lists (five_at 0)).0 is).words.0.1)
