-- Each model has exactly one outcome: it refutes its claim, or one of the tests is the first that fails.
use Rattle.model_checker.proofs.Prelude.{◌≡◌, ℕ, suc, ◌+◌, ◌-◌, ◌<◌, List, [], length, take, get_or, Some, None, slice_get, ◌⊎◌, inl, inr, refl, sym, subst, ap, ◌∙◌, arith, AllByRecursion, cases_eq, length-map, All-from_recursion, recursion_from_All, slice_get_within, slice_get-get_or, get_or_from_slice_get, AllZip-long, Quiver, letters, source, target, star, generator_at, value_at, IsDecided, decided_by, both_decided, le_decided, lt_decided, HasOneOutcome, PassUpTo, FailsFirst, FirstNot, not_each, one_test, found_test, where_test, then_test, each_test, tests_up_to, reworded, Poly, Sig, quiver_of, Matrix, matrices, transpose, Model, Problem, IsTypedOf, HasObjects, ModelRefusal, IsMap, HasEnds, IsSelfTransposed, HaveMatrices, IsClaimNumber, IsZeroIn, assumptions_of, claim_polynomial, Refutes, side_of, map_at, representation_of, IsMemory, IsAtMap, RefusesMap, IsFirstNotZero, RefusesModel, EachModelIsJudged, RefutingModelIsNotRefused, ModelRefusalIsUnique}
use Rattle.definitions.specs.Poly as terms
use Rattle.model_checker.specs.declared.refusal.ModelRefusal.TheVariants as refusal
use Rattle.model_checker.proofs.Counterexamples.{both_at, IsPosedOf, claims_are_posed, claim_at, claim_is, zero_from_posed}
use Rattle.model_checker.proofs.Decided.{matrix_decided, is_matrix_decided}
use Rattle.model_checker.proofs.Places.{all_at, zip_at, generator_at-suc}

memory_decided : (e : ModelRefusal) → IsDecided (IsMemory e)
memory_decided (refusal.Memory failed) = inl tt
memory_decided other = inr (λ none. none)

-- declared maps
module _ (q : Quiver) (m : Model) where
  map_decided : (a : ℕ) → IsDecided (IsMap q a)
  map_decided a =
      decided_by (λ h. record { map = h.0; letter = h.1.0; declared = h.1.1 }) (λ is. (is.map, (is.letter, is.declared)))
      (both_decided (le_decided q.objects a) (both_decided (lt_decided a (letters q)) (le_decided a (star q a))))

  ends_decided : (a : ℕ) (x : Matrix) → IsDecided (HasEnds q m a x)
  ends_decided a x =
      decided_by (λ h. record { matrix = h.0; rows = h.1.0; columns = h.1.1 }) (λ is. (is.matrix, (is.rows, is.columns)))
      (both_decided (is_matrix_decided m.modulus x) (both_decided (cases_eq x.rows (side_of m (target q a))) (cases_eq x.columns (side_of m (source q a)))))

  self_transposed_decided : (a : ℕ) (x : Matrix) → IsDecided (IsSelfTransposed q m a x)
  self_transposed_decided a x = go (cases_eq (star q a) a)
    where
      go : (star q a ≡ a) ⊎ (star q a ≡ a → ⊥) → IsDecided (IsSelfTransposed q m a x)
      go (inl itself) = decided_by (λ same. record { same = λ e. same }) (λ is. is.same itself) (matrix_decided (transpose m.modulus x) x)
      go (inr other) = inl (record { same = λ itself. absurd (other itself) })

  -- the tests of a map
  abbrev HasIt : ℕ → Type 0
  HasIt a = (x : Matrix) × (map_at m a ≡ Some x) × (HasEnds q m a x × IsSelfTransposed q m a x)

  abbrev Tells : ℕ → ModelRefusal → Type 0
  Tells a e =
      ((e ≡ refusal.MissingMap (record { 0 = a })) × (map_at m a ≡ None))
      ⊎ ((x : Matrix) × (map_at m a ≡ Some x) × (((e ≡ refusal.BadShape (record { 0 = a })) × (HasEnds q m a x → ⊥))
      ⊎ (HasEnds q m a x × ((e ≡ refusal.NotSymmetric (record { 0 = a })) × (IsSelfTransposed q m a x → ⊥)))))

  map_outcome : (a : ℕ) → HasOneOutcome IsMemory (HasIt a) (Tells a)
  map_outcome a =
      found_test (refusal.MissingMap (record { 0 = a })) (λ none. none) (map_at m a)
      (λ x there. then_test (one_test (refusal.BadShape (record { 0 = a })) (λ none. none) (ends_decided a x))
      (λ ends. one_test (refusal.NotSymmetric (record { 0 = a })) (λ none. none) (self_transposed_decided a x)))

  abbrev Passes : ℕ → Type 0
  Passes a = IsMap q a → HasIt a

  abbrev Fails : ℕ → ModelRefusal → Type 0
  Fails a e = IsMap q a × Tells a e

  have : (n : ℕ) → PassUpTo Passes n → HaveMatrices q m n
  have n pass = record { each = λ a below map. let h = pass.at a below map in record { matrix = h.0; there = h.1; ends = h.2.0; self_transposed = h.2.1 } }

  pass_here : (n : ℕ) → HaveMatrices q m n → PassUpTo Passes n
  pass_here n have = record { at = λ a below map. let h = have.each a below map in (h.matrix, h.there, (h.ends, h.self_transposed)) }

  told : (e : ModelRefusal) → FailsFirst Passes Fails (letters q) e → RefusesMap q m e
  told e h = by h.fails.1
    where
      at : IsAtMap q m h.number
      at = record { map = h.fails.0; earlier = have h.number h.earlier }

      by : Tells h.number e → RefusesMap q m e
      by (inl (is, none)) = subst (RefusesMap q m) (sym is) (record { at = at; none = none })
      by (inr (x, there, inl (is, other))) = subst (RefusesMap q m) (sym is) (record { at = at; matrix = x; there = there; other = other })
      by (inr (x, there, inr (ends, (is, other)))) = subst (RefusesMap q m) (sym is) (record { at = at; matrix = x; there = there; ends = ends; other = other })

  fails : (e : ModelRefusal) (a : ℕ) → IsAtMap q m a → Tells a e → FailsFirst Passes Fails (letters q) e
  fails e a at tells = record { number = a; inside = at.map.letter; earlier = pass_here a at.earlier; fails = (at.map, tells) }

  tells : (e : ModelRefusal) → RefusesMap q m e → (IsMemory e → ⊥) → FailsFirst Passes Fails (letters q) e
  tells (refusal.MissingMap a) h not = fails (refusal.MissingMap a) a.0 h.at (inl (refl, h.none))
  tells (refusal.BadShape a) h not = fails (refusal.BadShape a) a.0 h.at (inr (h.matrix, h.there, inl (refl, h.other)))
  tells (refusal.NotSymmetric a) h not = fails (refusal.NotSymmetric a) a.0 h.at (inr (h.matrix, h.there, inr (h.ends, (refl, h.other))))
  tells (refusal.Memory failed) h not = absurd (not tt)
  tells other h not = absurd h

  maps_outcome : HasOneOutcome IsMemory (HaveMatrices q m (letters q)) (RefusesMap q m)
  maps_outcome = reworded memory_decided (have (letters q)) (pass_here (letters q)) (λ e h not. told e h) tells (tests_up_to Passes Fails (letters q) (λ a inside earlier. where_test (map_decided a) (λ map. map_outcome a)))

-- values
module _ (problem : Problem) (m : Model) where
  abbrev assumptions : List terms.Poly
  assumptions = assumptions_of problem

  -- at its signature the value can be compared with the zero matrix
  zero_decided : (p : Poly) (s : Sig) → IsPosedOf problem p s → IsDecided (IsZeroIn problem m p.terms)
  zero_decided p s posed =
      let q = quiver_of problem.parts.quiver in
      let f = representation_of q m in
      decided_by (zero_from_posed problem m p s posed) (λ zero. zero.at s.source.0 s.target.0 posed.ends.source posed.ends.target posed.typed)
      (matrix_decided (value_at (matrices m.modulus) q f s.source.0 s.target.0 p.terms) ((matrices m.modulus).zero (f.object s.source.0) (f.object s.target.0)))

  assumption_decided : (k : ℕ) (p : terms.Poly) → slice_get assumptions k ≡ Some p → IsDecided (IsZeroIn problem m p)
  assumption_decided k p there =
      let parts = problem.parts in
      let inside : k < length parts.assumptions = subst (λ n. k < n) (length-map parts.assumptions (λ r. r.terms)) (slice_get_within assumptions k p there) in
      let at = both_at parts.assumptions parts.sigs k (AllZip-long (IsTypedOf parts.quiver) parts.assumptions parts.sigs problem.posed.assumptions_typed) inside in
      let next : k + 1 ≡ suc k = omega arith in
      let same : at.x.terms ≡ p = sym (generator_at-suc parts.assumptions k at.x at.x_there) ∙ ap (generator_at assumptions) next ∙ get_or_from_slice_get assumptions k p [] there in
      subst (λ r. IsDecided (IsZeroIn problem m r)) same (zero_decided at.x at.y (record {
        typed = zip_at (IsTypedOf parts.quiver) parts.assumptions parts.sigs k at.x at.y problem.posed.assumptions_typed at.x_there at.y_there;
        ends = all_at (HasObjects parts.quiver) parts.sigs k at.y problem.posed.assumption_ends at.y_there;
      }))

  abbrev IsZero : terms.Poly → Type 0
  IsZero = IsZeroIn problem m

  item_is : (number k : ℕ) (p : terms.Poly) → number ≡ k + 1 → slice_get assumptions k ≡ Some p → generator_at assumptions number ≡ p
  item_is number k p numbered there = let next : k + 1 ≡ suc k = omega arith in ap (generator_at assumptions) (numbered ∙ next) ∙ get_or_from_slice_get assumptions k p [] there

  to_first : (first : FirstNot IsZero assumptions) → IsFirstNotZero problem m (first.before + 1)
  to_first first = record {
    before = first.before;
    numbered = refl;
    inside = slice_get_within assumptions first.before first.item first.there;
    earlier = recursion_from_All IsZero (take first.before assumptions) first.earlier;
    other = λ zero. first.fails (subst IsZero (item_is (first.before + 1) first.before first.item refl first.there) zero);
  }

  from_first : (number : ℕ) → IsFirstNotZero problem m number → (first : FirstNot IsZero assumptions) × (refusal.NotZero number ≡ refusal.NotZero (first.before + 1))
  from_first number h =
      let there = slice_get-get_or assumptions h.before [] h.inside in (
        record {
          before = h.before;
          item = get_or assumptions h.before [];
          there = there;
          earlier = All-from_recursion IsZero (take h.before assumptions) h.earlier;
          fails = λ zero. h.other (subst IsZero (sym (item_is number h.before (get_or assumptions h.before []) h.numbered there)) zero);
        },
        ap refusal.NotZero h.numbered,
      )

  pub not_all_zero : (number : ℕ) → IsFirstNotZero problem m number → AllByRecursion IsZero assumptions → ⊥
  not_all_zero number h all = not_each IsZero assumptions (from_first number h).0 (All-from_recursion IsZero assumptions all)

  claim_decided : IsClaimNumber problem m.claim → IsDecided (IsZeroIn problem m (claim_polynomial problem m.claim))
  claim_decided number =
      let at = claim_at problem m m.claim number in
      let is = claim_is problem m m.claim number in
      decided_by (subst (IsZeroIn problem m) (sym is)) (subst (IsZeroIn problem m) is) (zero_decided at.x at.y (claims_are_posed problem m (m.claim - 1) at))

  -- the tests in order
  abbrev IsNamed : Type 0
  IsNamed = IsClaimNumber problem m.claim

  abbrev Maps : Type 0
  Maps = HaveMatrices (quiver_of problem.parts.quiver) m (letters (quiver_of problem.parts.quiver))

  abbrev IsOther : Type 0
  IsOther = IsZero (claim_polynomial problem m.claim) → ⊥

  abbrev TellsAll : ModelRefusal → Type 0
  TellsAll e =
      ((e ≡ refusal.NoSuchClaim) × (IsNamed → ⊥))
      ⊎ (IsNamed × (RefusesMap (quiver_of problem.parts.quiver) m e
      ⊎ (Maps × (((first : FirstNot IsZero assumptions) × (e ≡ refusal.NotZero (first.before + 1)))
      ⊎ (AllByRecursion IsZero assumptions × ((e ≡ refusal.ClaimZero) × (IsOther → ⊥)))))))

  of_map : IsNamed → (e : ModelRefusal) → RefusesMap (quiver_of problem.parts.quiver) m e → RefusesModel problem m e
  of_map named (refusal.MissingMap letter) h = (named, h)
  of_map named (refusal.BadShape letter) h = (named, h)
  of_map named (refusal.NotSymmetric letter) h = (named, h)
  of_map named (refusal.Memory failed) h = tt
  of_map named other h = absurd h

  told_all : (e : ModelRefusal) → TellsAll e → RefusesModel problem m e
  told_all e (inl (is, none)) = subst (RefusesModel problem m) (sym is) none
  told_all e (inr (named, inl h)) = of_map named e h
  told_all e (inr (named, inr (maps, inl (first, is)))) = subst (RefusesModel problem m) (sym is) (record { claim = named; maps = maps }, to_first first)
  told_all e (inr (named, inr (maps, inr (all, (is, fails))))) = subst (RefusesModel problem m) (sym is) (by (claim_decided named))
    where
      by : IsDecided (IsZero (claim_polynomial problem m.claim)) → RefusesModel problem m refusal.ClaimZero
      by (inl zero) = record { assumptions = record { fitting = record { claim = named; maps = maps }; zero = all }; claim = zero }
      by (inr other) = absurd (fails other)

  tells_all : (e : ModelRefusal) → RefusesModel problem m e → (IsMemory e → ⊥) → TellsAll e
  tells_all refusal.NoSuchClaim h not = inl (refl, h)
  tells_all (refusal.MissingMap letter) h not = inr (h.0, inl h.1)
  tells_all (refusal.BadShape letter) h not = inr (h.0, inl h.1)
  tells_all (refusal.NotSymmetric letter) h not = inr (h.0, inl h.1)
  tells_all (refusal.NotZero number) h not = inr (h.0.claim, inr (h.0.maps, inl (from_first number h.1)))
  tells_all refusal.ClaimZero h not =
      let fitting = h.assumptions.fitting in
      inr (fitting.claim, inr (fitting.maps, inr (h.assumptions.zero, (refl, λ other. other h.claim))))
  tells_all (refusal.Memory failed) h not = absurd (not tt)

  not_decided : {P : Type 0} → IsDecided P → IsDecided (P → ⊥)
  not_decided (inl p) = inr (λ none. none p)
  not_decided (inr none) = inl none

  model_outcome : HasOneOutcome IsMemory (Refutes problem m) (RefusesModel problem m)
  model_outcome =
      reworded memory_decided
      (λ h. record { assumptions = record { fitting = record { claim = h.0; maps = h.1.0 }; zero = h.1.1.0 }; claim = h.1.1.1 })
      (λ h. let a = h.assumptions in (a.fitting.claim, (a.fitting.maps, (a.zero, h.claim)))) (λ e h not. told_all e h) tells_all
      (then_test
      (one_test refusal.NoSuchClaim (λ none. none)
      (decided_by (λ h. record { least = h.0; most = h.1 }) (λ is. (is.least, is.most)) (both_decided (le_decided 1 m.claim) (le_decided m.claim (length problem.parts.claims)))))
      (λ named. then_test (maps_outcome (quiver_of problem.parts.quiver) m)
      (λ maps. then_test (reworded memory_decided (recursion_from_All IsZero assumptions) (All-from_recursion IsZero assumptions) (λ e h not. h) (λ e h not. h) (each_test IsZero refusal.NotZero (λ n none. none) assumptions assumption_decided))
      (λ all. one_test refusal.ClaimZero (λ none. none) (not_decided (claim_decided named))))))

pub each_model_is_judged : EachModelIsJudged
each_model_is_judged problem m = (model_outcome problem m).judged

pub refuting_model_is_not_refused : RefutingModelIsNotRefused
refuting_model_is_not_refused problem m e refutes = (model_outcome problem m).not_refused refutes e

pub model_refusal_is_unique : ModelRefusalIsUnique
model_refusal_is_unique problem m = (model_outcome problem m).unique

pub refutes_decided : (problem : Problem) (m : Model) → IsDecided (Refutes problem m)
refutes_decided problem m = go (each_model_is_judged problem m)
  where
    go : Refutes problem m ⊎ ((e : ModelRefusal) × RefusesModel problem m e × (IsMemory e → ⊥)) → IsDecided (Refutes problem m)
    go (inl refutes) = inl refutes
    go (inr refused) = inr (λ refutes. refused.2 (refuting_model_is_not_refused problem m refused.0 refutes refused.1))
