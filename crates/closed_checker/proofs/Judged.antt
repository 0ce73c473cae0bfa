-- Each basis has exactly one outcome: it is closed, or one of its tests is the first that fails.
use Rattle.closed_checker.proofs.Prelude.{◌≡◌, ◌≢◌, ◌⊎◌, inl, inr, ◌<◌, ◌≤◌, ℕ, ◌+◌, ◌-◌, Bool, true, false, List, [], ◌∷◌, length, take, get_or, slice_get, Some, Result, Ok, Err, IfErr, refl, sym, ap, ◌∙◌, subst, arith, int_eq, Decides-int_eq, get_or-take, length-take-le, slice_get-get_or, get_or_from_slice_get, Term, word_eq, word_eq-same, word_eq-true, IsDecided, decided_by, both_decided, le_decided, HasOneOutcome, PassUpTo, FailsFirst, FirstNot, not_each, one_test, then_test, item_test, each_test, tests_up_to, reworded, asked_rank, IsCanonical, Poly, Cause, ReduceFault, Ambiguity, IsBeforeByWord, CanBeListed, Problem, Basis, Part, ClosedRefusal, order_of, rules_of, rest_of, MayBeRule, NamesClaim, HasRules, LeavesZero, IsClosedBasis, ComesBefore, Reaches, LacksRule, IsCauseOf, Refuses, GeneratorsPass, AmbiguitiesPass, EachBasisIsJudged, BasisRefusalIsUnique, ClosedBasisIsNotRefused, Gives, All, Contains}
use Rattle.std.proofs.Props as std
use Rattle.cofactor_trace.specs.declared.halt.Cause.TheVariants as cause
use Rattle.rule_reduce.specs.declared.fault.ReduceFault.TheVariants as halt
use Rattle.rule_reduce.specs.NormalForms as reduce
use Rattle.closed_checker.proofs.Lists.{ambiguities_can_be_listed}
use Rattle.closed_checker.specs.declared.part.Part.TheVariants as part
use Rattle.closed_checker.specs.declared.refusal.ClosedRefusal.TheVariants as refusal
use Rattle.closed_checker.specs.Closed.{IsMemory}
use Rattle.closed_checker.proofs.PartOrder.{order_laws}
use Rattle.closed_checker.proofs.PartRests.{rest_gives}
use Rattle.closed_checker.proofs.Passing.{generator_reached, ambiguity_reached, claim_reached}
use Rattle.closed_checker.proofs.RulesDecided.{rule_decided}

memory_decided : (e : ClosedRefusal) → IsDecided (IsMemory e)
memory_decided (refusal.Memory failed) = inl tt
memory_decided other = inr (λ none. none)

-- polynomials are the same or not
unlike : true ≡ false → ⊥
unlike is = cc

term_decided : (t u : Term) → IsDecided (t ≡ u)
term_decided t u = go (int_eq t.0 u.0) refl (word_eq t.1 u.1) refl
  where
    go : (a : Bool) → int_eq t.0 u.0 ≡ a → (c : Bool) → word_eq t.1 u.1 ≡ c → IsDecided (t ≡ u)
    go true number true word = inl (λ i. ((Decides-int_eq t.0 u.0).0 number i, word_eq-true t.1 u.1 word i))
    go true number false word = inr (λ same. unlike (sym (word_eq-same t.1) ∙ ap (λ (x : Term). word_eq t.1 x.1) same ∙ word))
    go false number c word = inr (λ same. unlike (sym ((Decides-int_eq t.0 u.0).1 (ap (λ (x : Term). x.0) same)) ∙ number))

terms_decided : (p q : List Term) → IsDecided (p ≡ q)
terms_decided [] [] = inl refl
terms_decided [] (u ∷ q) = inr (λ same. absurd (cc))
terms_decided (t ∷ p) [] = inr (λ same. absurd (cc))
terms_decided (t ∷ p) (u ∷ q) =
    decided_by (λ h. λ i. h.0 i ∷ h.1 i) (λ same. (first same, others same)) (both_decided (term_decided t u) (terms_decided p q))
  where
    first : t ∷ p ≡ u ∷ q → t ≡ u
    first same = cc

    others : t ∷ p ≡ u ∷ q → p ≡ q
    others same = cc

canonical-prop : (p : List Term) → IsProp (IsCanonical p)
canonical-prop p = Prim.hlevel std.props

same_poly : (a b : Poly) → a.terms ≡ b.terms → a ≡ b
same_poly a b same =
    subst (λ (p : List Term). (c : IsCanonical p) → ◌≡◌ {A = Poly} a (record { terms = p; canonical = c })) same
    (λ c. λ i. record { terms = a.terms; canonical = canonical-prop a.terms a.canonical c i }) b.canonical

-- results
abbrev Rest : Type 0
Rest = Result (List Term) ReduceFault

one_rest : (r : Rest) (p q : List Term) → r ≡ Ok p → r ≡ Ok q → p ≡ q
one_rest r p q left right = let both : ◌≡◌ {A = Rest} (Ok p) (Ok q) = sym left ∙ right in cc

one_fault : (r : Rest) (e f : ReduceFault) → r ≡ Err e → r ≡ Err f → e ≡ f
one_fault r e f left right = let both : ◌≡◌ {A = Rest} (Err e) (Err f) = sym left ∙ right in cc

no_fault : (r : Rest) (p : List Term) (e : ReduceFault) → r ≡ Ok p → r ≡ Err e → ⊥
no_fault r p e left right = let both : ◌≡◌ {A = Rest} (Ok p) (Err e) = sym left ∙ right in cc

cause_of : (e : ReduceFault) → (reduce.IsMemory e → ⊥) → (c : Cause) × IsCauseOf e c
cause_of (halt.Steps limit) exact = (cause.Steps limit, refl)
cause_of (halt.Overflow o) exact = (cause.Overflow o, refl)
cause_of (halt.Size s) exact = (cause.Size s.letters, refl)
cause_of (halt.Memory e) exact = absurd (exact tt)

cause_once : (e : ReduceFault) (c d : Cause) → IsCauseOf e c → IsCauseOf e d → c ≡ d
cause_once (halt.Steps limit) c d first second = first ∙ sym second
cause_once (halt.Overflow o) c d first second = first ∙ sym second
cause_once (halt.Size s) c d first second = first ∙ sym second
cause_once (halt.Memory e) c d first second = absurd first

module _ (problem : Problem) (b : Basis) where
  -- one part: it leaves what is asked, or another rest, or has a fault
  data Tells (p : Part) (asked : List Term) (tell : Poly → ClosedRefusal) (e : ClosedRefusal) : Type 0 where
    leaves : (rest : Poly) → rest_of problem b p ≡ Ok rest.terms → rest.terms ≢ asked → e ≡ tell rest → Tells p asked tell e
    stops : (f : ReduceFault) (c : Cause) → rest_of problem b p ≡ Err f → IsCauseOf f c → e ≡ refusal.Stopped p c → Tells p asked tell e

  part_outcome : (p : Part) (asked : List Term) (tell : Poly → ClosedRefusal) → ((rest : Poly) → IsMemory (tell rest) → ⊥)
      → HasOneOutcome IsMemory (rest_of problem b p ≡ Ok asked) (Tells p asked tell)
  part_outcome p asked tell exact = record { judged = judge (rest_of problem b p) refl (rest_gives problem b p); not_refused = λ left e h. absurd (fails left e h); unique = λ e f h k not not'. once e f h k }
    where
      by : (rest : Poly) → rest_of problem b p ≡ Ok rest.terms → IsDecided (rest.terms ≡ asked)
          → (rest_of problem b p ≡ Ok asked) ⊎ ((e : ClosedRefusal) × Tells p asked tell e × (IsMemory e → ⊥))
      by rest is (inl same) = inl (is ∙ ap Ok same)
      by rest is (inr other) = inr (tell rest, leaves rest is other refl, exact rest)

      judge : (r : Rest) → rest_of problem b p ≡ r → Gives IsCanonical r → (rest_of problem b p ≡ Ok asked) ⊎ ((e : ClosedRefusal) × Tells p asked tell e × (IsMemory e → ⊥))
      judge (Ok rest) is canonical = by (record { terms = rest; canonical = canonical }) is (terms_decided rest asked)
      judge (Err f) is found = let c = cause_of f found in inr (refusal.Stopped p c.0, stops f c.0 is c.1 refl, λ none. none)

      fails : rest_of problem b p ≡ Ok asked → (e : ClosedRefusal) → Tells p asked tell e → ⊥
      fails left e (leaves rest is other told) = other (one_rest (rest_of problem b p) rest.terms asked is left)
      fails left e (stops f c is from told) = no_fault (rest_of problem b p) asked f left is

      once : (e f : ClosedRefusal) → Tells p asked tell e → Tells p asked tell f → e ≡ f
      once e f (leaves rest is other told) (leaves rest' is' other' told') = told ∙ ap tell (same_poly rest rest' (one_rest (rest_of problem b p) rest.terms rest'.terms is is')) ∙ sym told'
      once e f (leaves rest is other told) (stops g c is' from told') = absurd (no_fault (rest_of problem b p) rest.terms g is is')
      once e f (stops g c is from told) (leaves rest is' other told') = absurd (no_fault (rest_of problem b p) rest.terms g is' is)
      once e f (stops g c is from told) (stops h d is' from' told') =
          told ∙ ap (refusal.Stopped p) (cause_once g c d from (subst (λ (x : ReduceFault). IsCauseOf x d) (sym (one_fault (rest_of problem b p) g h is is')) from')) ∙ sym told'

  -- of a part that leaves zero or is refused
  told_part : (p : Part) (tell : Poly → ClosedRefusal) → Reaches problem b p → ((rest : Poly) → rest_of problem b p ≡ Ok rest.terms → rest.terms ≢ [] → Refuses problem b (tell rest))
      → (e : ClosedRefusal) → Tells p [] tell e → Refuses problem b e
  told_part p tell reached left e (leaves rest is other told) = subst (Refuses problem b) (sym told) (left rest is other)
  told_part p tell reached left e (stops f c is from told) = subst (Refuses problem b) (sym told) (record { reached = reached; fault = f; stopped = is; cause = from })

  -- generators, by their numbers
  abbrev count : ℕ
  count = length problem.generators

  abbrev Vanishes : ℕ → Type 0
  Vanishes k = LeavesZero problem b (part.Generator (k + 1))

  abbrev TellsGenerator : ℕ → ClosedRefusal → Type 0
  TellsGenerator k = Tells (part.Generator (k + 1)) [] (refusal.GeneratorLeft (k + 1))

  generators_pass : (n : ℕ) → PassUpTo Vanishes n → GeneratorsPass problem b n
  generators_pass n pass = record { at = at }
    where
      at : (number : ℕ) → 1 ≤ number → number ≤ n → LeavesZero problem b (part.Generator number)
      at number least most =
          let same : number - 1 + 1 ≡ number = omega (arith, least) in
          subst (λ k. LeavesZero problem b (part.Generator k)) same (pass.at (number - 1) (omega (arith, least, most)))

  generators_outcome : HasOneOutcome IsMemory (PassUpTo Vanishes count) (FailsFirst Vanishes TellsGenerator count)
  generators_outcome = tests_up_to Vanishes TellsGenerator count (λ k inside earlier. part_outcome (part.Generator (k + 1)) [] (refusal.GeneratorLeft (k + 1)) (λ rest none. none))

  told_generator : HasRules problem b → (e : ClosedRefusal) → FailsFirst Vanishes TellsGenerator count e → Refuses problem b e
  told_generator has e h =
      let reached = generator_reached problem b has h.number h.inside (generators_pass h.number h.earlier) in
      told_part (part.Generator (h.number + 1)) (refusal.GeneratorLeft (h.number + 1)) reached (λ rest is some. record { reached = reached; left = is; nonzero = some }) e h.fails

  generator_tells : (number : ℕ) → Reaches problem b (part.Generator number) → (e : ClosedRefusal) → Tells (part.Generator number) [] (refusal.GeneratorLeft number) e → FailsFirst Vanishes TellsGenerator count e
  generator_tells number reached e tells =
      let least = reached.part.least in
      let most = reached.part.most in
      let same : number ≡ number - 1 + 1 = omega (arith, least) in
      record {
        number = number - 1;
        inside = omega (arith, least, most);
        earlier = record { at = λ k below. reached.earlier (part.Generator (k + 1)) (record { least = omega arith; most = omega (arith, least, most, below) }) (omega (arith, least, below)) };
        fails = subst (λ k. Tells (part.Generator k) [] (refusal.GeneratorLeft k) e) same tells;
      }

  -- ambiguities, in their order
  listed : CanBeListed (order_of problem) (rules_of problem b)
  listed = ambiguities_can_be_listed 0 (order_of problem) (asked_rank 0 problem.parts.order) (rules_of problem b) (order_laws problem 0)

  abbrev found : List Ambiguity
  found = listed.found

  abbrev Resolves : ℕ → Type 0
  Resolves i = (a : Ambiguity) → slice_get found i ≡ Some a → LeavesZero problem b (part.Ambiguity a)

  abbrev TellsAmbiguity : ℕ → ClosedRefusal → Type 0
  TellsAmbiguity i e = (a : Ambiguity) × (slice_get found i ≡ Some a) × Tells (part.Ambiguity a) [] (refusal.AmbiguityLeft a) e

  there : (i : ℕ) (a : Ambiguity) → i < length found → get_or found i a ≡ a → slice_get found i ≡ Some a
  there i a inside is = slice_get-get_or found i a inside ∙ ap Some is

  ambiguities_pass : PassUpTo Resolves (length found) → AmbiguitiesPass problem b
  ambiguities_pass pass = record { at = λ a is. by a ((listed.all.members a).1 is) }
    where
      by : (a : Ambiguity) → Contains found a → LeavesZero problem b (part.Ambiguity a)
      by a (i, inside, at) = pass.at i inside a (there i a inside at)

  resolve : AmbiguitiesPass problem b → PassUpTo Resolves (length found)
  resolve pass = record { at = λ i inside a at. pass.at a ((listed.all.members a).0 (i, inside, get_or_from_slice_get found i a a at)) }

  ambiguities_outcome : HasOneOutcome IsMemory (PassUpTo Resolves (length found)) (FailsFirst Resolves TellsAmbiguity (length found))
  ambiguities_outcome =
      tests_up_to Resolves TellsAmbiguity (length found)
      (λ i inside earlier. item_test found i inside (λ a at. part_outcome (part.Ambiguity a) [] (refusal.AmbiguityLeft a) (λ rest none. none)))

  told_ambiguity : HasRules problem b → GeneratorsPass problem b count → (e : ClosedRefusal) → FailsFirst Resolves TellsAmbiguity (length found) e → Refuses problem b e
  told_ambiguity has pass e h =
      told_part (part.Ambiguity a) (refusal.AmbiguityLeft a) reached (λ rest is some. record { reached = reached; left = is; nonzero = some }) e h.fails.2
    where
      a : Ambiguity
      a = h.fails.0

      at : get_or found h.number a ≡ a
      at = get_or_from_slice_get found h.number a a h.fails.1

      passed : All (λ x. LeavesZero problem b (part.Ambiguity x)) (take h.number found)
      passed k d below =
          let short = length-take-le h.number found (let inside = h.inside in omega (arith, inside)) in
          let before : k < h.number = omega (arith, below, short) in
          let inside : k < length found = let last = h.inside in omega (arith, before, last) in
          subst (λ x. LeavesZero problem b (part.Ambiguity x)) (sym (get_or-take h.number found k d before)) (h.earlier.at k before (get_or found k d) (slice_get-get_or found k d inside))

      reached : Reaches problem b (part.Ambiguity a)
      reached = subst (λ x. Reaches problem b (part.Ambiguity x)) at (ambiguity_reached problem b has pass found listed.all h.number a h.inside passed)

  ambiguity_tells : (a : Ambiguity) → Reaches problem b (part.Ambiguity a) → (e : ClosedRefusal) → Tells (part.Ambiguity a) [] (refusal.AmbiguityLeft a) e → FailsFirst Resolves TellsAmbiguity (length found) e
  ambiguity_tells a reached e tells = by ((listed.all.members a).1 reached.part)
    where
      by : Contains found a → FailsFirst Resolves TellsAmbiguity (length found) e
      by (i, inside, at) = record { number = i; inside = inside; earlier = record { at = earlier }; fails = (a, there i a inside at, tells) }
        where
          earlier : (k : ℕ) → k < i → Resolves k
          earlier k below x is =
              let within : k < length found = omega (arith, below, inside) in
              let here : get_or found k a ≡ x = get_or_from_slice_get found k x a is in
              reached.earlier (part.Ambiguity x) ((listed.all.members x).0 (k, within, get_or_from_slice_get found k x x is))
              (subst (λ (p : Ambiguity × Ambiguity). IsBeforeByWord (order_of problem) (rules_of problem b) p.0 p.1) (λ n. (here n, at n)) (listed.all.ascending k i a below inside))

  -- the tests in order
  abbrev IsSaid : Type 0
  IsSaid = rest_of problem b part.Claim ≡ Ok b.rest.terms

  abbrev TellsLater : ClosedRefusal → Type 0
  TellsLater e =
      FailsFirst Vanishes TellsGenerator count e
      ⊎ (PassUpTo Vanishes count × (FailsFirst Resolves TellsAmbiguity (length found) e
      ⊎ (PassUpTo Resolves (length found) × (Tells part.Claim b.rest.terms refusal.OtherRest e
      ⊎ (IsSaid × ((e ≡ refusal.ZeroRest) × ((b.rest.terms ≢ []) → ⊥)))))))

  abbrev MayAll : Type 0
  MayAll = All (MayBeRule (order_of problem)) b.rules

  abbrev TellsAll : ClosedRefusal → Type 0
  TellsAll e =
      ((e ≡ refusal.NoSuchClaim) × (NamesClaim problem b → ⊥))
      ⊎ (NamesClaim problem b × (((first : FirstNot (MayBeRule (order_of problem)) b.rules) × (e ≡ refusal.NotRule (first.before + 1))) ⊎ (MayAll × TellsLater e)))

  told_later : HasRules problem b → (e : ClosedRefusal) → TellsLater e → Refuses problem b e
  told_later has e (inl h) = told_generator has e h
  told_later has e (inr (generators, inl h)) = told_ambiguity has (generators_pass count generators) e h
  told_later has e (inr (generators, inr (resolved, h))) = by h
    where
      reached : Reaches problem b part.Claim
      reached = claim_reached problem b has (generators_pass count generators) (ambiguities_pass resolved)

      none_said : ((b.rest.terms ≢ []) → ⊥) → IsDecided (b.rest.terms ≡ []) → b.rest.terms ≡ []
      none_said fails (inl none) = none
      none_said fails (inr some) = absurd (fails some)

      by : Tells part.Claim b.rest.terms refusal.OtherRest e ⊎ (IsSaid × ((e ≡ refusal.ZeroRest) × ((b.rest.terms ≢ []) → ⊥))) → Refuses problem b e
      by (inl (leaves rest is other told)) = subst (Refuses problem b) (sym told) (record { reached = reached; left = is; other = other })
      by (inl (stops f c is from told)) = subst (Refuses problem b) (sym told) (record { reached = reached; fault = f; stopped = is; cause = from })
      by (inr (said, (is, fails))) =
          let none = none_said fails (terms_decided b.rest.terms []) in
          subst (Refuses problem b) (sym is) (record { reached = reached; left = said ∙ ap Ok none; said = none })

  told_all : (e : ClosedRefusal) → TellsAll e → Refuses problem b e
  told_all e (inl (is, none)) = subst (Refuses problem b) (sym is) none
  told_all e (inr (claim, inl (first, is))) =
      subst (Refuses problem b) (sym is) (record { claim = claim; before = first.before; poly = first.item; numbered = refl; there = first.there; earlier = first.earlier; refused = first.fails })
  told_all e (inr (claim, inr (each, later))) = told_later (record { claim = claim; rules = each }) e later

  later : (e : ClosedRefusal) → HasRules problem b → TellsLater e → TellsAll e
  later e has tells = inr (has.claim, inr (has.rules, tells))

  generators_before : (p : Part) (reached : Reaches problem b p) → ((k : ℕ) → k < count → ComesBefore problem b (part.Generator (k + 1)) p) → PassUpTo Vanishes count
  generators_before p reached before = record { at = λ k below. reached.earlier (part.Generator (k + 1)) (record { least = omega arith; most = omega (arith, below) }) (before k below) }

  of_ambiguity : (a : Ambiguity) → Reaches problem b (part.Ambiguity a) → (e : ClosedRefusal) → Tells (part.Ambiguity a) [] (refusal.AmbiguityLeft a) e → TellsAll e
  of_ambiguity a reached e tells = later e reached.has_rules (inr (generators_before (part.Ambiguity a) reached (λ k below. tt), inl (ambiguity_tells a reached e tells)))

  of_claim : Reaches problem b part.Claim → (e : ClosedRefusal) → Tells part.Claim b.rest.terms refusal.OtherRest e ⊎ (IsSaid × ((e ≡ refusal.ZeroRest) × ((b.rest.terms ≢ []) → ⊥))) → TellsAll e
  of_claim reached e tells =
      later e reached.has_rules
      (inr (generators_before part.Claim reached (λ k below. tt), inr (resolve (record { at = λ a is. reached.earlier (part.Ambiguity a) is tt }), tells)))

  tells_all : (e : ClosedRefusal) → Refuses problem b e → (IsMemory e → ⊥) → TellsAll e
  tells_all refusal.NoSuchClaim h not = inl (refl, h)
  tells_all (refusal.NotRule n) h not =
      inr (h.claim, inl (record { before = h.before; item = h.poly; there = h.there; earlier = h.earlier; fails = h.refused }, ap refusal.NotRule h.numbered))
  tells_all (refusal.GeneratorLeft n rest) h not = later (refusal.GeneratorLeft n rest) h.reached.has_rules (inl (generator_tells n h.reached (refusal.GeneratorLeft n rest) (leaves rest h.left h.nonzero refl)))
  tells_all (refusal.AmbiguityLeft a rest) h not = of_ambiguity a h.reached (refusal.AmbiguityLeft a rest) (leaves rest h.left h.nonzero refl)
  tells_all (refusal.OtherRest rest) h not = of_claim h.reached (refusal.OtherRest rest) (inl (leaves rest h.left h.other refl))
  tells_all refusal.ZeroRest h not = of_claim h.reached refusal.ZeroRest (inr (h.left ∙ ap Ok (sym h.said), (refl, λ some. some h.said)))
  tells_all (refusal.Stopped (part.Generator n) c) h not =
      later (refusal.Stopped (part.Generator n) c) h.reached.has_rules (inl (generator_tells n h.reached (refusal.Stopped (part.Generator n) c) (stops h.fault c h.stopped h.cause refl)))
  tells_all (refusal.Stopped (part.Ambiguity a) c) h not = of_ambiguity a h.reached (refusal.Stopped (part.Ambiguity a) c) (stops h.fault c h.stopped h.cause refl)
  tells_all (refusal.Stopped part.Claim c) h not = of_claim h.reached (refusal.Stopped part.Claim c) (inl (stops h.fault c h.stopped h.cause refl))
  tells_all (refusal.Memory failed) h not = absurd (not tt)

  pub basis_outcome : HasOneOutcome IsMemory (IsClosedBasis problem b) (Refuses problem b)
  basis_outcome =
      reworded memory_decided
      (λ h. let gens = generators_pass count h.1.1.0 in record {
        has_rules = record { claim = h.0; rules = h.1.0 };
        generators = λ number is. gens.at number is.least is.most;
        ambiguities = (ambiguities_pass h.1.1.1.0).at;
        claim = h.1.1.1.1.0;
        nonzero = h.1.1.1.1.1;
      })
      (λ h. (h.has_rules.claim, (h.has_rules.rules, (record { at = λ k below. h.generators (k + 1) (record { least = omega arith; most = omega (arith, below) }) }, (resolve (record { at = h.ambiguities }), (h.claim, h.nonzero))))))
      (λ e h not. told_all e h) tells_all
      (then_test (one_test refusal.NoSuchClaim (λ none. none) named)
      (λ claim. then_test (each_test (MayBeRule (order_of problem)) refusal.NotRule (λ n none. none) b.rules (λ i p at. rule_decided (order_of problem) p))
      (λ rules. then_test generators_outcome
      (λ generators. then_test ambiguities_outcome
      (λ resolved. then_test (part_outcome part.Claim b.rest.terms refusal.OtherRest (λ rest none. none))
      (λ said. one_test refusal.ZeroRest (λ none. none) (some_said (terms_decided b.rest.terms []))))))))
    where
      named : IsDecided (NamesClaim problem b)
      named = decided_by (λ h. record { least = h.0; most = h.1 }) (λ is. (is.least, is.most)) (both_decided (le_decided 1 b.claim) (le_decided b.claim (length problem.parts.claims)))

      some_said : IsDecided (b.rest.terms ≡ []) → IsDecided (b.rest.terms ≢ [])
      some_said (inl none) = inr (λ some. some none)
      some_said (inr some) = inl some

  pub has_all : (n : ℕ) → LacksRule problem b n → All (MayBeRule (order_of problem)) b.rules → ⊥
  has_all n h each = not_each (MayBeRule (order_of problem)) b.rules (record { before = h.before; item = h.poly; there = h.there; earlier = h.earlier; fails = h.refused }) each

pub each_basis_is_judged : EachBasisIsJudged
each_basis_is_judged problem b = (basis_outcome problem b).judged

pub basis_refusal_is_unique : BasisRefusalIsUnique
basis_refusal_is_unique problem b = (basis_outcome problem b).unique

pub closed_basis_is_not_refused : ClosedBasisIsNotRefused
closed_basis_is_not_refused problem b e closed = (basis_outcome problem b).not_refused closed e

-- so what is refused of a closed one is want of memory
pub complete : {T : Type 0} (problem : Problem) (b : Basis) (result : Result T ClosedRefusal) → IfErr result (Refuses problem b) → IsClosedBasis problem b → IfErr result IsMemory
complete problem b (Ok x) refused closed = tt
complete problem b (Err e) refused closed = closed_basis_is_not_refused problem b e closed refused
