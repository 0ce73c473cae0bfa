-- The parts of the check, one after another.
use Rattle.closed_checker.proofs.Prelude.{◌≡◌, ◌≢◌, ◌⊎◌, inl, inr, ℕ, ◌+◌, ◌<◌, ◌≤◌, List, [], ◌∷◌, length, take, get_or, Ok, refl, sym, ap, subst, ◌∙◌, arith, IsTotalOrder, All, Contains, cases_lt, get_or-take, length-take-le, All-contains, at_read, slice_get-get_or, get_or_from_slice_get, Term, Compare, made_cmp, AnyOrder, asked_cmp-admissible, Rule, Ambiguity, IsBeforeByWord, AreAllInOrder, waiting_of, not_before_itself, not_before_each_other, Problem, Basis, Part, order_of, rules_of, rest_of, HasRules, IsPart, ComesBefore, LeavesZero, Reaches, AreRulesOf, GeneratorsPass, AmbiguitiesPass}
use Rattle.closed_checker.specs.declared.part.Part.TheVariants as part

-- what is left
pub some_left : (p : List Term) → 0 < length p → p ≢ []
some_left [] some none = omega (arith, some)
some_left (t ∷ p) some none = cc

pub none_left : (p : List Term) → length p ≤ 0 → p ≡ []
none_left [] few = refl
none_left (t ∷ p) few = absurd (omega (arith, few))

module _ (problem : Problem) (b : Basis) where
  pub zero_left : (p : Part) (rest : List Term) → rest_of problem b p ≡ Ok rest → length rest ≤ 0 → LeavesZero problem b p
  zero_left p rest is few = subst (λ r. rest_of problem b p ≡ Ok r) (none_left rest few) is

  -- the list of ambiguities
  pub listed_same : (order : AnyOrder) (rules : List Rule) (found : List Ambiguity) → AreRulesOf problem b order rules → AreAllInOrder (made_cmp order) rules found
      → AreAllInOrder (order_of problem) (rules_of problem b) found
  listed_same order rules found are all = subst (λ (p : Compare × List Rule). AreAllInOrder p.0 p.1 found) (λ n. (are.compares n, are.same n)) all

  module _ (has : HasRules problem b) where
    pub generator_reached : (n : ℕ) → n < length problem.generators → GeneratorsPass problem b n → Reaches problem b (part.Generator (n + 1))
    generator_reached n below pass = record { has_rules = has; part = record { least = omega arith; most = omega (arith, below) }; earlier = earlier }
      where
        earlier : (other : Part) → IsPart problem b other → ComesBefore problem b other (part.Generator (n + 1)) → LeavesZero problem b other
        earlier (part.Generator m) is before = pass.at m is.least (omega (arith, before))
        earlier (part.Ambiguity a) is before = absurd before
        earlier part.Claim is before = absurd before

    module _ (pass : GeneratorsPass problem b (length problem.generators)) where
      -- ambiguities
      module _ (found : List Ambiguity) (all : AreAllInOrder (order_of problem) (rules_of problem b) found) where
        abbrev Before : Ambiguity → Ambiguity → Type 0
        Before = IsBeforeByWord (order_of problem) (rules_of problem b)

        -- what comes before the ambiguity behind the first i ones is among these
        before_place : (i : ℕ) (a : Ambiguity) → i < length found → a ≡ get_or found i a → (k : ℕ) (x : Ambiguity) → k < length found → get_or found k x ≡ x → Before x a → k < i
        before_place i a inside is k x within at before = go (cases_lt k i)
          where
            total : IsTotalOrder (order_of problem)
            total = (asked_cmp-admissible 0 problem.parts.order).total

            first : get_or found i x ≡ a
            first = sym (at_read found (λ y. a ≡ y) i a inside is refl x)

            later : i ≤ k → (i < k) ⊎ (k ≤ i) → ⊥
            later past (inl above) =
                not_before_each_other (order_of problem) total (waiting_of (rules_of problem b) x) (waiting_of (rules_of problem b) a) before
                (subst (λ (p : Ambiguity × Ambiguity). Before p.0 p.1) (λ n. (first n, at n)) (all.ascending i k x above within))
            later past (inr level) =
                let same : i ≡ k = omega (arith, past, level) in
                not_before_itself (order_of problem) total (waiting_of (rules_of problem b) a) (subst (λ y. Before y a) (sym at ∙ ap (λ n. get_or found n x) (sym same) ∙ first) before)

            go : (k < i) ⊎ (i ≤ k) → k < i
            go (inl below) = below
            go (inr past) = absurd (later past (cases_lt i k))

        pub ambiguity_reached : (i : ℕ) (d : Ambiguity) → i < length found → All (λ x. LeavesZero problem b (part.Ambiguity x)) (take i found)
            → Reaches problem b (part.Ambiguity (get_or found i d))
        ambiguity_reached i d inside passed = record { has_rules = has; part = (all.members a).0 (i, inside, sym is); earlier = earlier }
          where
            a : Ambiguity
            a = get_or found i d

            is : a ≡ get_or found i a
            is = sym (get_or_from_slice_get found i a a (slice_get-get_or found i d inside))

            listed : (x : Ambiguity) → Contains found x → Before x a → LeavesZero problem b (part.Ambiguity x)
            listed x (k, within, at) before =
                let below : k < i = before_place i a inside is k x within at before in
                let short : length (take i found) ≡ i = length-take-le i found (omega (arith, inside)) in
                subst (λ y. LeavesZero problem b (part.Ambiguity y)) (get_or-take i found k x below ∙ at) (passed k x (omega (arith, below, short)))

            earlier : (other : Part) → IsPart problem b other → ComesBefore problem b other (part.Ambiguity a) → LeavesZero problem b other
            earlier (part.Generator m) is_part before = pass.at m is_part.least is_part.most
            earlier (part.Ambiguity x) is_part before = listed x ((all.members x).1 is_part) before
            earlier part.Claim is_part before = absurd before

        pub ambiguities_passed : All (λ x. LeavesZero problem b (part.Ambiguity x)) found → AmbiguitiesPass problem b
        ambiguities_passed each = record { at = λ a is. All-contains (λ x. LeavesZero problem b (part.Ambiguity x)) found a each ((all.members a).1 is) }

      -- the claim
      pub claim_reached : AmbiguitiesPass problem b → Reaches problem b part.Claim
      claim_reached ambiguities = record { has_rules = has; part = tt; earlier = earlier }
        where
          earlier : (other : Part) → IsPart problem b other → ComesBefore problem b other part.Claim → LeavesZero problem b other
          earlier (part.Generator m) is before = pass.at m is.least is.most
          earlier (part.Ambiguity a) is before = ambiguities.at a is
          earlier part.Claim is before = absurd before
