-- Whether two words meet at a place is decided, and so whether an ambiguity is one of the rules. A list has all of them.
use Rattle.ambiguities.proofs.Prelude.{◌≡◌, ◌≢◌, ◌⊎◌, inl, inr, ℕ, zero, suc, ◌+◌, ◌-◌, ◌<◌, ◌≤◌, Bool, true, false, nat_eq, List, [], ◌∷◌, length, take, drop, Option, Some, None, refl, sym, ap, ◌∙◌, subst, arith, Decides, Contains, flat_map, range_with_len, starts_with, cases_lt, eqb_tells, not_from_Decides, Contains-append_left, Contains-append_right, length-range_with_len, get_or-range_with_len, same_Some, OccursAt, OverlapsAt, overlaps_at, overlaps_at-Decides, starts_with_tells, Rule, rule_at, Kind, Overlap, Inclusion, Ambiguity, MeetsAs, IsAmbiguity, lead_at, ambiguity_at}
use Rattle.ambiguities.proofs.Ascending.{contains-cases}
use Rattle.ambiguities.proofs.Joined.{lead_at-is}
use Rattle.ambiguities.proofs.Numbers.{rule_at-last}
use Rattle.ambiguities.proofs.Occurrences.{occurs_within, overlaps_within}
use Rattle.ambiguities.proofs.Sorted.{Decided}

-- what a test decides
by_test : (r : Bool) (P : Type 0) → Decides r P → Decided P
by_test true P tells = inl (tells.0 refl)
by_test false P tells = inr (not_from_Decides false tells refl)

overlap_decided : (p q : List ℕ) (place : ℕ) → Decided (OverlapsAt p q place)
overlap_decided p q place = go (cases_lt 0 place) (cases_lt place (length p))
  where
    go : (0 < place) ⊎ (place ≤ 0) → (place < length p) ⊎ (length p ≤ place) → Decided (OverlapsAt p q place)
    go (inl some) (inl inside) = by_test (overlaps_at p q place) (OverlapsAt p q place) (overlaps_at-Decides p q place some inside)
    go (inl some) (inr past) = inr (λ at. omega (arith, past, overlaps_within p q place at))
    go (inr none) inside = inr (λ at. omega (arith, none, at.at_place, at.before_letters))

occurrence_decided : (word sub : List ℕ) (place : ℕ) → Decided (OccursAt word sub place)
occurrence_decided word sub place = go (cases_lt (length word) place)
  where
    test : Bool
    test = starts_with nat_eq (take (length word - place) (drop place word)) sub

    go : (length word < place) ⊎ (place ≤ length word) → Decided (OccursAt word sub place)
    go (inl past) = inr (λ at. omega (arith, past, occurs_within word sub place at))
    go (inr inside) = by_test test (OccursAt word sub place) (starts_with_tells word sub place inside test refl)

meeting_decided : (kind : Kind) (i j : ℕ) (p q : List ℕ) (place : ℕ) → Decided (MeetsAs kind i j p q place)
meeting_decided Overlap i j p q place = overlap_decided p q place
meeting_decided Inclusion i j p q place = go (eqb_tells i j) (occurrence_decided p q place)
  where
    go : ((nat_eq i j ≡ true) × (i ≡ j)) ⊎ ((nat_eq i j ≡ false) × (i ≢ j)) → Decided (OccursAt p q place) → Decided (MeetsAs Inclusion i j p q place)
    go (inl same) occurs = inr (λ meets. meets.0 same.1)
    go (inr differ) (inl occurs) = inl (differ.1, occurs)
    go (inr differ) (inr nowhere) = inr (λ meets. nowhere meets.1)

-- an ambiguity is decided
none_some : (g : Rule) → ◌≡◌ {A = Option Rule} None (Some g) → ⊥
none_some g is = cc

module _ (rules : List Rule) where
  pub ambiguity_decided : (a : Ambiguity) → Decided (IsAmbiguity rules a)
  ambiguity_decided a = go (rule_at rules a.i) refl (rule_at rules a.j) refl
    where
      go : (o : Option Rule) → rule_at rules a.i ≡ o → (q : Option Rule) → rule_at rules a.j ≡ q → Decided (IsAmbiguity rules a)
      go None none q at = inr (λ is. none_some is.first (sym none ∙ is.first_numbered))
      go (Some g) first_at None none = inr (λ is. none_some is.second (sym none ∙ is.second_numbered))
      go (Some g) first_at (Some h) second_at = by (meeting_decided a.kind a.i a.j g.lead h.lead a.place)
        where
          by : Decided (MeetsAs a.kind a.i a.j g.lead h.lead a.place) → Decided (IsAmbiguity rules a)
          by (inl meets) = inl (record { first = g; second = h; first_numbered = first_at; second_numbered = second_at; meets = meets })
          by (inr apart) = inr (λ is.
              let first : is.first ≡ g = same_Some is.first g (sym is.first_numbered ∙ first_at) in
              let second : is.second ≡ h = same_Some is.second h (sym is.second_numbered ∙ second_at) in
              apart (subst (λ (p : Rule × Rule). MeetsAs a.kind a.i a.j p.0.lead p.1.lead a.place) (λ n. (first n, second n)) is.meets))

-- lists with all of them
numbers_below : (n k : ℕ) → k < n → Contains (range_with_len 0 n) k
numbers_below n k below = let first : 0 + k ≡ k = omega arith in (k, omega (arith, length-range_with_len 0 n, below), get_or-range_with_len 0 n k k below ∙ first)

contains_flat : {X Y : Type 0} (f : X → List Y) (xs : List X) (x : X) (y : Y) → Contains xs x → Contains (f x) y → Contains (flat_map f xs) y
contains_flat f [] x y (k, inside, is) at = absurd (omega (arith, inside))
contains_flat {X} {Y} f (z ∷ xs) x y in_list at = go (contains-cases z xs x in_list) (λ later. contains_flat f xs x y later at)
  where
    go : (z ≡ x) ⊎ Contains xs x → (Contains xs x → Contains (flat_map f xs) y) → Contains (flat_map f (z ∷ xs)) y
    go (inl is) further = Contains-append_left (f z) (flat_map f xs) y (subst (λ u. Contains (f u) y) (sym is) at)
    go (inr later) further = Contains-append_right (f z) (flat_map f xs) y (further later)

module _ (rules : List Rule) where
  at_place : ℕ → ℕ → ℕ → List Ambiguity
  at_place i j place = ambiguity_at i j Overlap place ∷ (ambiguity_at i j Inclusion place ∷ [])

  of_pair : ℕ → ℕ → List Ambiguity
  of_pair i j = flat_map (at_place i j) (range_with_len 0 (suc (length (lead_at rules i))))

  of_first : ℕ → List Ambiguity
  of_first i = flat_map (of_pair i) (range_with_len 0 (suc (length rules)))

  -- all places of all pairs of rules, in both ways
  pub candidates : List Ambiguity
  candidates = flat_map of_first (range_with_len 0 (suc (length rules)))

  module _ (a : Ambiguity) (is : IsAmbiguity rules a) where
    place_inside : a.place < suc (length (lead_at rules a.i))
    place_inside = go a.kind is.meets
      where
        lead : lead_at rules a.i ≡ is.first.lead
        lead = lead_at-is rules a.i is.first is.first_numbered

        go : (kind : Kind) → MeetsAs kind a.i a.j is.first.lead is.second.lead a.place → a.place < suc (length (lead_at rules a.i))
        go Overlap meets = omega (arith, ap length lead, overlaps_within is.first.lead is.second.lead a.place meets)
        go Inclusion meets = omega (arith, ap length lead, occurs_within is.first.lead is.second.lead a.place meets.1)

    in_one_way : Contains (at_place a.i a.j a.place) a
    unfolding at_place
    in_one_way = go a.kind refl
      where
        overlap : Ambiguity
        overlap = ambiguity_at a.i a.j Overlap a.place

        inclusion : Ambiguity
        inclusion = ambiguity_at a.i a.j Inclusion a.place

        go : (kind : Kind) → a.kind ≡ kind → Contains (ambiguity_at a.i a.j Overlap a.place ∷ (ambiguity_at a.i a.j Inclusion a.place ∷ [])) a
        go Overlap same = (zero, omega arith, λ n. record { i = a.i; j = a.j; kind = sym same n; place = a.place })
        go Inclusion same = (suc zero, omega arith, λ n. record { i = a.i; j = a.j; kind = sym same n; place = a.place })

    pub in_candidates : Contains candidates a
    unfolding candidates of_first of_pair
    in_candidates =
        contains_flat of_first (range_with_len 0 (suc (length rules))) a.i a (numbers_below (suc (length rules)) a.i (omega (arith, rule_at-last rules a.i is.first is.first_numbered)))
        (contains_flat (of_pair a.i) (range_with_len 0 (suc (length rules))) a.j a (numbers_below (suc (length rules)) a.j (omega (arith, rule_at-last rules a.j is.second is.second_numbered)))
        (contains_flat (at_place a.i a.j) (range_with_len 0 (suc (length (lead_at rules a.i)))) a.place a (numbers_below (suc (length (lead_at rules a.i))) a.place place_inside) in_one_way))
