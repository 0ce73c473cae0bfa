-- The ambiguities of two rules: those of each kind, at their places.
use Rattle.ambiguities.proofs.Prelude.{◌≡◌, ◌≢◌, ◌⊎◌, inl, inr, ℕ, ◌+◌, ◌<◌, ◌≤◌, List, length, Some, refl, sym, ap, ◌∙◌, subst, arith, same_Some, Rule, rule_at, Kind, Overlap, Inclusion, Ambiguity, MeetsAs, IsBefore, kind_number, IsGrown, IsOfPair, Agree, IsAgreement, OccursAt-length}
use Rattle.ambiguities.proofs.Occurrences.{overlaps_within, overlaps_past}
use Rattle.ambiguities.proofs.Agreement.{occurs_by_agreement, agreement_by_occurrence, overlaps_by_agreement, agreement_by_overlap}
use Rattle.ambiguities.proofs.Exactly.{grown-append, grown-same}

module _ (rules : List Rule) (i j : ℕ) (first second : Rule) (first_is : rule_at rules i ≡ Some first) (second_is : rule_at rules j ≡ Some second) where
  pub record OfKind (kind : Kind) (a : Ambiguity) : Type 0 where
    pub of_kind : a.kind ≡ kind
    pub of_pair : IsOfPair rules i j a

  abbrev pub MeetAt : Kind → ℕ → Type 0
  MeetAt kind place = MeetsAs kind i j first.lead second.lead place

  -- where the two words meet
  met : (kind : Kind) (a : Ambiguity) → OfKind kind a → MeetAt kind a.place
  met kind a of =
      let is = of.of_pair.0 in
      let same_first : is.first ≡ first = same_Some is.first first (sym is.first_numbered ∙ ap (rule_at rules) of.of_pair.1 ∙ first_is) in
      let same_second : is.second ≡ second = same_Some is.second second (sym is.second_numbered ∙ ap (rule_at rules) of.of_pair.2 ∙ second_is) in
      subst (λ (t : Kind × ℕ × ℕ × Rule × Rule). MeetsAs t.0 t.1 t.2 t.3.lead t.4.lead a.place)
      (λ n. (of.of_kind n, of.of_pair.1 n, of.of_pair.2 n, same_first n, same_second n)) is.meets

  -- an ambiguity of the two rules where they do
  made : (kind : Kind) (a : Ambiguity) → a.i ≡ i → a.j ≡ j → a.kind ≡ kind → MeetAt kind a.place → OfKind kind a
  made kind a i_is j_is kind_is meets = record {
    of_kind = kind_is;
    of_pair = (
      record {
        first = first;
        second = second;
        first_numbered = ap (rule_at rules) i_is ∙ first_is;
        second_numbered = ap (rule_at rules) j_is ∙ second_is;
        meets = subst (λ (t : Kind × ℕ × ℕ). MeetsAs t.0 t.1 t.2 first.lead second.lead a.place) (λ n. (sym kind_is n, sym i_is n, sym j_is n)) meets;
      },
      i_is,
      j_is,
    );
  }

  -- where the words agree at some places, and meet at no others
  grown-kind : (kind : Kind) (low high : ℕ) (old new : List Ambiguity) → ((place : ℕ) → low ≤ place → place < high → Agree first.lead second.lead place → MeetAt kind place)
      → ((place : ℕ) → MeetAt kind place → (low ≤ place) × (place < high) × Agree first.lead second.lead place)
      → IsGrown (IsAgreement i j kind first.lead second.lead low high) old new → IsGrown (OfKind kind) old new
  grown-kind kind low high old new into back grown = grown-same (IsAgreement i j kind first.lead second.lead low high) (OfKind kind) old new
      (λ a. (λ of. found a of (back a.place (met kind a of)), λ is. made kind a is.first is.second is.of_kind (into a.place is.reached is.below is.agree))) grown
    where
      found : (a : Ambiguity) → OfKind kind a → (low ≤ a.place) × (a.place < high) × Agree first.lead second.lead a.place → IsAgreement i j kind first.lead second.lead low high a
      found a of at = record { first = of.of_pair.1; second = of.of_pair.2; of_kind = of.of_kind; reached = at.0; below = at.1; agree = at.2 }

  -- overlaps from the first place on from which the second word ends after the first
  pub grown-overlaps : (low : ℕ) (old new : List Ambiguity) → 0 < low → length first.lead < low + length second.lead → ((n : ℕ) → 0 < n → length first.lead < n + length second.lead → low ≤ n)
      → IsGrown (IsAgreement i j Overlap first.lead second.lead low (length first.lead)) old new → IsGrown (OfKind Overlap) old new
  grown-overlaps low old new some longer least = grown-kind Overlap low (length first.lead) old new
      (λ n reached below agree. overlaps_by_agreement first.lead second.lead n (omega (arith, some, reached)) below (omega (arith, longer, reached)) agree)
      (λ n at. (least n (omega (arith, ap length at.left_splits, at.at_place, at.before_letters)) (overlaps_past first.lead second.lead n at), overlaps_within first.lead second.lead n at, agreement_by_overlap first.lead second.lead n at))

  -- inclusions up to the last place from which it doesn't
  pub grown-inclusions : (high : ℕ) (old new : List Ambiguity) → i ≢ j → ((n : ℕ) → n < high → n + length second.lead ≤ length first.lead) → ((n : ℕ) → n + length second.lead ≤ length first.lead → n < high)
      → IsGrown (IsAgreement i j Inclusion first.lead second.lead 0 high) old new → IsGrown (OfKind Inclusion) old new
  grown-inclusions high old new apart fits past = grown-kind Inclusion 0 high old new
      (λ n _ below agree. (apart, occurs_by_agreement first.lead second.lead n (fits n below) agree))
      (λ n meets. (omega arith, past n (omega (arith, OccursAt-length first.lead second.lead n meets.1)), agreement_by_occurrence first.lead second.lead n meets.1))

  overlaps_first : (a b : Ambiguity) → OfKind Overlap a → OfKind Inclusion b → IsBefore a b
  overlaps_first a b of_a of_b =
      let less : kind_number a.kind < kind_number b.kind = omega (arith, ap kind_number of_a.of_kind, ap kind_number of_b.of_kind) in
      inr (of_a.of_pair.1 ∙ sym of_b.of_pair.1, inr (of_a.of_pair.2 ∙ sym of_b.of_pair.2, inl less))

  by_kind : (a : Ambiguity) → IsOfPair rules i j a → OfKind Overlap a ⊎ OfKind Inclusion a
  by_kind a pair = go a.kind refl
    where
      go : (kind : Kind) → a.kind ≡ kind → OfKind Overlap a ⊎ OfKind Inclusion a
      go Overlap is = inl (record { of_kind = is; of_pair = pair })
      go Inclusion is = inr (record { of_kind = is; of_pair = pair })

  of_either : (a : Ambiguity) → OfKind Overlap a ⊎ OfKind Inclusion a → IsOfPair rules i j a
  of_either a (inl of) = of.of_pair
  of_either a (inr of) = of.of_pair

  -- overlaps and then inclusions
  pub grown-both : (old mid new : List Ambiguity) → IsGrown (OfKind Overlap) old mid → IsGrown (OfKind Inclusion) mid new → IsGrown (IsOfPair rules i j) old new
  grown-both old mid new overlaps inclusions =
      grown-append (OfKind Overlap) (OfKind Inclusion) (IsOfPair rules i j) old mid new overlaps inclusions overlaps_first (λ a. (by_kind a, of_either a))

  -- a rule has no inclusion in itself
  pub grown-itself : (old new : List Ambiguity) → i ≡ j → IsGrown (OfKind Overlap) old new → IsGrown (IsOfPair rules i j) old new
  grown-itself old new same overlaps = grown-same (OfKind Overlap) (IsOfPair rules i j) old new (λ a. (λ pair. overlap a (by_kind a pair), λ of. of.of_pair)) overlaps
    where
      overlap : (a : Ambiguity) → OfKind Overlap a ⊎ OfKind Inclusion a → OfKind Overlap a
      overlap a (inl of) = of
      overlap a (inr of) = absurd ((met Inclusion a of).0 same)
