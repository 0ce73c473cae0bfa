-- Tables of leading words: how they are made, and what their parts are.
use Rattle.closed_checker.proofs.Prelude.{◌≡◌, ◌≢◌, ◌⊎◌, inl, inr, ℕ, suc, ◌+◌, ◌<◌, ◌≤◌, nat_eq, List, [], ◌∷◌, ◌++◌, length, map, get_or, Option, Some, None, refl, sym, ap, ◌∙◌, subst, arith, slice_cmp, All, AllPairs, Contains, IsNonDecreasingBy, IsPermutation, IsSorted, option_map, is_lt, nat_cmp, on, cases_lt, Decides-eqb, nat_list_cmp_total, length-map, get_or-map, Contains-permutation, IsPermutation-map, IsPermutation-sym, sorted_far, ranks_by, same_Some, slice_get-get_or, Rule, rule_at, ListsExactly, distinct-permutation, pairs-map, exactly-one, exactly-append, exactly-same, rule_at-last, Lead, IsLeadOf, IsTableOf, StandsBefore, rank_at}
use Rattle.closed_checker.proofs.Fronts.{BeginsWith, ranks_ascend}

-- by their numbers
abbrev pub ByNumber : Lead → Lead → Type 0
ByNumber first second = first.number < second.number

-- those of the first rules
pub record IsEarly (rules : List Rule) (count : ℕ) (lead : Lead) : Type 0 where
  pub of : IsLeadOf rules lead
  pub early : lead.number ≤ count

module _ (rules : List Rule) where
  -- the rule of a leading word
  pub record Leading (l : Lead) : Type 0 where
    pub rule : Rule
    pub numbered : rule_at rules l.number ≡ Some rule
    pub letters : rule.lead ≡ l.letters

  pub leading : (l : Lead) → IsLeadOf rules l → Leading l
  leading l is = go (rule_at rules l.number) refl is
    where
      none_some : ◌≡◌ {A = Option (List ℕ)} None (Some l.letters) → ⊥
      none_some e = cc

      go : (o : Option Rule) → rule_at rules l.number ≡ o → option_map (λ (g : Rule). g.lead) o ≡ Some l.letters → Leading l
      go None at e = absurd (none_some e)
      go (Some g) at e = record { rule = g; numbered = at; letters = same_Some g.lead l.letters e }

  lead-last : (l : Lead) → IsLeadOf rules l → l.number ≤ length rules
  lead-last l is = let of = leading l is in rule_at-last rules l.number of.rule of.numbered

  pub numbered-lead : (l : Lead) (g : Rule) → rule_at rules l.number ≡ Some g → g.lead ≡ l.letters → IsLeadOf rules l
  numbered-lead l g at letters = ap (option_map (λ (f : Rule). f.lead)) at ∙ ap Some letters

  -- the leading word of the rule at a place
  pub lead-at : (n : ℕ) (g : Rule) (l : Lead) → n < length rules → g ≡ get_or rules n g → l.letters ≡ g.lead → l.number ≡ n + 1 → IsLeadOf rules l
  lead-at n g l inside here letters number =
      let one_more : l.number ≡ suc n = omega (arith, number) in
      numbered-lead l g (ap (rule_at rules) one_more ∙ slice_get-get_or rules n g inside ∙ ap Some (sym here)) (sym letters)

  same_lead : (l m : Lead) → IsLeadOf rules l → IsLeadOf rules m → l.number ≡ m.number → l ≡ m
  same_lead l m one other number =
      let letters : l.letters ≡ m.letters = same_Some l.letters m.letters (sym one ∙ ap (λ n. option_map (λ g. g.lead) (rule_at rules n)) number ∙ other) in
      λ k. record { letters = letters k; number = number k }

  pub early-more : (count : ℕ) (lead : Lead) (leads : List Lead) → IsLeadOf rules lead → lead.number ≡ count + 1
      → ListsExactly ByNumber (IsEarly rules count) leads
      → ListsExactly ByNumber (IsEarly rules (count + 1)) (leads ++ lead ∷ [])
  early-more count lead leads is number exact =
      exactly-append ByNumber (IsEarly rules count) (λ l. lead ≡ l) (IsEarly rules (count + 1)) leads (lead ∷ []) exact (exactly-one ByNumber lead)
      (λ l m early same. omega (arith, early.early, number, ap (λ (x : Lead). x.number) same))
      (λ l. (λ early. split l early (cases_lt count l.number), join l))
    where
      split : (l : Lead) → IsEarly rules (count + 1) l → (count < l.number) ⊎ (l.number ≤ count) → IsEarly rules count l ⊎ (lead ≡ l)
      split l early (inl last) = inr (same_lead lead l is early.of (omega (arith, last, number, early.early)))
      split l early (inr before) = inl (record { of = early.of; early = before })

      join : (l : Lead) → IsEarly rules count l ⊎ (lead ≡ l) → IsEarly rules (count + 1) l
      join l (inl early) = record { of = early.of; early = omega (arith, early.early) }
      join l (inr same) = subst (IsEarly rules (count + 1)) same (record { of = is; early = omega (arith, number) })

  pub early-all : (count : ℕ) (leads : List Lead) → length rules ≤ count → ListsExactly ByNumber (IsEarly rules count) leads
      → ListsExactly ByNumber (IsLeadOf rules) leads
  early-all count leads past exact =
      exactly-same ByNumber (IsEarly rules count) (IsLeadOf rules) leads
      (λ l. (λ is. record { of = is; early = omega (arith, past, lead-last l is) }, λ early. early.of)) exact

-- sorted
numbers_differ : (leads table : List Lead) → AllPairs ByNumber leads → IsPermutation leads table → AllPairs (λ l m. l.number ≢ m.number) table
numbers_differ leads table ascending moved i j d before inside =
    let at_i = get_or-map number table i d d.number (omega (arith, before, inside)) in
    let at_j = get_or-map number table j d d.number inside in
    subst (λ (p : ℕ × ℕ). p.0 ≢ p.1) (λ n. (at_i n, at_j n)) (pairs i j d.number before (omega (arith, inside, length-map table number)))
  where
    number : Lead → ℕ
    number l = l.number

    less_differ : (l m : Lead) → Contains leads l → Contains leads m → ByNumber l m → l.number ≢ m.number
    less_differ l m l_in m_in less same = omega (arith, less, same)

    pairs : AllPairs (λ m n. m ≢ n) (map number table)
    pairs = distinct-permutation nat_eq Decides-eqb (map number leads) (map number table) (IsPermutation-map number leads table moved)
        (pairs-map number (λ n. record { letters = []; number = n }) ByNumber (λ m n. m ≢ n) leads less_differ ascending)

pub table-sorted : (rules : List Rule) (leads table : List Lead) → ListsExactly ByNumber (IsLeadOf rules) leads → IsPermutation leads table
    → IsSorted (on (λ (l : Lead). l.letters) (slice_cmp nat_cmp)) table → IsTableOf rules table
table-sorted rules leads table exact moved sorted = record {
  members = λ l. (
    λ at. (exact.members l).0 (Contains-permutation table leads l (IsPermutation-sym leads table moved) at),
    λ is. Contains-permutation leads table l moved ((exact.members l).1 is),
  );
  ascending = λ i j d before inside. (
    sorted_far (λ (x y : Lead). is_lt (slice_cmp nat_cmp x.letters y.letters)) (ranks_by nat_list_cmp_total (λ (x : Lead). x.letters)) table sorted i j d
        (omega (arith, before)) inside,
    numbers_differ leads table exact.ascending moved i j d before inside,
  );
}

-- parts
pub ranks-ascend : (front : List ℕ) (leads : List Lead) → AllPairs StandsBefore leads → All (λ l. BeginsWith front l.letters) leads
    → IsNonDecreasingBy (λ l. rank_at (length front) l.letters) leads
ranks-ascend front leads sorted begins i j d before inside = go (cases_lt i j)
  where
    go : (i < j) ⊎ (j ≤ i) → rank_at (length front) (get_or leads i d).letters ≤ rank_at (length front) (get_or leads j d).letters
    go (inl less) =
        ranks_ascend front (get_or leads i d).letters (get_or leads j d).letters (sorted i j d less inside).0 (begins i d (omega (arith, less, inside)))
        (begins j d inside)
    go (inr past) = let same : i ≡ j = omega (arith, past, before) in omega (arith, ap (λ k. rank_at (length front) (get_or leads k d).letters) same)
