-- The invariant stays when a rule is appended with its record, and when one generator or one ambiguity is treated.
use Rattle.confluence.proofs.Prelude.{◌≡◌, ◌≢◌, ◌⊎◌, inl, inr, ◌≤◌, ◌<◌, ◌+◌, ℕ, zero, suc, ℤ, pos, ◌*ℤ◌, ◌<ℤ◌, neg_ℤ, List, [], ◌∷◌, ◌++◌, length, slice_get, Some, Bool, true, false, refl, sym, ap, ◌∙◌, subst, arith, append-nil, append_assoc, All, ints, length-append, take_at, slice_get_within, All-weaker, All-push, All-nil, All-take, Word, Term, coefficient_of, poly_multiple, SamePolynomial, generator_at, coefficient_of-multiple, OccursNowhere, Compare, IsAdmissible, Origin, Row, Made, traced_sum, Traces, AreTraces, Rule, IsRule, rule_at, polynomials_of, IsIrreducible, IsByRule, rule_at-all, rule_at-polynomial, words_with_coefficients, Ambiguity, IsResolved, s_sum, leading_coefficient, rule_at-last, rule_at-first, IsEarlier, AddsUpTo, signed, signed_rows, IsMadeOf, generator_rows, rows_less, IsAppended, nothing_left, rule_made, AreApart, IsRecorded, AreRecorded, IsReached, HaveLettersBelow, Kept, StartIsKept, GeneratorsAreKept, AmbiguitiesAreKept, ResolvedAtOnceIsKept, Order, order_from_laws, State, IsZero, IsReduced, IsAmbiguity, overlap_word_of, first_row, second_row, s_rows_of, all_two}
use Rattle.traced_rows.specs.declared.Origin.TheVariants as origin
use Rattle.confluence.proofs.Integers.{neg_ℤ-*ℤ}
use Rattle.confluence.proofs.MoreRules.{reached_more, in_range, reached_from_span, span_more, cancel_nonzero, IsAccounted, rest_bounded, accounted_span, reduced_in}
use Rattle.confluence.proofs.MoreAmbiguities.{resolved_more, ambiguity_more, overlap_word-more, s_sum-more}
use Rattle.confluence.proofs.RowSums.{polynomial-more, traced_sum-more, traced-negated, all_negated, less_adds_up, generator_adds_up, traced_sum-by_rules, earlier_by_rule}
use Rattle.confluence.proofs.Meets.{Allowed}
use Rattle.confluence.proofs.Outside.{AnyRow, at_most_of}
use Rattle.confluence.proofs.ReducedSpans.{zero_rest_span, reduced_span}
use Rattle.confluence.proofs.LedRules.{ordered, Bounded, from_rest}
use Rattle.confluence.proofs.Resolve.{bounded_self, below}
use Rattle.confluence.proofs.Spans.{Span}
use Rattle.confluence.proofs.RestLaws.{s_bounded, resolved_by, zero_rests_are_resolved}

-- the last item of a list
slice_get-which : {X : Type 0} (xs : List X) (y x : X) (n : ℕ) → slice_get (xs ++ (y ∷ [])) n ≡ Some x → (slice_get xs n ≡ Some x) ⊎ ((n ≡ length xs) × (x ≡ y))
slice_get-which [] y x zero is = inr (refl, cc)
slice_get-which [] y x (suc n) is = absurd (cc)
slice_get-which (z ∷ xs) y x zero is = inl is
slice_get-which (z ∷ xs) y x (suc n) is = elim (slice_get-which xs y x n is) [
  | inl old ↦ inl old
  | inr (last, same) ↦ inr (ap suc last, same)
]

pub slice_get-last : (rules : List Rule) (g : Rule) → slice_get (rules ++ (g ∷ [])) (length rules) ≡ Some g
slice_get-last [] g = refl
slice_get-last (f ∷ rules) g = slice_get-last rules g

pub rule_at-which : (rules : List Rule) (g h : Rule) (n : ℕ) → rule_at (rules ++ (g ∷ [])) n ≡ Some h → (rule_at rules n ≡ Some h) ⊎ ((n ≡ suc (length rules)) × (h ≡ g))
rule_at-which rules g h zero is = absurd (cc)
rule_at-which rules g h (suc n) is = elim (slice_get-which rules g h n is) [
  | inl old ↦ inl old
  | inr (last, same) ↦ inr (ap suc last, same)
]

-- rows over more rules
earlier-weaker : (generators rules more : ℕ) → rules ≤ more → (row : Row) → IsEarlier generators rules row.from → IsEarlier generators more row.from
earlier-weaker generators rules more within row = go row.from
  where
    go : (x : Origin) → IsEarlier generators rules x → IsEarlier generators more x
    go (origin.Generator n) named = named
    go (origin.Rule n) named = (named.0, omega (arith, named.1, within))

-- a sign that isn't zero
pub signed_nonzero : (negated : Bool) (k : ℤ) → pos 0 <ℤ k → signed negated k ≢ pos 0
signed_nonzero true k above none = omega (arith, ints, above, none)
signed_nonzero false k above none = omega (arith, ints, above, none)

module _ (letters : ℕ) (compare : Compare) (rank : List ℕ → List ℕ) (laws : IsAdmissible letters compare rank) (generators : List (List Term)) (over : HaveLettersBelow letters generators)
    (rules : List Rule) (made : List Made) (done : List ℕ) (treated : List Ambiguity) (kept : Kept letters compare generators rules made done treated)
    (rest : List Term) (rows : List Row) (irreducible : IsIrreducible rules rest) (adds : AddsUpTo generators rules rest rows)
    (g : Rule) (m : Made) (is : IsMadeOf letters compare rest rows g m) where
  pub all_rules : All (IsRule letters compare) (rules ++ (g ∷ []))
  all_rules = All-push (IsRule letters compare) rules g kept.are_rules is.is_rule

  -- the leading word is a word of the rest
  lead_coefficient : coefficient_of g.poly.terms g.lead ≡ g.leading
  lead_coefficient = leading_coefficient compare g.poly.terms (g.leading, g.lead) g.poly.canonical.shaped is.is_rule.leading

  lead_occurs : coefficient_of rest g.lead ≢ pos 0
  lead_occurs none =
      let at : signed is.negated m.scale *ℤ coefficient_of g.poly.terms g.lead ≡ pos 0 = sym (coefficient_of-multiple (signed is.negated m.scale) g.poly.terms g.lead) ∙ is.divided.at g.lead ∙ none in
      let gone : coefficient_of g.poly.terms g.lead ≡ pos 0 = cancel_nonzero (signed is.negated m.scale) (coefficient_of g.poly.terms g.lead) (signed_nonzero is.negated m.scale is.positive) at in
      (omega (arith, ints, is.is_rule.positive, (sym lead_coefficient ∙ gone)))

  new_apart : (i : ℕ) (f : Rule) → rule_at rules i ≡ Some f → OccursNowhere g.lead f.lead
  new_apart i f numbered =
      rule_at-all (λ (r : Rule). OccursNowhere g.lead r.lead) rules i f numbered
      (words_with_coefficients (λ w. All (λ (r : Rule). OccursNowhere w r.lead) rules) rest irreducible g.lead lead_occurs)

  apart : AreApart (rules ++ (g ∷ []))
  apart = record { each = λ i n f h f_numbered h_numbered less. go i n f h less (rule_at-which rules g f i f_numbered) (rule_at-which rules g h n h_numbered) }
    where
      go : (i n : ℕ) (f h : Rule) → i < n → (rule_at rules i ≡ Some f) ⊎ ((i ≡ suc (length rules)) × (f ≡ g)) → (rule_at rules n ≡ Some h) ⊎ ((n ≡ suc (length rules)) × (h ≡ g)) → OccursNowhere h.lead f.lead
      go i n f h less (inl f_old) (inl h_old) = kept.apart.each i n f h f_old h_old less
      go i n f h less (inl f_old) (inr (last, same)) = subst (λ (r : Rule). OccursNowhere r.lead f.lead) (sym same) (new_apart i f f_old)
      go i n f h less (inr (last, same)) (inl h_old) = absurd (omega (arith, less, last, rule_at-last rules n h h_old))
      go i n f h less (inr (last, same)) (inr (n_last, n_same)) = absurd (omega (arith, less, last, n_last))

  -- the records
  new_recorded : IsRecorded (length generators) (length rules) m
  new_recorded = record { positive = is.positive; earlier = subst (All (λ row. IsEarlier (length generators) (length rules) row.from)) (sym is.rows_are) (by_sign is.negated) }
    where
      by_sign : (negated : Bool) → All (λ row. IsEarlier (length generators) (length rules) row.from) (signed_rows negated rows)
      by_sign true = all_negated (IsEarlier (length generators) (length rules)) rows adds.over
      by_sign false = adds.over

  new_traces : Traces generators (polynomials_of rules) m g.poly.terms
  new_traces = record { at = λ w. ap (λ rs. coefficient_of (traced_sum generators (polynomials_of rules) rs) w) is.rows_are ∙ by_sign is.negated w (is.divided.at w) ∙ sym (coefficient_of-multiple m.scale g.poly.terms w) }
    where
      by_sign : (negated : Bool) (w : Word) → coefficient_of (poly_multiple (signed negated m.scale) g.poly.terms) w ≡ coefficient_of rest w → coefficient_of (traced_sum generators (polynomials_of rules) (signed_rows negated rows)) w ≡ m.scale *ℤ coefficient_of g.poly.terms w
      by_sign true w divided =
          traced-negated generators (polynomials_of rules) rows w
          ∙ ap neg_ℤ (adds.sum.at w ∙ sym divided ∙ coefficient_of-multiple (neg_ℤ m.scale) g.poly.terms w ∙ neg_ℤ-*ℤ m.scale (coefficient_of g.poly.terms w))
          ∙ (omega (arith, ints))
      by_sign false w divided = adds.sum.at w ∙ sym divided ∙ coefficient_of-multiple m.scale g.poly.terms w

  -- what a record traces is traced over more rules
  traces_more : (n : Made) (p : List Term) → All (λ row. IsEarlier (length generators) (length rules) row.from) n.rows → Traces generators (polynomials_of rules) n p → Traces generators (polynomials_of (rules ++ (g ∷ []))) n p
  traces_more n p earlier traces = record { at = λ w. ap (λ q. coefficient_of q w) (traced_sum-more generators rules (g ∷ []) n.rows earlier) ∙ traces.at w }

  traces : AreTraces generators (polynomials_of (rules ++ (g ∷ []))) (made ++ (m ∷ []))
  traces = record { at = λ place n found. go place n (slice_get-which made m n place found) }
    where
      go : (place : ℕ) (n : Made) → (slice_get made place ≡ Some n) ⊎ ((place ≡ length made) × (n ≡ m)) → Traces generators (polynomials_of (rules ++ (g ∷ []))) n (generator_at (polynomials_of (rules ++ (g ∷ []))) (suc place))
      go place n (inl old) =
          let inside = slice_get_within made place n old in
          let within : suc place ≤ length rules = omega (arith, inside, kept.recorded.one_each) in
          let before : place ≤ length rules = omega (arith, within) in
          subst (Traces generators (polynomials_of (rules ++ (g ∷ []))) n) (sym (polynomial-more rules (g ∷ []) (suc place) within))
          (traces_more n (generator_at (polynomials_of rules) (suc place)) (All-weaker (λ (row : Row). IsEarlier (length generators) place row.from) (λ (row : Row). IsEarlier (length generators) (length rules) row.from) (earlier-weaker (length generators) place (length rules) before) n.rows (kept.recorded.each place n old).earlier) (kept.recorded.traces.at place n old))
      go place n (inr (last, same)) =
          let here : place ≡ length rules = last ∙ kept.recorded.one_each in
          let poly : generator_at (polynomials_of (rules ++ (g ∷ []))) (suc place) ≡ g.poly.terms = ap (λ k. generator_at (polynomials_of (rules ++ (g ∷ []))) (suc k)) here ∙ rule_at-polynomial (rules ++ (g ∷ [])) (suc (length rules)) g (slice_get-last rules g) in
          subst (Traces generators (polynomials_of (rules ++ (g ∷ []))) n) (sym poly)
          (subst (λ k. Traces generators (polynomials_of (rules ++ (g ∷ []))) k g.poly.terms) (sym same) (traces_more m g.poly.terms new_recorded.earlier new_traces))

  recorded : AreRecorded generators (rules ++ (g ∷ [])) (made ++ (m ∷ []))
  recorded = record {
    one_each = length-append made (m ∷ []) ∙ ap (λ n. n + 1) kept.recorded.one_each ∙ sym (length-append rules (g ∷ []));
    each = λ place n found. go place n (slice_get-which made m n place found);
    traces = traces;
  }
    where
      go : (place : ℕ) (n : Made) → (slice_get made place ≡ Some n) ⊎ ((place ≡ length made) × (n ≡ m)) → IsRecorded (length generators) place n
      go place n (inl old) = kept.recorded.each place n old
      go place n (inr (last, same)) = subst (λ k. IsRecorded (length generators) k n) (sym (last ∙ kept.recorded.one_each)) (subst (IsRecorded (length generators) (length rules)) (sym same) new_recorded)

  pub appended_kept : Kept letters compare generators (rules ++ (g ∷ [])) (made ++ (m ∷ [])) done treated
  appended_kept = record {
    are_rules = all_rules;
    apart = apart;
    recorded = recorded;
    reached = All-weaker (λ n. IsReached letters compare rules (generator_at generators n)) (λ n. IsReached letters compare (rules ++ (g ∷ [])) (generator_at generators n))
        (λ n reached. reached_more letters compare rank laws rules (g ∷ []) kept.are_rules all_rules (generator_at generators n) (over n) reached) done kept.reached;
    resolved = All-weaker (IsResolved letters compare rules) (IsResolved letters compare (rules ++ (g ∷ []))) (resolved_more letters compare rank laws rules (g ∷ []) kept.are_rules all_rules) treated kept.resolved;
  }

-- a rule that was appended accounts for the rest
pub made_accounts : (letters : ℕ) (compare : Compare) (rules : List Rule) (rest : List Term) (rows : List Row) (g : Rule) (m : Made) → IsMadeOf letters compare rest rows g m → IsAccounted (rules ++ (g ∷ [])) rest
made_accounts letters compare rules rest rows g m is = record {
  number = suc (length rules);
  rule = g;
  scale = signed is.negated m.scale;
  numbered = slice_get-last rules g;
  nonzero = signed_nonzero is.negated m.scale is.positive;
  divided = is.divided;
}

-- rows that add up, with no rules after
generator_adds : (letters : ℕ) (compare : Compare) (generators : List (List Term)) (rules : List Rule) (n : ℕ) (s : State) → 1 ≤ n → n ≤ length generators → IsReduced letters compare rules (generator_at generators n) s → AddsUpTo generators rules s.rest (generator_rows n s)
generator_adds letters compare generators rules n s first last reduced =
    subst (λ rs. AddsUpTo generators rs s.rest (generator_rows n s)) (append-nil rules) (generator_adds_up letters compare generators rules [] n s first last reduced)

pub less_adds : (letters : ℕ) (compare : Compare) (generators : List (List Term)) (rules : List Rule) (p : List Term) (rows : List Row) (s : State) → AddsUpTo generators rules p rows → IsReduced letters compare rules p s → AddsUpTo generators rules s.rest (rows_less rows s)
less_adds letters compare generators rules p rows s adds reduced =
    subst (λ rs. AddsUpTo generators rs s.rest (rows_less rows s)) (append-nil rules)
    (less_adds_up letters compare generators rules [] p rows s (subst (λ rs. AddsUpTo generators rs p rows) (sym (append-nil rules)) adds) reduced)

pub start_is_kept : StartIsKept
start_is_kept letters compare generators = record {
  are_rules = All-nil (IsRule letters compare);
  apart = record { each = λ i n g h is _ _. absurd (none i g is) };
  recorded = record { one_each = refl; each = λ place m found. absurd (nothing place m found); traces = record { at = λ place m found. absurd (nothing place m found) } };
  reached = All-nil (λ n. IsReached letters compare [] (generator_at generators n));
  resolved = All-nil (IsResolved letters compare []);
}
  where
    none : (i : ℕ) (g : Rule) → rule_at [] i ≡ Some g → ⊥
    none zero g is = cc
    none (suc i) g is = cc

    nothing : (place : ℕ) (m : Made) → slice_get [] place ≡ Some m → ⊥
    nothing place m found = cc

-- the first rules
all_front : (P : Rule → Type 0) (rules more : List Rule) → All P (rules ++ more) → All P rules
all_front P rules more all = subst (All P) (take_at rules more (length rules) refl) (All-take P (length rules) (rules ++ more) all)

-- the rows of an S-polynomial
s_rows_add : (generators : List (List Term)) (start later : List Rule) (a : Ambiguity) → IsAmbiguity start a → (p : List Term) → SamePolynomial p (s_sum start a) → AddsUpTo generators (start ++ later) p (s_rows_of start a)
s_rows_add generators start later a is p same = record {
  over = All-weaker (λ (row : Row). IsByRule (length start) row.from) (λ (row : Row). IsEarlier (length generators) (length (start ++ later)) row.from) (earlier_by_rule generators start later) (s_rows_of start a) by_rules;
  sum = record { at = λ w. ap (λ q. coefficient_of q w) (traced_sum-by_rules generators start later (s_rows_of start a) by_rules) ∙ sym (same.at w) };
}
  where
    by_rules : All (λ row. IsByRule (length start) row.from) (s_rows_of start a)
    by_rules = all_two (λ (row : Row). IsByRule (length start) row.from) (first_row start a) (second_row start a)
        (rule_at-first start a.i is.first is.first_numbered, rule_at-last start a.i is.first is.first_numbered) (rule_at-first start a.j is.second is.second_numbered, rule_at-last start a.j is.second is.second_numbered)

module _ (letters : ℕ) (compare : Compare) (rank : List ℕ → List ℕ) (laws : IsAdmissible letters compare rank) where
  abbrev order : Order
  order = order_from_laws letters compare rank laws

  -- what was reduced to a rest that is accounted for by later rules
  pub reduced_later : (rules later : List Rule) (are : All (IsRule letters compare) rules) (all_are : All (IsRule letters compare) (rules ++ later)) (q : Allowed order) (p : List Term) (s : State) → IsReduced letters compare rules p s → Bounded order q p → IsAccounted (rules ++ later) s.rest
      → Span (AnyRow order (ordered letters compare rank laws (rules ++ later) all_are) q) (coefficient_of p)
  reduced_later rules later are all_are q p s reduced bounded accounted =
      reduced_in letters compare rank laws rules later are all_are q p s reduced bounded
      (accounted_span letters compare rank laws (rules ++ later) all_are q s.rest accounted (rest_bounded letters compare rank laws rules are q p s reduced bounded))

  -- a generator
  done_kept : (generators : List (List Term)) (rules : List Rule) (made : List Made) (done : List ℕ) (treated : List Ambiguity) (n : ℕ) → Kept letters compare generators rules made done treated → IsReached letters compare rules (generator_at generators n) → Kept letters compare generators rules made (done ++ (n ∷ [])) treated
  done_kept generators rules made done treated n kept reached = record {
    are_rules = kept.are_rules;
    apart = kept.apart;
    recorded = kept.recorded;
    reached = All-push (λ k. IsReached letters compare rules (generator_at generators k)) done n kept.reached reached;
    resolved = kept.resolved;
  }

  module _ (generators : List (List Term)) (over : HaveLettersBelow letters generators) (rules : List Rule) (made : List Made) (done : List ℕ) (treated : List Ambiguity) (n : ℕ) (s : State) (first : 1 ≤ n) (last : n ≤ length generators)
      (kept : Kept letters compare generators rules made done treated) (reduced : IsReduced letters compare rules (generator_at generators n) s) where
    own : Bounded order (at_most_of order (generator_at generators n)) (generator_at generators n)
    own = bounded_self order (generator_at generators n) (in_range letters compare rank laws (generator_at generators n) (over n))

    zero_kept : IsZero s.rest → Kept letters compare generators rules made (done ++ (n ∷ [])) treated
    zero_kept none = done_kept generators rules made done treated n kept (reached_from_span letters compare rank laws rules kept.are_rules (generator_at generators n) (zero_rest_span letters compare rank laws rules kept.are_rules (at_most_of order (generator_at generators n)) (generator_at generators n) s reduced own none))

    rule_kept : (g : Rule) (m : Made) → IsMadeOf letters compare s.rest (generator_rows n s) g m → Kept letters compare generators (rules ++ (g ∷ [])) (made ++ (m ∷ [])) (done ++ (n ∷ [])) treated
    rule_kept g m is =
        let adds = generator_adds letters compare generators rules n s first last reduced in
        let longer = appended_kept letters compare rank laws generators over rules made done treated kept s.rest (generator_rows n s) reduced.irreducible adds g m is in
        done_kept generators (rules ++ (g ∷ [])) (made ++ (m ∷ [])) done treated n longer
        (reached_from_span letters compare rank laws (rules ++ (g ∷ [])) longer.are_rules (generator_at generators n)
        (reduced_later rules (g ∷ []) kept.are_rules longer.are_rules (at_most_of order (generator_at generators n)) (generator_at generators n) s reduced own (made_accounts letters compare rules s.rest (generator_rows n s) g m is)))

    pub generator_kept : (rules_after : List Rule) (made_after : List Made) → IsAppended letters compare s.rest (generator_rows n s) rules made rules_after made_after → Kept letters compare generators rules_after made_after (done ++ (n ∷ [])) treated
    generator_kept rules_after made_after (nothing_left none rules_same made_same) =
        subst (λ rs. Kept letters compare generators rs made_after (done ++ (n ∷ [])) treated) (sym rules_same) (subst (λ ms. Kept letters compare generators rules ms (done ++ (n ∷ [])) treated) (sym made_same) (zero_kept none))
    generator_kept rules_after made_after (rule_made g m is rules_are made_are) =
        subst (λ rs. Kept letters compare generators rs made_after (done ++ (n ∷ [])) treated) (sym rules_are) (subst (λ ms. Kept letters compare generators (rules ++ (g ∷ [])) ms (done ++ (n ∷ [])) treated) (sym made_are) (rule_kept g m is))

  treated_kept : (generators : List (List Term)) (rules : List Rule) (made : List Made) (done : List ℕ) (treated : List Ambiguity) (a : Ambiguity) → Kept letters compare generators rules made done treated → IsResolved letters compare rules a → Kept letters compare generators rules made done (treated ++ (a ∷ []))
  treated_kept generators rules made done treated a kept resolved = record {
    are_rules = kept.are_rules;
    apart = kept.apart;
    recorded = kept.recorded;
    reached = kept.reached;
    resolved = All-push (IsResolved letters compare rules) treated a kept.resolved resolved;
  }

  module _ (start : List Rule) (a : Ambiguity) (is : IsAmbiguity start a) (p : List Term) (same : SamePolynomial p (s_sum start a)) where
    abbrev bound : Word
    bound = overlap_word_of start a

    -- where the S-polynomial comes from more rules the ambiguity is resolved by them
    resolved_later : (later : List Rule) (all_are : All (IsRule letters compare) (start ++ later)) → Span (AnyRow order (ordered letters compare rank laws (start ++ later) all_are) (below order bound)) (coefficient_of p) → IsResolved letters compare (start ++ later) a
    resolved_later later all_are sp =
        resolved_by letters compare rank laws (start ++ later) all_are a (ambiguity_more start later a is) p (subst (SamePolynomial p) (sym (s_sum-more start later a is)) same)
        (subst (λ w. Span (AnyRow order (ordered letters compare rank laws (start ++ later) all_are) (below order w)) (coefficient_of p)) (sym (overlap_word-more start later a is)) sp)

    -- by rules of which the first ones are those from the start
    resolved_in : (rules later : List Rule) → start ++ later ≡ rules → (are : All (IsRule letters compare) rules) → Span (AnyRow order (ordered letters compare rank laws rules are) (below order bound)) (coefficient_of p) → IsResolved letters compare rules a
    resolved_in rules later front = subst (λ rs. (are : All (IsRule letters compare) rs) → Span (AnyRow order (ordered letters compare rank laws rs are) (below order bound)) (coefficient_of p) → IsResolved letters compare rs a) front (resolved_later later)

  module _ (generators : List (List Term)) (start later : List Rule) (made : List Made) (done : List ℕ) (treated : List Ambiguity) (kept : Kept letters compare generators (start ++ later) made done treated)
      (a : Ambiguity) (is : IsAmbiguity start a) (p : List Term) (same : SamePolynomial p (s_sum start a)) (s : State) (reduced : IsReduced letters compare start p s) where
    start_are : All (IsRule letters compare) start
    start_are = all_front (IsRule letters compare) start later kept.are_rules

    bounded : Bounded order (below order (overlap_word_of start a)) p
    bounded = s_bounded letters compare rank laws start start_are a is p same

    rest_below : Bounded order (below order (overlap_word_of start a)) s.rest
    rest_below = rest_bounded letters compare rank laws start start_are (below order (overlap_word_of start a)) p s reduced bounded

    -- where the rest is zero
    pub once_kept : IsZero s.rest → Kept letters compare generators (start ++ later) made done (treated ++ (a ∷ []))
    once_kept none = treated_kept generators (start ++ later) made done treated a kept
        (resolved_more letters compare rank laws start later start_are kept.are_rules a (zero_rests_are_resolved letters compare rank start a p s laws start_are is same reduced none))

    module _ (over : HaveLettersBelow letters generators) (t : State) (again : IsReduced letters compare (start ++ later) s.rest t) where
      -- where the second rest is zero
      twice_kept : IsZero t.rest → Kept letters compare generators (start ++ later) made done (treated ++ (a ∷ []))
      twice_kept none = treated_kept generators (start ++ later) made done treated a kept
          (resolved_later start a is p same later kept.are_rules
          (reduced_in letters compare rank laws start later start_are kept.are_rules (below order (overlap_word_of start a)) p s reduced bounded
          (zero_rest_span letters compare rank laws (start ++ later) kept.are_rules (below order (overlap_word_of start a)) s.rest t again rest_below none)))

      -- where a rule is made of it
      treated_rule_kept : (g : Rule) (m : Made) → IsMadeOf letters compare t.rest (rows_less (rows_less (s_rows_of start a) s) t) g m → Kept letters compare generators ((start ++ later) ++ (g ∷ [])) (made ++ (m ∷ [])) done (treated ++ (a ∷ []))
      treated_rule_kept g m made_of =
          let first_adds = less_adds_up letters compare generators start later p (s_rows_of start a) s (s_rows_add generators start later a is p same) reduced in
          let adds = less_adds letters compare generators (start ++ later) s.rest (rows_less (s_rows_of start a) s) t first_adds again in
          let longer = appended_kept letters compare rank laws generators over (start ++ later) made done treated kept t.rest (rows_less (rows_less (s_rows_of start a) s) t) again.irreducible adds g m made_of in
          let inner = reduced_later (start ++ later) (g ∷ []) kept.are_rules longer.are_rules (below order (overlap_word_of start a)) s.rest t again rest_below (made_accounts letters compare (start ++ later) t.rest (rows_less (rows_less (s_rows_of start a) s) t) g m made_of) in
          let whole = from_rest (AnyRow order (ordered letters compare rank laws ((start ++ later) ++ (g ∷ [])) longer.are_rules) (below order (overlap_word_of start a))) p s.rest s.multiplier reduced.positive
          (span_more letters compare rank laws (start ++ later) (g ∷ []) kept.are_rules longer.are_rules (below order (overlap_word_of start a)) _
          (span_more letters compare rank laws start later start_are kept.are_rules (below order (overlap_word_of start a)) _ (reduced_span letters compare rank laws start start_are (below order (overlap_word_of start a)) p s reduced bounded))) inner in
          treated_kept generators ((start ++ later) ++ (g ∷ [])) (made ++ (m ∷ [])) done treated a longer
          (resolved_in start a is p same ((start ++ later) ++ (g ∷ [])) (later ++ (g ∷ [])) (sym (append_assoc start later (g ∷ []))) longer.are_rules whole)

      pub treated_twice_kept : (rules_after : List Rule) (made_after : List Made) → IsAppended letters compare t.rest (rows_less (rows_less (s_rows_of start a) s) t) (start ++ later) made rules_after made_after → Kept letters compare generators rules_after made_after done (treated ++ (a ∷ []))
      treated_twice_kept rules_after made_after (nothing_left none rules_same made_same) =
          subst (λ rs. Kept letters compare generators rs made_after done (treated ++ (a ∷ []))) (sym rules_same) (subst (λ ms. Kept letters compare generators (start ++ later) ms done (treated ++ (a ∷ []))) (sym made_same) (twice_kept none))
      treated_twice_kept rules_after made_after (rule_made g m made_of rules_are made_are) =
          subst (λ rs. Kept letters compare generators rs made_after done (treated ++ (a ∷ []))) (sym rules_are) (subst (λ ms. Kept letters compare generators ((start ++ later) ++ (g ∷ [])) ms done (treated ++ (a ∷ []))) (sym made_are) (treated_rule_kept g m made_of))

pub generators_are_kept : GeneratorsAreKept
generators_are_kept letters compare rank generators rules made done treated n s rules_after made_after laws over first last kept reduced appended =
    generator_kept letters compare rank laws generators over rules made done treated n s first last kept reduced rules_after made_after appended

pub ambiguities_are_kept : AmbiguitiesAreKept
ambiguities_are_kept letters compare rank generators start later made done treated a rules_after made_after laws over kept is =
    treated_twice_kept letters compare rank laws generators start later made done treated kept a is.ambiguity is.s_polynomial is.is_sum is.first is.is_first over is.second is.is_second rules_after made_after is.appended

pub resolved_at_once_is_kept : ResolvedAtOnceIsKept
resolved_at_once_is_kept letters compare rank generators start later made done treated a p s laws kept is same reduced none =
    once_kept letters compare rank laws generators start later made done treated kept a is p same s reduced none
