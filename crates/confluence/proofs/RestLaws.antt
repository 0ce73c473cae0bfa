-- What reductions by resolved rules leave; what is reduced to zero is in the rational ideal, and its ambiguity is resolved.
use Rattle.std.proofs.Common.{◌≡◌, ◌≢◌, ◌⊎◌, inl, inr, ℕ, pos, negsuc, List, sym, subst, arith, ◌∙◌}
use Rattle.std.proofs.lemmas.Int.{ints}
use Rattle.std.specs.List.{All}
use Rattle.definitions.specs.Poly.{Word, Term, coefficient_of, SamePolynomial}
use Rattle.word_core.specs.Letters.{IsOver}
use Rattle.word_core.specs.Occurrence.{OccursNowhere}
use Rattle.word_orders.proofs.Orders.{order_from_laws, below_less}
use Rattle.word_orders.specs.Admissible.{Compare, IsAdmissible}
use Rattle.word_orders.specs.Orders.{Order}
use Rattle.rule_reduce.proofs.Balance.{reductions_balance}
use Rattle.rule_reduce.proofs.Irreducible.{rests_are_irreducible}
use Rattle.rule_reduce.proofs.KeptWordLaws.{words_stay_below}
use Rattle.rule_reduce.proofs.Multipliers.{multipliers_are_positive}
use Rattle.rule_reduce.proofs.Numbers.{rule_at-all}
use Rattle.rule_reduce.proofs.RowsByRules.{rows_are_by_rules}
use Rattle.rule_reduce.proofs.WordsKept.{words_with_coefficients}
use Rattle.rule_reduce.specs.KeptWords.{IsAtMostOf}
use Rattle.rule_reduce.specs.Laws.{IsIrreducible}
use Rattle.rule_reduce.specs.RuleLists.{polynomials_of, IsRule}
use Rattle.rule_reduce.specs.declared.rule.Rule.{Rule}
use Rattle.rule_reduce.specs.declared.state.State.{State}
use Rattle.ambiguities.specs.Ambiguities.{IsAmbiguity, overlap_word_of}
use Rattle.ambiguities.specs.Resolved.{s_sum, IsResolved}
use Rattle.ambiguities.specs.declared.ambiguity.Ambiguity.{Ambiguity}
use Rattle.confluence.specs.Reducible.{IsReducible, HasReducibleGreatest, RestsBelowAreZero, RestsOfIdealAreZero}
use Rattle.confluence.specs.Reductions.{HasLettersBelow, IsNonzero, IsZero, IsReduced, NormalFormsAreReduced}
use Rattle.confluence.specs.ZeroRests.{ZeroRestsAreInside, ZeroRestsAreResolved}
use Rattle.confluence.proofs.Integers.{nonzero_or}
use Rattle.confluence.proofs.Spans.{Span, span_same, span_add, span_scale, nothing}
use Rattle.confluence.proofs.Outside.{span_word, AnyRow}
use Rattle.confluence.proofs.Resolve.{below}
use Rattle.confluence.proofs.SumRows.{Numbered, listed, combination_span, combination_from}
use Rattle.confluence.proofs.FreeRows.{Free, in_ideal, ideal_span}
use Rattle.confluence.proofs.ReducedSpans.{reduced_part, numbered_span, zero_rest_span}
use Rattle.confluence.proofs.BelowSpans.{comes_from_below, below_from_comes, below_span, below_from_span}
use Rattle.confluence.proofs.LedRules.{ordered, Bounded, bounded_from, from_rest}
use Rattle.confluence.proofs.ReducibleLaws.{reducible_below, reducible_in_ideal}
use Rattle.confluence.proofs.MeetingsOf.{s_words_below}

pub normal_forms_are_reduced : NormalFormsAreReduced
normal_forms_are_reduced letters compare rank rules p steps s laws are shaped over ends = record {
  positive = multipliers_are_positive letters compare rules p steps s are ends;
  balances = reductions_balance compare rules p steps s ends;
  by_rules = rows_are_by_rules compare rules p steps s ends;
  words = words_stay_below letters compare rank rules p steps s laws are shaped over ends;
  irreducible = rests_are_irreducible compare rules p steps s ends;
}

-- no word of an irreducible polynomial is reducible
pub not_reducible : (rules : List Rule) (p : List Term) → IsIrreducible rules p → (w : Word) → coefficient_of p w ≢ pos 0 → IsReducible rules w → ⊥
not_reducible rules p irreducible w some reducible =
    let nowhere = words_with_coefficients (λ v. All (λ g. OccursNowhere v g.lead) rules) p irreducible w some in
    rule_at-all (λ g. OccursNowhere w g.lead) rules reducible.number reducible.rule reducible.numbered nowhere reducible.place reducible.occurs

-- the letters of the rest are those of the polynomial
pub rest_over : (letters : ℕ) (compare : Compare) (rules : List Rule) (p : List Term) (s : State) → HasLettersBelow letters p → IsReduced letters compare rules p s
    → HasLettersBelow letters s.rest
rest_over letters compare rules p s over reduced = record {
  at = λ w some. let most = reduced.words.rest w some in elim most.at_most [
    | inl same ↦ subst (IsOver letters) (sym same) (over.at most.word most.occurs)
    | inr below ↦ below.left
  ];
}

module _ (letters : ℕ) (compare : Compare) (rules : List Rule) (p : List Term) (s : State) (reduced : IsReduced letters compare rules p s) where
  -- without a reducible greatest word the rest is zero
  zero_rest : (IsNonzero s.rest → HasReducibleGreatest letters compare rules s.rest) → IsZero s.rest
  zero_rest greatest = record { at = λ w. go w (nonzero_or (coefficient_of s.rest w)) }
    where
      go : (w : Word) → (coefficient_of s.rest w ≡ pos 0) ⊎ (coefficient_of s.rest w ≢ pos 0) → coefficient_of s.rest w ≡ pos 0
      go w (inl zero) = zero
      go w (inr some) = let top = greatest (record { word = w; occurs = some }) in absurd (not_reducible rules s.rest reduced.irreducible top.word top.occurs top.reducible)

  -- the rest is the multiple of the polynomial less the rows
  pub rest_span : (Asked : Word → Type 0) → ((w : Word) → IsAtMostOf letters compare p w → Asked w) → Span (Numbered (polynomials_of rules) Asked) (coefficient_of p) → Span (Numbered (polynomials_of rules) Asked) (coefficient_of s.rest)
  rest_span Asked asked sp =
      let Base = Numbered (polynomials_of rules) Asked in
      span_same Base _ (coefficient_of s.rest) (span_add Base _ _ (span_scale Base s.multiplier (coefficient_of p) sp) (span_scale Base (negsuc 0) (reduced_part p s) (numbered_span letters compare rules p s reduced Asked asked)))
      (λ w. (omega (arith, ints)))

pub rests_of_ideal_are_zero : RestsOfIdealAreZero
rests_of_ideal_are_zero letters compare rank rules p s laws are resolved inside over reduced =
    let polys = polynomials_of rules in
    let rest_inside = in_ideal polys s.rest (rest_span letters compare rules p s reduced Free (λ w most. tt) (ideal_span polys p inside)) in
    zero_rest letters compare rules p s reduced (reducible_in_ideal letters compare rank rules s.rest laws are resolved rest_inside (rest_over letters compare rules p s over reduced))

pub rests_below_are_zero : RestsBelowAreZero
rests_below_are_zero letters compare rank rules bound p s laws are resolved comes reduced =
    let polys = polynomials_of rules in
    let c = comes_from_below letters compare rank laws polys bound p comes in
    let sp = combination_span polys (λ w. o.Less w bound) c.rows c.multiplier p c.combination c.within in
    let rest_comes = combination_from polys (λ w. o.Less w bound) s.rest (listed polys (λ w. o.Less w bound) (coefficient_of s.rest) (rest_span letters compare rules p s reduced (λ w. o.Less w bound) of_word sp)) in
    zero_rest letters compare rules p s reduced (reducible_below letters compare rank rules bound s.rest laws are resolved (below_from_comes letters compare rank laws polys bound s.rest rest_comes))
  where
    o : Order
    o = order_from_laws letters compare rank laws

    own : (v : Word) → coefficient_of p v ≢ pos 0 → (order_from_laws letters compare rank laws).Less v bound
    own v some = pick (span_word (order_from_laws letters compare rank laws) (ordered letters compare rank laws rules are) (below (order_from_laws letters compare rank laws) bound) (coefficient_of p) (below_span letters compare rank laws rules are bound p comes) v)
      where
        pick : (coefficient_of p v ≡ pos 0) ⊎ ((order_from_laws letters compare rank laws).Range v × (order_from_laws letters compare rank laws).Less v bound) → (order_from_laws letters compare rank laws).Less v bound
        pick (inl zero) = absurd (some zero)
        pick (inr held) = held.1

    of_word : (w : Word) → IsAtMostOf letters compare p w → (order_from_laws letters compare rank laws).Less w bound
    of_word w most = elim most.at_most [
      | inl same ↦ subst (λ v. (order_from_laws letters compare rank laws).Less v bound) (sym same) (own most.word most.occurs)
      | inr less ↦ (order_from_laws letters compare rank laws).less_trans w most.word bound (below_less letters compare rank laws w most.word less) (own most.word most.occurs)
    ]

pub zero_rests_are_inside : ZeroRestsAreInside
zero_rests_are_inside letters compare rules p s reduced none =
    in_ideal (polynomials_of rules) p
    (from_rest (Numbered (polynomials_of rules) Free) p s.rest s.multiplier reduced.positive (numbered_span letters compare rules p s reduced Free (λ w most. tt)) (nothing (coefficient_of s.rest) none.at))

module _ (letters : ℕ) (compare : Compare) (rank : List ℕ → List ℕ) (laws : IsAdmissible letters compare rank) (rules : List Rule) (are : All (IsRule letters compare) rules)
    (a : Ambiguity) (is : IsAmbiguity rules a) (p : List Term) (same : SamePolynomial p (s_sum rules a)) where
  abbrev order : Order
  order = order_from_laws letters compare rank laws

  -- the words of the S-polynomial are below the overlap word
  pub s_bounded : Bounded order (below order (overlap_word_of rules a)) p
  s_bounded = bounded_from order (below order (overlap_word_of rules a)) p (λ w some.
      let less = below_less letters compare rank laws w (overlap_word_of rules a)
      (s_words_below rules a is letters compare are rank laws w (λ none. some (same.at w ∙ none))) in
      (order.less_range w _ less, less))

  -- where the S-polynomial comes from the rules below the overlap word, the ambiguity is resolved
  pub resolved_by : Span (AnyRow order (ordered letters compare rank laws rules are) (below order (overlap_word_of rules a))) (coefficient_of p) → IsResolved letters compare rules a
  resolved_by sp = record {
    ambiguity = is;
    below = below_from_span letters compare rank laws rules are (overlap_word_of rules a) (s_sum rules a)
        (span_same (AnyRow order (ordered letters compare rank laws rules are) (below order (overlap_word_of rules a))) (coefficient_of p) (coefficient_of (s_sum rules a)) sp (λ w. sym (same.at w)));
  }

pub zero_rests_are_resolved : ZeroRestsAreResolved
zero_rests_are_resolved letters compare rank rules a p s laws are is same reduced none =
    resolved_by letters compare rank laws rules are a is p same
    (zero_rest_span letters compare rank laws rules are (below (order_from_laws letters compare rank laws) (overlap_word_of rules a)) p s reduced (s_bounded letters compare rank laws rules are a is p same) none)
