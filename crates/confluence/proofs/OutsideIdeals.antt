-- What is outside the rational ideal, and what does not come from the generators below a word.
use Rattle.confluence.proofs.Prelude.{◌≡◌, ◌≢◌, ◌⊎◌, inl, inr, ℕ, zero, suc, pos, List, [], ◌∷◌, refl, sym, ap, ◌∙◌, subst, arith, Contains, All, All-contains, Word, Term, coefficient_of, poly_between, generator_at, Compare, IsAdmissible, Order, IsBelow, order_from_laws, Rule, IsRule, polynomials_of, Kind, Overlap, Inclusion, Ambiguity, IsAmbiguity, overlap_word_of, ComesBelow, IsResolved, IsReached, HaveLettersBelow, AreAllDone, ResolvedWhereClosed, ResolvedBelowPending, NonzeroIsOutside, NonzeroIsNotBelow}
use Rattle.confluence.proofs.Shifts.{between_word, span_bind}
use Rattle.confluence.proofs.Ideals.{generator_decided}
use Rattle.confluence.proofs.Outside.{AnyRow, piece_span}
use Rattle.confluence.proofs.LedRules.{ordered, same_nat}
use Rattle.confluence.proofs.BelowSpans.{below_from_span, comes_from_below}
use Rattle.confluence.proofs.Resolve.{below}
use Rattle.confluence.proofs.RestLaws.{rests_of_ideal_are_zero, rests_below_are_zero}
use Rattle.confluence.proofs.Spans.{Coefs, Span, nothing}
use Rattle.confluence.proofs.SumRows.{Numbered, combination_span}
use Rattle.confluence.proofs.MoreRules.{reached_span}
use Rattle.confluence.proofs.Inside.{inside_rules}

-- whether an ambiguity is listed
same_kind : (k l : Kind) → (k ≡ l) ⊎ (k ≢ l)
same_kind Overlap Overlap = inl refl
same_kind Overlap Inclusion = inr (λ e. cc)
same_kind Inclusion Overlap = inr (λ e. cc)
same_kind Inclusion Inclusion = inl refl

same_ambiguity : (a b : Ambiguity) → (a ≡ b) ⊎ (a ≢ b)
same_ambiguity a b = go (same_nat a.i b.i) (same_nat a.j b.j) (same_kind a.kind b.kind) (same_nat a.place b.place)
  where
    go : (a.i ≡ b.i) ⊎ (a.i ≢ b.i) → (a.j ≡ b.j) ⊎ (a.j ≢ b.j) → (a.kind ≡ b.kind) ⊎ (a.kind ≢ b.kind) → (a.place ≡ b.place) ⊎ (a.place ≢ b.place) → (a ≡ b) ⊎ (a ≢ b)
    go (inl i) (inl j) (inl kind) (inl place) = inl (λ t. record { i = i t; j = j t; kind = kind t; place = place t })
    go (inr n) _ _ _ = inr (λ e. n (ap (λ (c : Ambiguity). c.i) e))
    go (inl i) (inr n) _ _ = inr (λ e. n (ap (λ (c : Ambiguity). c.j) e))
    go (inl i) (inl j) (inr n) _ = inr (λ e. n (ap (λ (c : Ambiguity). c.kind) e))
    go (inl i) (inl j) (inl kind) (inr n) = inr (λ e. n (ap (λ (c : Ambiguity). c.place) e))

pub listed_or_not : (listed : List Ambiguity) (a : Ambiguity) → Contains listed a ⊎ (Contains listed a → ⊥)
listed_or_not [] a = inr (λ c. omega (arith, c.1))
listed_or_not (b ∷ listed) a = go (same_ambiguity b a) (listed_or_not listed a)
  where
    go : (b ≡ a) ⊎ (b ≢ a) → Contains listed a ⊎ (Contains listed a → ⊥) → Contains (b ∷ listed) a ⊎ (Contains (b ∷ listed) a → ⊥)
    go (inl here) _ = inl (zero, omega arith, here)
    go (inr differ) (inl (k, inside, is)) = inl (suc k, omega (arith, inside), is)
    go (inr differ) (inr n) = inr no_place
      where
        no_place : Contains (b ∷ listed) a → ⊥
        no_place (zero, inside, is) = differ is
        no_place (suc k, inside, is) = n (k, omega (arith, inside), is)

-- resolved where nothing is pending
pub resolved_where_closed : ResolvedWhereClosed
resolved_where_closed letters compare generators rules made done treated kept closed = record { each = λ a is. go a is (listed_or_not treated a) }
  where
    go : (a : Ambiguity) → IsAmbiguity rules a → Contains treated a ⊎ (Contains treated a → ⊥) → IsResolved letters compare rules a
    go a is (inl listed) = All-contains (IsResolved letters compare rules) treated a kept.resolved listed
    go a is (inr n) = absurd (closed a is n)

pub resolved_below_pending : ResolvedBelowPending
resolved_below_pending letters compare generators rules made done treated word kept pending = record { each = λ a is less. go a is less (listed_or_not treated a) }
  where
    go : (a : Ambiguity) → IsAmbiguity rules a → IsBelow letters compare (overlap_word_of rules a) word → Contains treated a ⊎ (Contains treated a → ⊥) → IsResolved letters compare rules a
    go a is less (inl listed) = All-contains (IsResolved letters compare rules) treated a kept.resolved listed
    go a is less (inr n) = absurd (pending a is n less)

pub nonzero_is_outside : NonzeroIsOutside
nonzero_is_outside letters compare rank generators rules made done treated p s laws kept all closed over reduced some inside =
    let resolved = resolved_where_closed letters compare generators rules made done treated kept closed in
    let rest = rests_of_ideal_are_zero letters compare rank rules p s laws kept.are_rules resolved (inside_rules letters compare generators rules done kept.reached all p inside) over reduced in
    some.occurs (rest.at some.word)

-- below a word
module _ (letters : ℕ) (compare : Compare) (rank : List ℕ → List ℕ) (laws : IsAdmissible letters compare rank) (generators : List (List Term)) (over : HaveLettersBelow letters generators) (rules : List Rule) (are : All (IsRule letters compare) rules) (done : List ℕ)
    (reached : All (λ n. IsReached letters compare rules (generator_at generators n)) done) (all : AreAllDone generators done) (bound : Word) where
  abbrev order : Order
  order = order_from_laws letters compare rank laws

  abbrev Lower : Word → Type 0
  Lower w = order.Less w bound

  -- a row over a generator whose words are below the bound comes from rows over rules below it
  row_below : (b : Coefs) → Numbered generators Lower b → Span (AnyRow order (ordered letters compare rank laws rules are) (below order bound)) b
  row_below b row = elim (generator_decided generators row.number) [
    | inr none ↦ nothing b (λ w. row.is w ∙ ap (λ z. coefficient_of (poly_between row.left z row.right) w) none)
    | inl named ↦ piece_span order (ordered letters compare rank laws rules are) (below order bound) (generator_at generators row.number) b
        (reached_span letters compare rank laws rules are (generator_at generators row.number) (over row.number) (All-contains (λ n. IsReached letters compare rules (generator_at generators n)) done row.number reached (all row.number named.0 named.1)))
        (record { left = row.left; right = row.right; words = words; is = row.is })
  ]
    where
      words : (w : Word) → (coefficient_of (poly_between row.left (generator_at generators row.number) row.right) w ≡ pos 0) ⊎ (order.Range w × order.Less w bound)
      words w = elim (between_word row.left row.right (generator_at generators row.number) w) [
        | inl none ↦ inl none
        | inr (v, is, some) ↦ inr (subst (λ u. order.Range u × order.Less u bound) (sym is) (order.less_range _ bound (row.asked v some), row.asked v some))
      ]

  pub below_rules : (p : List Term) → ComesBelow letters compare generators bound p → ComesBelow letters compare (polynomials_of rules) bound p
  below_rules p comes =
      let c = comes_from_below letters compare rank laws generators bound p comes in
      below_from_span letters compare rank laws rules are bound p
      (span_bind (Numbered generators Lower) (AnyRow order (ordered letters compare rank laws rules are) (below order bound)) row_below (coefficient_of p) (combination_span generators Lower c.rows c.multiplier p c.combination c.within))

pub nonzero_is_not_below : NonzeroIsNotBelow
nonzero_is_not_below letters compare rank generators rules made done treated word p s laws over kept all pending reduced some comes =
    let resolved = resolved_below_pending letters compare generators rules made done treated word kept pending in
    let rest = rests_below_are_zero letters compare rank rules word p s laws kept.are_rules resolved (below_rules letters compare rank laws generators over rules kept.are_rules done kept.reached all word p comes) reduced in
    some.occurs (rest.at some.word)
