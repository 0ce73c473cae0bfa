-- Words by their measures: which is greater, and where no term behind the choice so far can be better.
use Rattle.rule_reduce.proofs.Prelude.{◌≡◌, ◌<◌, ◌≤◌, inl, inr, ℕ, Bool, List, [], ◌∷◌, Option, Some, None, IfSome, IsSome, IsSomeAnd, IsTrue, refl, sym, ap, ◌∙◌, arith, All, All-tail, option_map, false≢true, ranked, nat_cmp_is, nat_cmp, ordering_then, Ordering, Less, Equal, Greater, Term, word_cmp, word_cmp-turned_back, Compare, measured_cmp, by_order, match_of, Choice, better_choice, choice_or, choice_from, IsSettled, Passes}

module _ (measure : List ℕ → ℕ) (u v : List ℕ) where
  pub greater_if : measure v < measure u → measured_cmp measure u v ≡ Greater
  greater_if more = ap (λ o. ordering_then o (word_cmp u v)) (sym (nat_cmp_is (measure u) (measure v) Greater more))

  pub greater_only_if : word_cmp v u ≡ Greater → measured_cmp measure u v ≡ Greater → measure v < measure u
  greater_only_if above greater =
      let below = word_cmp-turned_back v u above in
      (elim (nat_cmp (measure u) (measure v)) as (λ o. o ≡ nat_cmp (measure u) (measure v) → ordering_then o (word_cmp u v) ≡ Greater → measure v < measure u)
      [ Less ↦ λ is k. absurd (cc) | Equal ↦ λ is k. absurd (cc) | Greater ↦ λ is k. ranked (measure u) (measure v) Greater is ]) refl greater

-- a word whose measure passes that of the last one is greater
pub passes_greater : (compare : Compare) (measure : List ℕ → ℕ) → ((u v : List ℕ) → compare u v ≡ measured_cmp measure u v) → (last w : List ℕ) (is_above : Bool)
    → (IsTrue is_above → word_cmp w last ≡ Greater) → Passes (measure last) (measure w) is_above → compare w last ≡ Greater
passes_greater compare measure by_measure last w is_above above (inl more) = by_measure w last ∙ greater_if measure w last more
passes_greater compare measure by_measure last w is_above above (inr (upper, same)) =
    by_measure w last ∙ ap (λ o. ordering_then o (word_cmp w last)) (sym (nat_cmp_is (measure w) (measure last) Equal same)) ∙ above upper

module _ (compare : Compare) (measure : List ℕ → ℕ) (by_measure : (u v : List ℕ) → compare u v ≡ measured_cmp measure u v) (entries : List (List ℕ × ℕ)) where
  -- where the words above the last one cannot be reduced, a choice with its measure is better than all terms canonically below it
  choice_stays : (last : List ℕ) (b : Choice) (p : List Term) → measure last ≤ measure b.word → All (λ t. IsSettled compare entries last t.1) p
      → All (λ t. word_cmp b.word t.1 ≡ Greater) p → choice_from compare entries (Some b) p ≡ Some b
  choice_stays last b [] reached settled behind = refl
  choice_stays last b (t ∷ p) reached settled behind =
      ap (λ best. choice_from compare entries best p) (stays (compare t.1 b.word) refl)
      ∙ choice_stays last b p reached (All-tail (λ (u : Term). IsSettled compare entries last u.1) t p settled) (All-tail (λ (u : Term). word_cmp b.word u.1 ≡ Greater) t p behind)
    where
      unmatched : compare t.1 b.word ≡ Greater → match_of entries t.1 ≡ None
      unmatched greater =
          let more = greater_only_if measure t.1 b.word (behind 0 t (omega arith)) (sym (by_measure t.1 b.word) ∙ greater) in
          settled 0 t (omega arith) (by_measure t.1 last ∙ greater_if measure t.1 last (omega (arith, reached, more)))

      stays : (o : Ordering) → compare t.1 b.word ≡ o → by_order o (Some b) (Some b) (choice_or t (match_of entries t.1) (Some b)) ≡ Some b
      stays Less e = refl
      stays Equal e = refl
      stays Greater e = ap (λ m. choice_or t m (Some b)) (unmatched e)

  -- the same where there may be no last word, and no choice
  pub ends_search : {X : Type 0} (word : X → List ℕ) (last : Option X) (best : Option Choice) (p : List Term)
      → IsSomeAnd (option_map (λ x. measure (word x)) last) (λ m. IsSomeAnd best (λ b. m ≤ measure b.word)) → IfSome last (λ x. All (λ t. IsSettled compare entries (word x) t.1) p)
      → IfSome best (λ b. All (λ t. word_cmp b.word t.1 ≡ Greater) p) → choice_from compare entries best p ≡ best
  ends_search word None best p reached settled behind = absurd reached
  ends_search word (Some x) None p reached settled behind = absurd reached
  ends_search word (Some x) (Some b) p reached settled behind = choice_stays (word x) b p reached settled behind

  -- no term with at most its measure that is canonically below it is better than the choice
  pub keeps_choice : (best : Option Choice) (t : Term) (most : ℕ) → IsSome best → measure t.1 ≤ most → IfSome best (λ b. most ≡ measure b.word)
      → IfSome best (λ b. word_cmp b.word t.1 ≡ Greater) → best ≡ better_choice compare entries best t
  keeps_choice None t most some less is behind = absurd (false≢true some)
  keeps_choice (Some b) t most some less is behind =
      (elim (compare t.1 b.word) as (λ o. compare t.1 b.word ≡ o → Some b ≡ by_order o (Some b) (Some b) (choice_or t (match_of entries t.1) (Some b))) [
        | Less ↦ λ e. refl
        | Equal ↦ λ e. refl
        | Greater ↦ λ greater. absurd (omega (arith, less, is, greater_only_if measure t.1 b.word behind (sym (by_measure t.1 b.word) ∙ greater)))
      ]) refl
