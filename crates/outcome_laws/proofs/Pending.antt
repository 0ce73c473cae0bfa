-- All pending ambiguities of any rules can be listed in the order of the store.
use Rattle.outcome_laws.proofs.Prelude.{◌≡◌, inl, inr, ℕ, List, map, refl, sym, ap, ◌∙◌, subst, IsTotalOrder, Contains, Ordering, Less, Equal, Greater, tied_itself, Compare, Rule, Ambiguity, Waiting, IsAmbiguity, overlap_word_of, IsWaitingBefore, waiting_of, contains-map, ambiguity_decided, candidates, in_candidates, before_trans, before_compared, Decided, listing, listed_or_not, IsPending, AreAllPending}

-- in the order of the store
pub record HasStore (compare : Compare) (rules : List Rule) (treated : List Ambiguity) : Type 0 where
  pub store : List Waiting
  pub all : AreAllPending compare rules treated store

module _ (compare : Compare) (total : IsTotalOrder compare) (same : (u v : List ℕ) → compare u v ≡ Equal → u ≡ v) where
  word_decided : (u v : List ℕ) → Decided (u ≡ v)
  word_decided u v = go (compare u v) refl
    where
      not_level : (o : Ordering) → compare u v ≡ o → (o ≡ Equal → ⊥) → u ≡ v → ⊥
      not_level o e apart alike = apart (sym e ∙ ap (compare u) (sym alike) ∙ tied_itself total u)

      go : (o : Ordering) → compare u v ≡ o → Decided (u ≡ v)
      go Less e = inr (not_level Less e (λ k. cc))
      go Equal e = inl (same u v e)
      go Greater e = inr (not_level Greater e (λ k. cc))

  module _ (rules : List Rule) (treated : List Ambiguity) where
    pending_decided : (w : Waiting) → Decided (IsPending rules treated w)
    pending_decided w = go (ambiguity_decided rules w.which) (listed_or_not treated w.which) (word_decided w.word (overlap_word_of rules w.which))
      where
        go : Decided (IsAmbiguity rules w.which) → Decided (Contains treated w.which) → Decided (w.word ≡ overlap_word_of rules w.which) → Decided (IsPending rules treated w)
        go (inr none) listed word = inr (λ pending. none pending.is)
        go (inl is) (inl at) word = inr (λ pending. pending.untreated at)
        go (inl is) (inr not_listed) (inr other) = inr (λ pending. other pending.overlap)
        go (inl is) (inr not_listed) (inl word) = inl (record { is = is; untreated = not_listed; overlap = word })

    pending_listed : (w : Waiting) → IsPending rules treated w → Contains (map (waiting_of rules) (candidates rules)) w
    pending_listed w pending =
        let whole : waiting_of rules w.which ≡ w = λ n. record { which = w.which; word = sym pending.overlap n } in
        subst (Contains (map (waiting_of rules) (candidates rules))) whole (contains-map (waiting_of rules) (candidates rules) w.which (in_candidates rules w.which pending.is))

    pub has_store : HasStore compare rules treated
    has_store =
        let all = listing (IsWaitingBefore compare) (before_trans compare total same) (before_compared compare total same) (IsPending rules treated) pending_decided (map (waiting_of rules) (candidates rules)) pending_listed in
        record { store = all.list; all = all.exact }
