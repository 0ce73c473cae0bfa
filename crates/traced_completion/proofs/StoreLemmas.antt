-- The laws of the store.
use Rattle.traced_completion.proofs.Prelude.{◌≡◌, ◌↔◌, ◌⊎◌, inl, inr, ◌+◌, ◌≤◌, ℕ, List, [], ◌∷◌, ◌++◌, length, take, sym, ap, subst, arith, All, Contains, All-weaker, All-append, All-take, All-map, All-contains_itself, Less, IsOver, Compare, Rule, IsRule, Ambiguity, IsAmbiguity, overlap_word_of, IsAmbiguityFrom, over_overlap_word, exactly-all, exactly-same, rule_at-first, rule_at-last, Waiting, IsWaitingBefore, AreInOrder, IsPending, AreAllPending, ambiguities_of, StoresAreUnique, LeastWordsAreLeast, NothingIsPendingAtFirst, TakenOnesAreAmbiguities, PendingWordsAreOver, not_before_itself, not_before_each_other, ascending-same, contains-none, contains-cases, contains-first, first-before}
use Rattle.traced_completion.proofs.Staying.{ambiguity-append}

pub stores-unique : StoresAreUnique
stores-unique letters compare rank rules treated one other laws left right =
    ascending-same (IsWaitingBefore compare) (not_before_itself compare laws.total) (not_before_each_other compare laws.total) one other left.ascending right.ascending
    (λ z at. (right.members z).1 ((left.members z).0 at)) (λ z at. (left.members z).1 ((right.members z).0 at))

pub least-words : LeastWordsAreLeast
least-words compare rules treated [] all = λ w pending. contains-none w ((all.members w).1 pending)
least-words compare rules treated (v ∷ store) all = record {
  which = v.which;
  pending = (all.members v).0 (contains-first v store);
  least = λ w pending. least w (contains-cases v store w ((all.members w).1 pending));
}
  where
    by : (w : Waiting) → IsWaitingBefore compare v w → (w.word ≡ v.word) ⊎ (compare v.word w.word ≡ Less)
    by w (inl less) = inr less
    by w (inr (same, before)) = inl (sym same)

    least : (w : Waiting) → (v ≡ w) ⊎ Contains store w → (w.word ≡ v.word) ⊎ (compare v.word w.word ≡ Less)
    least w (inl same) = inl (ap (λ (x : Waiting). x.word) (sym same))
    least w (inr at) = by w (first-before (IsWaitingBefore compare) v store all.ascending w at)

-- what is pending is an ambiguity of the rules
pub pending-all : (P : Waiting → Type 0) (compare : Compare) (rules : List Rule) (treated : List Ambiguity) (store : List Waiting) → AreAllPending compare rules treated store
    → ((w : Waiting) → IsPending rules treated w → P w) → All P store
pending-all P compare rules treated store all each = All-weaker (Contains store) P (λ w at. each w ((all.members w).0 at)) store (All-contains_itself store)

pub nothing-at_first : NothingIsPendingAtFirst
nothing-at_first compare treated = record {
  members = λ w. (λ at. absurd (contains-none w at), λ pending. absurd (no_rule w pending));
  ascending = λ i j d before inside. absurd (omega (arith, inside));
}
  where
    no_rule : (w : Waiting) → IsPending [] treated w → ⊥
    no_rule w pending =
        let is = pending.is in
        omega (arith, rule_at-first [] w.which.i is.first is.first_numbered, rule_at-last [] w.which.i is.first is.first_numbered)

-- where all rules are known, no ambiguity is new
pub nothing-new : (compare : Compare) (rules : List Rule) (known : ℕ) → length rules ≤ known → AreInOrder compare rules (IsAmbiguityFrom (known + 1) rules) []
nothing-new compare rules known past = record {
  members = λ w. (λ at. absurd (contains-none w at), λ new. absurd (no_rule w.which new.0.0 new.0.1));
  ascending = λ i j d before inside. absurd (omega (arith, inside));
}
  where
    no_rule : (a : Ambiguity) → IsAmbiguity rules a → (known + 1 ≤ a.i) ⊎ (known + 1 ≤ a.j) → ⊥
    no_rule a is (inl first) = omega (arith, first, past, rule_at-last rules a.i is.first is.first_numbered)
    no_rule a is (inr second) = omega (arith, second, past, rule_at-last rules a.j is.second is.second_numbered)

pub new-in_order : (compare : Compare) (rules : List Rule) (known : ℕ) (found : List Ambiguity) (items : List Waiting) → ((a : Ambiguity) → Contains found a ↔ IsAmbiguityFrom (known + 1) rules a)
    → AreInOrder compare rules (Contains found) items → AreInOrder compare rules (IsAmbiguityFrom (known + 1) rules) items
new-in_order compare rules known found items members = exactly-same (IsWaitingBefore compare) (λ w. Contains found w.which × (w.word ≡ overlap_word_of rules w.which))
    (λ w. IsAmbiguityFrom (known + 1) rules w.which × (w.word ≡ overlap_word_of rules w.which)) items
    (λ w. (λ new. ((members w.which).1 new.0, new.1), λ at. ((members w.which).0 at.0, at.1)))

pub new-over : (letters : ℕ) (compare : Compare) (rules : List Rule) (known : ℕ) (items : List Waiting) → All (IsRule letters compare) rules
    → AreInOrder compare rules (IsAmbiguityFrom (known + 1) rules) items → All (λ (w : Waiting). IsOver letters w.word) items
new-over letters compare rules known items each new =
    exactly-all (IsWaitingBefore compare) (λ w. IsAmbiguityFrom (known + 1) rules w.which × (w.word ≡ overlap_word_of rules w.which)) (λ (w : Waiting). IsOver letters w.word) items new
    (λ w is. subst (IsOver letters) (sym is.1) (over_overlap_word letters compare rules w.which each is.0.0))

pub taken-ambiguities : TakenOnesAreAmbiguities
taken-ambiguities compare rules more treated store taken each all =
    let still : (a : Ambiguity) → IsAmbiguity rules a → IsAmbiguity (rules ++ more) a = ambiguity-append rules more in
    All-append (IsAmbiguity (rules ++ more)) treated (ambiguities_of (take taken store))
    (All-weaker (IsAmbiguity rules) (IsAmbiguity (rules ++ more)) still treated each)
    (All-map (IsAmbiguity (rules ++ more)) (λ (w : Waiting). w.which) (take taken store)
    (All-take (λ (w : Waiting). IsAmbiguity (rules ++ more) w.which) taken store
    (pending-all (λ (w : Waiting). IsAmbiguity (rules ++ more) w.which) compare rules treated store all (λ w pending. still w.which pending.is))))

pub pending-over : PendingWordsAreOver
pending-over letters compare rules treated store each all =
    pending-all (λ (w : Waiting). IsOver letters w.word) compare rules treated store all
    (λ w pending. subst (IsOver letters) (sym pending.overlap) (over_overlap_word letters compare rules w.which each pending.is))
