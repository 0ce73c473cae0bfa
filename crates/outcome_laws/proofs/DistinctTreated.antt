-- No ambiguity is treated twice.
use Rattle.outcome_laws.proofs.Prelude.{◌≡◌, ◌≢◌, ℕ, zero, suc, List, [], ◌∷◌, ◌++◌, take, drop, get_or, sym, ap, subst, ◌∙◌, arith, AllPairs, Contains, take-append-drop, All-append, All-take, Contains-append_left, Contains-get_or, AllPairs-cons, contains-first, contains-rest, pairs-map, first-before, rest-pairs, not_before_itself, IsAdmissible, Rule, Ambiguity, overlap_word_of, Waiting, IsWaitingBefore, IsPending, ambiguities_of, went, Setting, RunState, IsRunState, taken_count}
use Rattle.outcome_laws.proofs.Listed.{value_of}
use Rattle.outcome_laws.proofs.RoundEnds.{zero_ends, later_ends}

module _ {X : Type 0} (R : X → X → Type 0) where
  pairs_take : (n : ℕ) (xs : List X) → AllPairs R xs → AllPairs R (take n xs)
  pairs_take zero xs pairs = λ i j d before inside. absurd (omega (arith, inside))
  pairs_take (suc n) [] pairs = pairs
  pairs_take (suc n) (x ∷ xs) pairs =
      AllPairs-cons R x (take n xs) (All-take (R x) n xs (λ k d inside. first-before R x xs pairs (get_or xs k d) (Contains-get_or xs k d inside))) (pairs_take n xs (rest-pairs R x xs pairs))

  pairs_append : (xs ys : List X) → AllPairs R xs → AllPairs R ys → ((x y : X) → Contains xs x → Contains ys y → R x y) → AllPairs R (xs ++ ys)
  pairs_append [] ys left right across = right
  pairs_append (x ∷ xs) ys left right across =
      AllPairs-cons R x (xs ++ ys)
      (All-append (R x) xs ys (λ k d inside. first-before R x xs left (get_or xs k d) (Contains-get_or xs k d inside))
      (λ k d inside. across x (get_or ys k d) (contains-first x xs) (Contains-get_or ys k d inside)))
      (pairs_append xs ys (rest-pairs R x xs left) right (λ z y at other. across z y (contains-rest x xs z at) other))

module _ (letters : ℕ) (rank : List ℕ → List ℕ) (setting : Setting) (laws : IsAdmissible letters setting.compare rank) where
  -- one that waits before another one, both with their overlap words, is another ambiguity
  before_apart : (rules : List Rule) (v w : Waiting) → v.word ≡ overlap_word_of rules v.which → w.word ≡ overlap_word_of rules w.which
      → IsWaitingBefore setting.compare v w → v.which ≢ w.which
  before_apart rules v w one other before same =
      let words : v.word ≡ w.word = one ∙ ap (overlap_word_of rules) same ∙ sym other in
      let whole : v ≡ w = λ n. record { which = same n; word = words n } in
      not_before_itself setting.compare laws.total w (subst (λ u. IsWaitingBefore setting.compare u w) whole before)

  pub distinct_treated : (n : ℕ) (s : RunState) → IsRunState setting n s → AllPairs (λ (a b : Ambiguity). a ≢ b) s.treated
  distinct_treated zero s is = subst (λ (x : RunState). AllPairs (λ (a b : Ambiguity). a ≢ b) x.treated) (sym is) (λ i j d before inside. absurd (omega (arith, inside)))
  distinct_treated (suc zero) s is =
      subst (AllPairs (λ (a b : Ambiguity). a ≢ b)) (sym (zero_ends setting is.before (went s) is.round).1) (distinct_treated zero is.before is.is_before)
  distinct_treated (suc (suc n)) s is =
      let before = is.before in
      let round = later_ends setting before (suc n) (went s) is.round in
      let pending = round.takes.first ∷ round.takes.others in
      let all = round.takes.all_pending in
      let count = taken_count setting.budget before pending in
      let firsts = take count pending in
      let pends : (w : Waiting) → Contains firsts w → IsPending before.rules before.treated w =
      λ w at. (all.members w).0 (subst (λ ws. Contains ws w) (take-append-drop count pending) (Contains-append_left firsts (drop count pending) w at)) in
      subst (AllPairs (λ (a b : Ambiguity). a ≢ b)) (sym round.treated)
      (pairs_append (λ (a b : Ambiguity). a ≢ b) before.treated (ambiguities_of firsts) (distinct_treated (suc n) before is.is_before)
      (pairs-map (λ (w : Waiting). w.which) (λ a. record { which = a; word = [] }) (IsWaitingBefore setting.compare) (λ (a b : Ambiguity). a ≢ b) firsts
      (λ v w at other. before_apart before.rules v w (pends v at).overlap (pends w other).overlap) (pairs_take (IsWaitingBefore setting.compare) count pending all.ascending))
      (λ a b at other same.
      let v = value_of (λ (w : Waiting). w.which) firsts b other in
      (pends v.argument v.listed).untreated (subst (Contains before.treated) (same ∙ v.is) at)))
