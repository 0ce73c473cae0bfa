-- The store after a round.
use Rattle.traced_completion.proofs.Prelude.{◌≡◌, ◌≢◌, ◌⊎◌, inl, inr, ℕ, ◌+◌, ◌<◌, ◌≤◌, List, ◌++◌, length, take, drop, get_or, min, sym, ap, ◌∙◌, subst, arith, IsTotalOrder, All, AllPairs, Contains, IsPermutation, IsSorted, is_eq, Equal, cases_lt, take-append-drop, get_or-take, get_or-drop, length-drop, get_or_default, length-take, All-append, All-contains, All-map, All-take, Contains-append_left, Contains-append_right, Contains-append_cases, IsPermutation-sym, Contains-permutation, Compare, Rule, Ambiguity, IsAmbiguity, overlap_word_of, IsAmbiguityFrom, exactly-append, Waiting, IsWaitingBefore, AreInOrder, waiting_cmp, IsPending, AreAllPending, IsNextStore, ambiguities_of, not_before_itself, tells, sorted-ascending, Image, contains-image, contains-map, distinct-permutation, distinct-pairs, drop-pairs}
use Rattle.traced_completion.proofs.Staying.{overlap_word-append, first-within, second-within, ambiguity-append, ambiguity-before}
use Rattle.traced_completion.proofs.StoreLemmas.{pending-all}

-- items of parts
contains-drop : {X : Type 0} (n : ℕ) (xs : List X) (x : X) → Contains (drop n xs) x → Contains xs x
contains-drop n xs x at = subst (λ ys. Contains ys x) (take-append-drop n xs) (Contains-append_right (take n xs) (drop n xs) x at)

contains-take : {X : Type 0} (n : ℕ) (xs : List X) (x : X) → Contains (take n xs) x → Contains xs x
contains-take n xs x at = subst (λ ys. Contains ys x) (take-append-drop n xs) (Contains-append_left (take n xs) (drop n xs) x at)

contains-parts : {X : Type 0} (n : ℕ) (xs : List X) (x : X) → Contains xs x → Contains (take n xs) x ⊎ Contains (drop n xs) x
contains-parts n xs x at = Contains-append_cases (take n xs) (drop n xs) x (subst (λ ys. Contains ys x) (sym (take-append-drop n xs)) at)

-- an item of the first part is before each one of the rest
across-parts : {X : Type 0} (Before : X → X → Type 0) (n : ℕ) (xs : List X) (x y : X) → AllPairs Before xs → Contains (take n xs) x → Contains (drop n xs) y → Before x y
across-parts {X} Before n xs x y pairs (i, i_in, i_is) (j, j_in, j_is) =
    let early : i < min n (length xs) = omega (arith, i_in, length-take n xs) in
    let first : i < n = omega (arith, early) in
    let second : n + j < length xs = omega (arith, j_in, length-drop n xs) in
    let one : get_or xs i x ≡ x = sym (get_or-take n xs i x first) ∙ i_is in
    let other : get_or xs (n + j) y ≡ y = sym (get_or-drop n xs j y) ∙ j_is in
    let default : get_or xs i y ≡ get_or xs i x = get_or_default xs i y x (omega (arith, first, second)) in
    subst (λ (p : X × X). Before p.0 p.1) (λ k. ((default ∙ one) k, other k)) (pairs i (n + j) y (omega (arith, first)) second)

module _ (compare : Compare) (total : IsTotalOrder compare) (same : (u v : List ℕ) → compare u v ≡ Equal → u ≡ v) where
  module _ (rules more : List Rule) (known taken : ℕ) (short : length rules ≤ known) (whole : (n : ℕ) → n ≤ known → n ≤ length (rules ++ more) → n ≤ length rules)
      (old added : List Waiting) (treated : List Ambiguity) (exact : AreInOrder compare (rules ++ more) (IsAmbiguityFrom (known + 1) (rules ++ more)) added)
      (each : All (IsAmbiguity rules) treated) (all : AreAllPending compare rules treated old) where
    abbrev everything : List Rule
    everything = rules ++ more

    abbrev now_treated : List Ambiguity
    now_treated = treated ++ ambiguities_of (take taken old)

    abbrev rest : List Waiting
    rest = drop taken old

    treated-each : All (IsAmbiguity rules) now_treated
    treated-each =
        All-append (IsAmbiguity rules) treated (ambiguities_of (take taken old)) each
        (All-map (IsAmbiguity rules) (λ (w : Waiting). w.which) (take taken old)
        (All-take (λ (w : Waiting). IsAmbiguity rules w.which) taken old
        (pending-all (λ (w : Waiting). IsAmbiguity rules w.which) compare rules treated old all (λ w pending. pending.is))))

    -- an ambiguity of the first rules has no number past them
    not_new : (a : Ambiguity) → IsAmbiguity rules a → IsAmbiguityFrom (known + 1) everything a → ⊥
    not_new a is from = go from.1
      where
        go : (known + 1 ≤ a.i) ⊎ (known + 1 ≤ a.j) → ⊥
        go (inl first) = omega (arith, first, first-within rules a is, short)
        go (inr second) = omega (arith, second, second-within rules a is, short)

    same_waiting : (v w : Waiting) → v.which ≡ w.which → v.word ≡ overlap_word_of rules v.which → w.word ≡ overlap_word_of rules w.which → v ≡ w
    same_waiting v w which one other =
        let word : v.word ≡ w.word = one ∙ ap (overlap_word_of rules) which ∙ sym other in
        λ n. record { which = which n; word = word n }

    rest-pending : (w : Waiting) → Contains rest w → IsPending everything now_treated w
    rest-pending w at = record {
      is = ambiguity-append rules more w.which pending.is;
      untreated = λ in_treated. untreated (Contains-append_cases treated (ambiguities_of (take taken old)) w.which in_treated);
      overlap = pending.overlap ∙ sym (overlap_word-append rules more w.which (first-within rules w.which pending.is) (second-within rules w.which pending.is));
    }
      where
        pending : IsPending rules treated w
        pending = (all.members w).0 (contains-drop taken old w at)

        taken_one : Image (λ (v : Waiting). v.which) (take taken old) w.which → ⊥
        taken_one image =
            let v = image.item in
            let other : IsPending rules treated v = (all.members v).0 (contains-take taken old v image.inside) in
            let alike : v ≡ w = same_waiting v w image.same other.overlap pending.overlap in
            not_before_itself compare total w (subst (λ (x : Waiting). IsWaitingBefore compare x w) alike (across-parts (IsWaitingBefore compare) taken old v w all.ascending image.inside at))

        untreated : Contains treated w.which ⊎ Contains (ambiguities_of (take taken old)) w.which → ⊥
        untreated (inl before) = pending.untreated before
        untreated (inr now) = taken_one (contains-image (λ (v : Waiting). v.which) (take taken old) w w.which now)

    added-pending : (w : Waiting) → Contains added w → IsPending everything now_treated w
    added-pending w at =
        let new = (exact.members w).0 at in
        record {
          is = new.0.0;
          untreated = λ in_treated. not_new w.which (All-contains (IsAmbiguity rules) now_treated w.which treated-each in_treated) new.0;
          overlap = new.1;
        }

    pending-listed : (w : Waiting) → IsPending everything now_treated w → Contains (rest ++ added) w
    pending-listed w pending = go (cases_lt known w.which.i) (cases_lt known w.which.j)
      where
        new : IsAmbiguityFrom (known + 1) everything w.which → Contains (rest ++ added) w
        new from = Contains-append_right rest added w ((exact.members w).1 (from, pending.overlap))

        before : w.which.i ≤ known → w.which.j ≤ known → IsPending rules treated w
        before first second =
            let i_in : w.which.i ≤ length rules = whole w.which.i first (first-within everything w.which pending.is) in
            let j_in : w.which.j ≤ length rules = whole w.which.j second (second-within everything w.which pending.is) in
            record {
              is = ambiguity-before rules more w.which pending.is i_in j_in;
              untreated = λ in_treated. pending.untreated (Contains-append_left treated (ambiguities_of (take taken old)) w.which in_treated);
              overlap = pending.overlap ∙ overlap_word-append rules more w.which i_in j_in;
            }

        part : Contains (take taken old) w ⊎ Contains rest w → Contains (rest ++ added) w
        part (inl early) = absurd (pending.untreated (Contains-append_right treated (ambiguities_of (take taken old)) w.which (contains-map (λ (v : Waiting). v.which) (take taken old) w early)))
        part (inr late) = Contains-append_left rest added w late

        go : (known < w.which.i) ⊎ (w.which.i ≤ known) → (known < w.which.j) ⊎ (w.which.j ≤ known) → Contains (rest ++ added) w
        go (inl first) other = new (pending.is, inl (omega (arith, first)))
        go (inr first) (inl second) = new (pending.is, inr (omega (arith, second)))
        go (inr first) (inr second) = part (contains-parts taken old w ((all.members w).1 (before first second)))

    -- what is in the order has no repetitions
    distinct : (xs : List Waiting) → AllPairs (IsWaitingBefore compare) xs → AllPairs (λ x y. x ≢ y) xs
    distinct = distinct-pairs (IsWaitingBefore compare) (not_before_itself compare total)

    both-distinct : AllPairs (λ x y. x ≢ y) (rest ++ added)
    both-distinct = (exactly-append (λ x y. x ≢ y) (Contains rest) (Contains added) (λ w. Contains rest w ⊎ Contains added w) rest added
        (record { members = λ w. (λ at. at, λ at. at); ascending = distinct rest (drop-pairs (IsWaitingBefore compare) taken old all.ascending) }) (record { members = λ w. (λ at. at, λ at. at); ascending = distinct added exact.ascending })
        (λ x y in_rest in_added alike. not_new x.which ((all.members x).0 (contains-drop taken old x in_rest)).is
        (subst (λ (w : Waiting). IsAmbiguityFrom (known + 1) everything w.which) (sym alike) ((exact.members y).0 in_added).0))
        (λ w. (λ either. either, λ either. either))).ascending

    pub next-all : (new : List Waiting) → IsPermutation (rest ++ added) new → IsSorted (waiting_cmp compare) new → AreAllPending compare everything now_treated new
    next-all new moved sorted = record {
      members = λ w. (
        λ at. listed w (Contains-append_cases rest added w (Contains-permutation new (rest ++ added) w (IsPermutation-sym (rest ++ added) new moved) at)),
        λ pending. Contains-permutation (rest ++ added) new w moved (pending-listed w pending),
      );
      ascending = sorted-ascending compare total same new (distinct-permutation (λ x y. is_eq (waiting_cmp compare x y)) (tells compare total same) (rest ++ added) new moved both-distinct) sorted;
    }
      where
        listed : (w : Waiting) → Contains rest w ⊎ Contains added w → IsPending everything now_treated w
        listed w (inl at) = rest-pending w at
        listed w (inr at) = added-pending w at

  -- the store after a round
  pub next-store : (rules : List Rule) (known taken : ℕ) (old items new : List Waiting) → AreInOrder compare rules (IsAmbiguityFrom (known + 1) rules) items → IsPermutation (drop taken old ++ items) new
      → IsSorted (waiting_cmp compare) new → IsNextStore compare rules known taken old new
  next-store rules known taken old items new added moved sorted treated each all =
      subst (λ (rs : List Rule). AreAllPending compare rs (treated ++ ambiguities_of (take taken old)) new) parts
      (next-all (take known rules) (drop known rules) known taken short whole old items treated
      (subst (λ (rs : List Rule). AreInOrder compare rs (IsAmbiguityFrom (known + 1) rs) items) (sym parts) added) each all new moved sorted)
    where
      parts : take known rules ++ drop known rules ≡ rules
      parts = take-append-drop known rules

      short : length (take known rules) ≤ known
      short = omega (arith, length-take known rules)

      whole : (n : ℕ) → n ≤ known → n ≤ length (take known rules ++ drop known rules) → n ≤ length (take known rules)
      whole n first second = let inside : n ≤ length rules = omega (arith, second, ap length parts) in omega (arith, first, inside, length-take known rules)
