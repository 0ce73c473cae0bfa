-- Ambiguities that are sorted by their keys are in order.
use Rattle.ambiguities.proofs.Prelude.{◌≡◌, ◌≢◌, ℕ, ◌+◌, ◌<◌, ◌^◌, List, [], ◌∷◌, length, map, get_or, refl, sym, ap, ap₂, ◌∙◌, subst, arith, IsTotalOrder, All, AllPairs, Contains, IsPermutation, IsSorted, is_eq, is_lt, nat_cmp, ordering_then, Ordering, Equal, nat_cmp_total, on_total, then_total, length-map, get_or-map, All-map, All-permutation, Contains-permutation, IsPermutation-map, IsPermutation-sym, word_cmp, word_cmp_total, IsOver, Compare, measured_cmp, Rule, Ambiguity, overlap_word_of, Waiting, Key, ambiguity_cmp, waiting_cmp, waiting_of, AreInOrder, front_of, key_of, key_cmp}
use Rattle.ambiguities.proofs.Ascending.{Image, contains-image, contains-map, distinct-permutation, pairs-map}
use Rattle.ambiguities.proofs.Comparing.{waiting_cmp-total, tells, sorted-ascending}
use Rattle.ambiguities.proofs.Fronts.{then_assoc, fronted_cmp}

-- keys
pub key_cmp-total : IsTotalOrder key_cmp
key_cmp-total =
    then_total (then_total (then_total (on_total (λ (k : Key). k.measure) nat_cmp_total) (on_total (λ (k : Key). length k.waiting.word) nat_cmp_total))
    (on_total (λ (k : Key). k.front) nat_cmp_total))
    (on_total (λ (k : Key). k.waiting) (waiting_cmp-total word_cmp word_cmp_total))

module _ (compare : Compare) (measure : List ℕ → ℕ) (by_measure : (u v : List ℕ) → compare u v ≡ measured_cmp measure u v) where
  abbrev IsExact : Key → Type 0
  IsExact k = ((k.measure ≡ measure k.waiting.word) × (k.front ≡ front_of k.waiting.word)) × IsOver (2 ^ 16) k.waiting.word

  -- keys compare as their ambiguities do
  keys_compare : (k l : Key) → IsExact k → IsExact l → key_cmp k l ≡ waiting_cmp compare k.waiting l.waiting
  keys_compare k l one other =
      let u = k.waiting.word in
      let v = l.waiting.word in
      let rest = ambiguity_cmp k.waiting.which l.waiting.which in
      let by_number = nat_cmp (measure u) (measure v) in
      let by_length = nat_cmp (length u) (length v) in
      let by_front = nat_cmp (front_of u) (front_of v) in
      ap₂ (λ (m : Ordering) (f : Ordering). ordering_then (ordering_then (ordering_then m by_length) f) (ordering_then (word_cmp u v) rest))
      (ap₂ nat_cmp one.0.0 other.0.0) (ap₂ nat_cmp one.0.1 other.0.1)
      ∙ then_assoc (ordering_then (ordering_then by_number by_length) by_front) (word_cmp u v) rest
      ∙ ap (λ o. ordering_then o rest) (
      sym (then_assoc (ordering_then by_number by_length) by_front (word_cmp u v)) ∙ sym (then_assoc by_number by_length (ordering_then by_front (word_cmp u v)))
      ∙ ap (ordering_then by_number) (fronted_cmp u v one.1 other.1) ∙ sym (by_measure u v)
      )

  module _ (rules : List Rule) (found : List Ambiguity) (over : All (λ (k : Key). IsOver (2 ^ 16) k.waiting.word) (map (key_of measure rules) found)) (keys : List Key)
      (moved : IsPermutation (map (key_of measure rules) found) keys) where
    abbrev in_order : List Waiting
    in_order = map (λ (k : Key). k.waiting) keys

    unkeyed : (xs : List Ambiguity) → map (λ (k : Key). k.waiting) (map (key_of measure rules) xs) ≡ map (waiting_of rules) xs
    unkeyed [] = refl
    unkeyed (a ∷ xs) = ap (λ ys. waiting_of rules a ∷ ys) (unkeyed xs)

    keys-moved : IsPermutation (map (waiting_of rules) found) in_order
    keys-moved = subst (λ xs. IsPermutation xs in_order) (unkeyed found) (IsPermutation-map (λ (k : Key). k.waiting) (map (key_of measure rules) found) keys moved)

    each-exact : All IsExact keys
    each-exact = All-permutation IsExact (map (key_of measure rules) found) keys moved (λ k d inside. (numbers k d inside, over k d inside))
      where
        numbers : All (λ (k : Key). (k.measure ≡ measure k.waiting.word) × (k.front ≡ front_of k.waiting.word)) (map (key_of measure rules) found)
        numbers = All-map (λ (k : Key). (k.measure ≡ measure k.waiting.word) × (k.front ≡ front_of k.waiting.word)) (key_of measure rules) found (λ k d inside. (refl, refl))

    keys-sorted : IsSorted key_cmp keys → IsSorted (waiting_cmp compare) in_order
    keys-sorted sorted k d low high =
        let e : Key = record { measure = 0; front = 0; waiting = d } in
        let inside : k + 1 < length keys = omega (arith, high, length-map keys (λ (k : Key). k.waiting)) in
        let before : k < length keys = omega (arith, inside) in
        let x = get_or keys (k + 1) e in
        let y = get_or keys k e in
        ap₂ (λ v w. is_lt (waiting_cmp compare v w)) (get_or-map (λ (k : Key). k.waiting) keys (k + 1) e d inside) (get_or-map (λ (k : Key). k.waiting) keys k e d before)
        ∙ ap is_lt (sym (keys_compare x y (each-exact (k + 1) e inside) (each-exact k e before)))
        ∙ sorted k e low inside

    pub keys-in_order : (total : IsTotalOrder compare) (same : (u v : List ℕ) → compare u v ≡ Equal → u ≡ v) → AllPairs (λ a b. a ≢ b) found → IsSorted key_cmp keys
        → AreInOrder compare rules (Contains found) (map (λ (k : Key). k.waiting) keys)
    keys-in_order total same distinct sorted = record {
      members = λ w. (
        λ at. listed w (contains-image (waiting_of rules) found w.which w (Contains-permutation in_order given w (IsPermutation-sym given in_order keys-moved) at)),
        λ held. Contains-permutation given in_order w keys-moved (subst (Contains given) (λ n. record { which = w.which; word = sym held.1 n }) (contains-map (waiting_of rules) found w.which held.0)),
      );
      ascending = sorted-ascending compare total same in_order (distinct-permutation (λ v w. is_eq (waiting_cmp compare v w)) (tells compare total same) given in_order keys-moved apart) (keys-sorted sorted);
    }
      where
        given : List Waiting
        given = map (waiting_of rules) found

        listed : (w : Waiting) → Image (waiting_of rules) found w → Contains found w.which × (w.word ≡ overlap_word_of rules w.which)
        listed w image = subst (λ (x : Waiting). Contains found x.which × (x.word ≡ overlap_word_of rules x.which)) image.same (image.inside, refl)

        apart : AllPairs (λ v w. v ≢ w) given
        apart = pairs-map (waiting_of rules) (λ (w : Waiting). w.which) (λ a b. a ≢ b) (λ v w. v ≢ w) found
            (λ a b a_in b_in differ alike. differ (ap (λ (w : Waiting). w.which) alike)) distinct
