-- The order of ambiguities with their overlap words is total, and it is the one that the comparison gives.
use Rattle.ambiguities.proofs.Prelude.{◌≡◌, ◌≢◌, ◌⊎◌, inl, inr, ℕ, ◌<◌, true, false, List, get_or, refl, sym, ap, ap₂, ◌∙◌, arith, Decides, IsTotalOrder, nat_cmp_is, AllPairs, IsSorted, nat_cmp, is_lt, is_eq, ordering_then, ordering_reverse, Ordering, Less, Equal, Greater, ranked, nat_cmp_total, on_total, then_total, tied_itself, sorted_far, ranks_by, Compare, Kind, Overlap, Inclusion, Ambiguity, Waiting, IsBefore, kind_number, IsWaitingBefore, ambiguity_cmp, waiting_cmp}

-- one comparison after another
then-left : (o p : Ordering) → o ≡ Less → ordering_then o p ≡ Less
then-left o p less = ap (λ r. ordering_then r p) less

then-right : (o p : Ordering) → o ≡ Equal → p ≡ Less → ordering_then o p ≡ Less
then-right o p level less = ap (λ r. ordering_then r p) level ∙ less

then-less : (o p : Ordering) → ordering_then o p ≡ Less → (o ≡ Less) ⊎ ((o ≡ Equal) × (p ≡ Less))
then-less Less p e = inl refl
then-less Equal p e = inr (refl, e)
then-less Greater p e = absurd (cc)

then-equal : (o p : Ordering) → ordering_then o p ≡ Equal → (o ≡ Equal) × (p ≡ Equal)
then-equal Less p e = absurd (cc)
then-equal Equal p e = (refl, e)
then-equal Greater p e = absurd (cc)

-- numbers
number-less : (m n : ℕ) → nat_cmp m n ≡ Less → m < n
number-less m n e = ranked m n Less (sym e)

number-equal : (m n : ℕ) → nat_cmp m n ≡ Equal → m ≡ n
number-equal m n e = ranked m n Equal (sym e)

less-number : (m n : ℕ) → m < n → nat_cmp m n ≡ Less
less-number m n below = sym (nat_cmp_is m n Less below)

equal-number : (m n : ℕ) → m ≡ n → nat_cmp m n ≡ Equal
equal-number m n level = sym (nat_cmp_is m n Equal level)

same_kind : (k l : Kind) → kind_number k ≡ kind_number l → k ≡ l
same_kind Overlap Overlap e = refl
same_kind Overlap Inclusion e = absurd (omega (arith, e))
same_kind Inclusion Overlap e = absurd (omega (arith, e))
same_kind Inclusion Inclusion e = refl

-- ambiguities
module _ (a b : Ambiguity) where
  abbrev by_first : Ordering
  by_first = nat_cmp a.i b.i

  abbrev by_second : Ordering
  by_second = nat_cmp a.j b.j

  abbrev by_kind : Ordering
  by_kind = nat_cmp (kind_number a.kind) (kind_number b.kind)

  abbrev by_place : Ordering
  by_place = nat_cmp a.place b.place

  less-ambiguity : IsBefore a b → ambiguity_cmp a b ≡ Less
  less-ambiguity (inl first) = then-left (ordering_then by_first by_second) (ordering_then by_kind by_place) (then-left by_first by_second (less-number a.i b.i first))
  less-ambiguity (inr (level, inl second)) =
      then-left (ordering_then by_first by_second) (ordering_then by_kind by_place) (then-right by_first by_second (equal-number a.i b.i level) (less-number a.j b.j second))
  less-ambiguity (inr (level, inr (level_second, rest))) =
      then-right (ordering_then by_first by_second) (ordering_then by_kind by_place)
      (ap₂ ordering_then (equal-number a.i b.i level) (equal-number a.j b.j level_second)) (last rest)
    where
      last : (kind_number a.kind < kind_number b.kind) ⊎ ((a.kind ≡ b.kind) × (a.place < b.place)) → ordering_then by_kind by_place ≡ Less
      last (inl kind) = then-left by_kind by_place (less-number (kind_number a.kind) (kind_number b.kind) kind)
      last (inr (same, place)) = then-right by_kind by_place (equal-number (kind_number a.kind) (kind_number b.kind) (ap kind_number same)) (less-number a.place b.place place)

  ambiguity-less : ambiguity_cmp a b ≡ Less → IsBefore a b
  ambiguity-less e = go (then-less (ordering_then by_first by_second) (ordering_then by_kind by_place) e)
    where
      rules : (by_first ≡ Less) ⊎ ((by_first ≡ Equal) × (by_second ≡ Less)) → IsBefore a b
      rules (inl first) = inl (number-less a.i b.i first)
      rules (inr (level, second)) = inr (number-equal a.i b.i level, inl (number-less a.j b.j second))

      rest : (by_first ≡ Equal) × (by_second ≡ Equal) → (by_kind ≡ Less) ⊎ ((by_kind ≡ Equal) × (by_place ≡ Less)) → IsBefore a b
      rest level (inl kind) = inr (number-equal a.i b.i level.0, inr (number-equal a.j b.j level.1, inl (number-less (kind_number a.kind) (kind_number b.kind) kind)))
      rest level (inr (same, place)) =
          inr (
            number-equal a.i b.i level.0,
            inr (
              number-equal a.j b.j level.1,
              inr (same_kind a.kind b.kind (number-equal (kind_number a.kind) (kind_number b.kind) same), number-less a.place b.place place),
            ),
          )

      go : (ordering_then by_first by_second ≡ Less) ⊎ ((ordering_then by_first by_second ≡ Equal) × (ordering_then by_kind by_place ≡ Less)) → IsBefore a b
      go (inl less) = rules (then-less by_first by_second less)
      go (inr (level, less)) = rest (then-equal by_first by_second level) (then-less by_kind by_place less)

  ambiguity-equal : ambiguity_cmp a b ≡ Equal → a ≡ b
  ambiguity-equal e =
      let both = then-equal (ordering_then by_first by_second) (ordering_then by_kind by_place) e in
      let numbers = then-equal by_first by_second both.0 in
      let rest = then-equal by_kind by_place both.1 in
      let first : a.i ≡ b.i = number-equal a.i b.i numbers.0 in
      let second : a.j ≡ b.j = number-equal a.j b.j numbers.1 in
      let kind : a.kind ≡ b.kind = same_kind a.kind b.kind (number-equal (kind_number a.kind) (kind_number b.kind) rest.0) in
      let place : a.place ≡ b.place = number-equal a.place b.place rest.1 in
      λ n. record { i = first n; j = second n; kind = kind n; place = place n }

ambiguity_cmp-total : IsTotalOrder ambiguity_cmp
ambiguity_cmp-total =
    then_total (then_total (on_total (λ (a : Ambiguity). a.i) nat_cmp_total) (on_total (λ (a : Ambiguity). a.j) nat_cmp_total))
    (then_total (on_total (λ (a : Ambiguity). kind_number a.kind) nat_cmp_total) (on_total (λ (a : Ambiguity). a.place) nat_cmp_total))

less_unlike_equal : Less ≡ Equal → ⊥
less_unlike_equal e = cc

pub ambiguity_not_before_itself : (a : Ambiguity) → IsBefore a a → ⊥
ambiguity_not_before_itself a before = less_unlike_equal (sym (less-ambiguity a a before) ∙ tied_itself ambiguity_cmp-total a)

-- with their overlap words
module _ (compare : Compare) (total : IsTotalOrder compare) where
  pub waiting_cmp-total : IsTotalOrder (waiting_cmp compare)
  waiting_cmp-total = then_total (on_total (λ (w : Waiting). w.word) total) (on_total (λ (w : Waiting). w.which) ambiguity_cmp-total)

  pub less-waiting : (v w : Waiting) → IsWaitingBefore compare v w → waiting_cmp compare v w ≡ Less
  less-waiting v w (inl less) = then-left (compare v.word w.word) (ambiguity_cmp v.which w.which) less
  less-waiting v w (inr (same, before)) =
      then-right (compare v.word w.word) (ambiguity_cmp v.which w.which) (ap (compare v.word) (sym same) ∙ tied_itself total v.word) (less-ambiguity v.which w.which before)

  not_less_itself : (w : Waiting) → waiting_cmp compare w w ≡ Less → ⊥
  not_less_itself w less = less_unlike_equal (sym less ∙ tied_itself waiting_cmp-total w)

  pub not_before_itself : (w : Waiting) → IsWaitingBefore compare w w → ⊥
  not_before_itself w before = not_less_itself w (less-waiting w w before)

  pub not_before_each_other : (v w : Waiting) → IsWaitingBefore compare v w → IsWaitingBefore compare w v → ⊥
  not_before_each_other v w one other = not_less_itself v (waiting_cmp-total.trans v w v (less-waiting v w one) (less-waiting w v other))

  module _ (same : (u v : List ℕ) → compare u v ≡ Equal → u ≡ v) where
    waiting-less : (v w : Waiting) → waiting_cmp compare v w ≡ Less → IsWaitingBefore compare v w
    waiting-less v w e = go (then-less (compare v.word w.word) (ambiguity_cmp v.which w.which) e)
      where
        go : (compare v.word w.word ≡ Less) ⊎ ((compare v.word w.word ≡ Equal) × (ambiguity_cmp v.which w.which ≡ Less)) → IsWaitingBefore compare v w
        go (inl less) = inl less
        go (inr (level, less)) = inr (same v.word w.word level, ambiguity-less v.which w.which less)

    waiting-equal : (v w : Waiting) → waiting_cmp compare v w ≡ Equal → v ≡ w
    waiting-equal v w e =
        let both = then-equal (compare v.word w.word) (ambiguity_cmp v.which w.which) e in
        let which : v.which ≡ w.which = ambiguity-equal v.which w.which both.1 in
        let word : v.word ≡ w.word = same v.word w.word both.0 in
        λ n. record { which = which n; word = word n }

    pub before_trans : (u v w : Waiting) → IsWaitingBefore compare u v → IsWaitingBefore compare v w → IsWaitingBefore compare u w
    before_trans u v w one other = waiting-less u w (waiting_cmp-total.trans u v w (less-waiting u v one) (less-waiting v w other))

    pub before_compared : (v w : Waiting) → (v ≡ w) ⊎ (IsWaitingBefore compare v w ⊎ IsWaitingBefore compare w v)
    before_compared v w = go (waiting_cmp compare v w) refl
      where
        go : (o : Ordering) → waiting_cmp compare v w ≡ o → (v ≡ w) ⊎ (IsWaitingBefore compare v w ⊎ IsWaitingBefore compare w v)
        go Less e = inr (inl (waiting-less v w e))
        go Equal e = inl (waiting-equal v w e)
        go Greater e = inr (inr (waiting-less w v (waiting_cmp-total.antisymm w v ∙ ap ordering_reverse e)))

    -- whether two are the same is tested by the comparison
    pub tells : (v w : Waiting) → Decides (is_eq (waiting_cmp compare v w)) (v ≡ w)
    tells v w = (λ held. waiting-equal v w (level (waiting_cmp compare v w) held), λ alike. ap is_eq (ap (waiting_cmp compare v) (sym alike) ∙ tied_itself waiting_cmp-total v))
      where
        level : (o : Ordering) → is_eq o ≡ true → o ≡ Equal
        level Less e = cc
        level Equal e = refl
        level Greater e = cc

    -- what is sorted and has no repetitions is in the order
    pub sorted-ascending : (xs : List Waiting) → AllPairs (λ v w. v ≢ w) xs → IsSorted (waiting_cmp compare) xs → AllPairs (IsWaitingBefore compare) xs
    sorted-ascending xs distinct sorted i j d before inside = go (before_compared v w)
      where
        v : Waiting
        v = get_or xs i d

        w : Waiting
        w = get_or xs j d

        not_less : is_lt (waiting_cmp compare w v) ≡ false
        not_less = sorted_far (λ x y. is_lt (waiting_cmp compare x y)) (ranks_by waiting_cmp-total (λ x. x)) xs sorted i j d (omega (arith, before)) inside

        above : waiting_cmp compare w v ≡ Less → ⊥
        above less = let no : true ≡ false = sym (ap is_lt less) ∙ not_less in absurd (cc)

        go : (v ≡ w) ⊎ (IsWaitingBefore compare v w ⊎ IsWaitingBefore compare w v) → IsWaitingBefore compare v w
        go (inl alike) = absurd (distinct i j d before inside alike)
        go (inr (inl first)) = first
        go (inr (inr second)) = absurd (above (less-waiting w v second))
