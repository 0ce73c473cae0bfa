-- Blocks of waiting ambiguities, and what is put among them.
use Rattle.traced_completion.proofs.Prelude.{◌≡◌, ◌≢◌, ◌⊎◌, inl, inr, ℕ, zero, suc, ◌+◌, ◌-◌, ◌<◌, ◌≤◌, true, false, List, [], ◌∷◌, ◌++◌, length, take, drop, set, get_or, refl, sym, ap, ap₂, ◌∙◌, subst, arith, IsTotalOrder, All, AllPairs, Contains, insert, remove, IsPermutation, is_lt, ordering_reverse, is_gt, Ordering, Less, Equal, Greater, cases_lt, upto, append_assoc, append-nil, take_all, length-append, length-take, length-take-le, length-set, take_at, drop_at, take_more, drop_more, drop_all, take-append-drop, take-set-le, drop-set-add, set-set, set-get_or, set_split, get_or-set_same, get_or-drop, get_or-take, length-drop, get_or_default, flat_map-append, get_or-flat_map, All-append, All-cons, All-take, All-drop, All-set, Contains-append_cases, AllPairs-cons, IsPermutation-append_left, IsPermutation-to_front, IsPermutation-insert, IsPermutation-trans, exactly-append, IsOver, Compare, Waiting, waiting_cmp, IsUpTo, last_of, joined, put_at, taken_out, restored, IsPut, IsFilled, drop-pairs, waiting_cmp-total}

-- what was put is taken out
pub restored-more : (places : List (ℕ × ℕ)) (at : ℕ × ℕ) (blocks : List (List Waiting)) → restored (places ++ at ∷ []) blocks ≡ restored places (taken_out at blocks)
restored-more [] at blocks = refl
restored-more (x ∷ places) at blocks = ap (taken_out x) (restored-more places at blocks)

remove-insert : (items : List Waiting) (p : ℕ) (w : Waiting) → p ≤ length items → remove (insert items p w) p ≡ items
remove-insert items p w within =
    let front : length (take p items) ≡ p = length-take-le p items within in
    let whole : insert items p w ≡ (take p items ++ w ∷ []) ++ drop p items = sym (append_assoc (take p items) (w ∷ []) (drop p items)) in
    let count : length (take p items ++ w ∷ []) ≡ suc p = length-append (take p items) (w ∷ []) ∙ omega (arith, front) in
    ap₂ ◌++◌ (take_at (take p items) (w ∷ drop p items) p front) (ap (drop (suc p)) whole ∙ drop_at (take p items ++ w ∷ []) (drop p items) (suc p) count)
    ∙ take-append-drop p items

pub put-taken_out : (at : ℕ × ℕ) (w : Waiting) (blocks : List (List Waiting)) → at.0 < length blocks → at.1 ≤ length (get_or blocks at.0 []) → taken_out at (put_at at w blocks) ≡ blocks
put-taken_out at w blocks number place =
    let block : List Waiting = get_or blocks at.0 [] in
    let new : List Waiting = insert block at.1 w in
    ap (λ (b : List Waiting). set (set blocks at.0 new) at.0 (remove b at.1)) (get_or-set_same blocks at.0 new [] number)
    ∙ set-set blocks at.0 new (remove new at.1)
    ∙ ap (set blocks at.0) (remove-insert block at.1 w place)
    ∙ set-get_or blocks at.0 []

-- the blocks as one list
module _ (blocks : List (List Waiting)) (i : ℕ) (number : i < length blocks) where
  abbrev block : List Waiting
  block = get_or blocks i []

  abbrev front : List Waiting
  front = joined (take i blocks)

  abbrev behind : List Waiting
  behind = joined (drop (i + 1) blocks)

  pub joined-parts : joined blocks ≡ front ++ (block ++ behind)
  joined-parts =
      ap joined (sym (take-append-drop i blocks) ∙ ap (λ xs. take i blocks ++ xs) (drop_more blocks i [] number))
      ∙ flat_map-append (λ (b : List Waiting). b) (take i blocks) (block ∷ drop (i + 1) blocks)

  pub joined-put : (p : ℕ) (w : Waiting) → p ≤ length block → joined (put_at (i, p) w blocks) ≡ insert (joined blocks) (length front + p) w
  joined-put p w place =
      let new : List Waiting = insert block p w in
      let next : suc i ≡ i + 1 = omega arith in
      let left : joined (put_at (i, p) w blocks) ≡ front ++ (new ++ behind) =
      ap joined (set_split blocks i new number ∙ ap (λ n. take i blocks ++ new ∷ drop n blocks) next)
      ∙ flat_map-append (λ (b : List Waiting). b) (take i blocks) (new ∷ drop (i + 1) blocks) in
      let cut : front ++ (block ++ behind) ≡ (front ++ take p block) ++ (drop p block ++ behind) =
      ap (λ (b : List Waiting). front ++ (b ++ behind)) (sym (take-append-drop p block)) ∙ ap (λ xs. front ++ xs) (append_assoc (take p block) (drop p block) behind)
      ∙ sym (append_assoc front (take p block) (drop p block ++ behind)) in
      let whole : joined blocks ≡ (front ++ take p block) ++ (drop p block ++ behind) = joined-parts ∙ cut in
      let count : length (front ++ take p block) ≡ length front + p = length-append front (take p block) ∙ ap (λ n. length front + n) (length-take-le p block place) in
      let right : insert (joined blocks) (length front + p) w ≡ (front ++ take p block) ++ w ∷ (drop p block ++ behind) =
      ap (λ xs. insert xs (length front + p) w) whole
      ∙ ap₂ (λ xs ys. xs ++ w ∷ ys) (take_at (front ++ take p block) (drop p block ++ behind) (length front + p) count) (drop_at (front ++ take p block) (drop p block ++ behind) (length front + p) count) in
      left ∙ ap (λ xs. front ++ xs) (append_assoc (take p block) (w ∷ drop p block) behind) ∙ sym (append_assoc front (take p block) (w ∷ (drop p block ++ behind))) ∙ sym right

-- one more in its order
module _ {X : Type 0} (R : X → X → Type 0) (follows : (x y z : X) → R x y → R y z → R x z) (items : List X) (pairs : AllPairs R items) (q : ℕ) (w : X) (within : q ≤ length items)
    (before : (d : X) → 0 < q → R (get_or items (q - 1) d) w) (above : (d : X) → q < length items → R w (get_or items q d)) where
  front-before : (x : X) → Contains (take q items) x → R x w
  front-before x (k, inside, is) = go (cases_lt k (q - 1))
    where
      early : k < q
      early = omega (arith, inside, length-take q items)

      there : get_or items k x ≡ x
      there = sym (get_or-take q items k x early) ∙ is

      go : (k < q - 1) ⊎ (q - 1 ≤ k) → R x w
      go (inl less) = follows x (get_or items (q - 1) x) w (subst (λ y. R y (get_or items (q - 1) x)) there (pairs k (q - 1) x less (omega (arith, early, within)))) (before x (omega (arith, early)))
      go (inr last) =
          let same : q - 1 ≡ k = omega (arith, last, early) in
          subst (λ y. R y w) (ap (λ n. get_or items n x) same ∙ there) (before x (omega (arith, early)))

  rest-after : (y : X) → Contains (drop q items) y → R w y
  rest-after y (k, inside, is) = go (cases_lt 0 k)
    where
      past : q + k < length items
      past = omega (arith, inside, length-drop q items)

      there : get_or items (q + k) y ≡ y
      there = sym (get_or-drop q items k y) ∙ is

      first : q < length items
      first = omega (arith, past)

      go : (0 < k) ⊎ (k ≤ 0) → R w y
      go (inl later) = follows w (get_or items q y) y (above y first) (subst (λ x. R (get_or items q y) x) there (pairs q (q + k) y (omega (arith, later)) past))
      go (inr here) =
          let same : q ≡ q + k = omega (arith, here) in
          subst (λ x. R w x) (ap (λ n. get_or items n y) same ∙ there) (above y first)

  take-pairs : AllPairs R (take q items)
  take-pairs i j d less inside =
      let late : j < q = omega (arith, inside, length-take q items) in
      let here : j < length items = omega (arith, inside, length-take q items) in
      subst (λ (p : X × X). R p.0 p.1) (λ n. (sym (get_or-take q items i d (omega (arith, less, late))) n, sym (get_or-take q items j d late) n)) (pairs i j d less here)

  cons-cases : (y : X) → Contains (w ∷ drop q items) y → (w ≡ y) ⊎ Contains (drop q items) y
  cons-cases y at = go (Contains-append_cases (w ∷ []) (drop q items) y at)
    where
      one : Contains (w ∷ []) y → w ≡ y
      one (zero, inside, is) = is
      one (suc k, inside, is) = absurd (omega (arith, inside))

      go : Contains (w ∷ []) y ⊎ Contains (drop q items) y → (w ≡ y) ⊎ Contains (drop q items) y
      go (inl first) = inl (one first)
      go (inr rest) = inr rest

  pub inserted-pairs : AllPairs R (insert items q w)
  inserted-pairs =
      (exactly-append R (Contains (take q items)) (Contains (w ∷ drop q items)) (λ x. Contains (take q items) x ⊎ Contains (w ∷ drop q items) x) (take q items) (w ∷ drop q items)
      (record { members = λ x. (λ at. at, λ at. at); ascending = take-pairs })
      (record {
        members = λ x. (λ at. at, λ at. at);
        ascending = AllPairs-cons R w (drop q items) (λ k d inside. rest-after (get_or (drop q items) k d) (k, inside, at_itself k d inside)) (drop-pairs R q items pairs);
      })
      (λ x y x_in y_in. across x y x_in (cons-cases y y_in)) (λ x. (λ either. either, λ either. either))).ascending
    where
      at_itself : (k : ℕ) (d : X) → k < length (drop q items) → get_or (drop q items) k (get_or (drop q items) k d) ≡ get_or (drop q items) k d
      at_itself k d inside = get_or_default (drop q items) k (get_or (drop q items) k d) d inside

      across : (x y : X) → Contains (take q items) x → (w ≡ y) ⊎ Contains (drop q items) y → R x y
      across x y x_in (inl same) = subst (R x) same (front-before x x_in)
      across x y x_in (inr y_in) = follows x w y (front-before x x_in) (rest-after y y_in)

-- an ambiguity that was put where it belongs
mirrored : (o : Ordering) → is_gt (ordering_reverse o) ≡ is_lt o
mirrored Less = refl
mirrored Equal = refl
mirrored Greater = refl

module _ (compare : Compare) (total : IsTotalOrder compare) where
  by_total : IsTotalOrder (waiting_cmp compare)
  by_total = waiting_cmp-total compare total

  turned : (v w : Waiting) → is_gt (waiting_cmp compare v w) ≡ is_lt (waiting_cmp compare w v)
  turned v w = ap is_gt (by_total.antisymm v w) ∙ mirrored (waiting_cmp compare w v)

  pub up_to-follows : (u v w : Waiting) → IsUpTo compare u v → IsUpTo compare v w → IsUpTo compare u w
  up_to-follows u v w one other = sym (turned u w) ∙ upto by_total u v w (turned u v ∙ one) (turned v w ∙ other)

  up_to-less : (v w : Waiting) → waiting_cmp compare v w ≡ Less → IsUpTo compare v w
  up_to-less v w less = ap is_lt (by_total.antisymm w v ∙ ap ordering_reverse less)

  not_both : (v w : Waiting) → waiting_cmp compare w v ≡ Less → IsUpTo compare v w → ⊥
  not_both v w less up_to = unlike (ap is_lt (sym less) ∙ up_to)
    where
      unlike : true ≡ false → ⊥
      unlike k = cc

  module _ (letters from : ℕ) (w : Waiting) (mid new : List (List Waiting)) (at : ℕ × ℕ) (put : IsPut compare from w mid new at) (nonempty : All (λ (b : List Waiting). 0 < length b) mid) where
    abbrev blocks : List (List Waiting)
    blocks = drop from mid

    abbrev i : ℕ
    i = at.0 - from

    abbrev p : ℕ
    p = at.1

    number : i < length blocks
    number = omega (arith, put.number, put.reached, length-drop from mid)

    there : from + i ≡ at.0
    there = omega (arith, put.reached)

    same : (j : ℕ) → get_or blocks j [] ≡ get_or mid (from + j) []
    same j = get_or-drop from mid j []

    here : get_or blocks i [] ≡ get_or mid at.0 []
    here = same i ∙ ap (λ n. get_or mid n []) there

    place : p ≤ length (get_or blocks i [])
    place = omega (arith, put.place, ap length here)

    rest : drop from new ≡ put_at (i, p) w blocks
    rest =
        ap (drop from) put.is
        ∙ ap (λ n. drop from (set mid n (insert (get_or mid at.0 []) p w))) (sym there)
        ∙ drop-set-add from mid i (insert (get_or mid at.0 []) p w)
        ∙ ap (λ (b : List Waiting). set blocks i (insert b p w)) (sym here)

    abbrev old : List Waiting
    old = joined blocks

    abbrev q : ℕ
    q = length (joined (take i blocks)) + p

    inserted : joined (drop from new) ≡ insert old q w
    inserted = ap joined rest ∙ joined-put blocks i number p w place

    size : length old ≡ length (joined (take i blocks)) + (length (get_or blocks i []) + length (joined (drop (i + 1) blocks)))
    size =
        ap length (joined-parts blocks i number) ∙ length-append (joined (take i blocks)) (get_or blocks i [] ++ joined (drop (i + 1) blocks))
        ∙ ap (λ n. length (joined (take i blocks)) + n) (length-append (get_or blocks i []) (joined (drop (i + 1) blocks)))

    within : q ≤ length old
    within = omega (arith, size, place)

    filled : (j : ℕ) → j < length blocks → 0 < length (get_or blocks j [])
    filled j inside = All-drop (λ (b : List Waiting). 0 < length b) from mid nonempty j [] inside

    before : (d : Waiting) → 0 < q → IsUpTo compare (get_or old (q - 1) d) w
    before d some = go (cases_lt 0 p)
      where
        go : (0 < p) ⊎ (p ≤ 0) → IsUpTo compare (get_or old (q - 1) d) w
        go (inl later) =
            let index : q - 1 ≡ length (joined (take i blocks)) + (p - 1) = omega (arith, later) in
            let item : get_or old (q - 1) d ≡ get_or (get_or mid at.0 []) (p - 1) d =
            ap (λ n. get_or old n d) index ∙ get_or-flat_map (λ (b : List Waiting). b) blocks i (p - 1) [] d number (omega (arith, later, place)) ∙ ap (λ (b : List Waiting). get_or b (p - 1) d) here in
            subst (λ (x : Waiting). IsUpTo compare x w) (sym item) (put.before d later)
        go (inr first) = other (cases_lt 0 i)
          where
            other : (0 < i) ⊎ (i ≤ 0) → IsUpTo compare (get_or old (q - 1) d) w
            other (inr none) =
                let zero_i : i ≡ 0 = omega (arith, none) in
                absurd (omega (arith, some, first, ap (λ n. length (joined (take n blocks))) zero_i))
            other (inl some_i) =
                let j : ℕ = i - 1 in
                let next : j + 1 ≡ i = omega (arith, some_i) in
                let inside : j < length blocks = omega (arith, number) in
                let full : 0 < length (get_or blocks j []) = filled j inside in
                let count : length (joined (take i blocks)) ≡ length (joined (take j blocks)) + length (get_or blocks j []) =
                ap (λ n. length (joined (take n blocks))) (sym next) ∙ ap (λ xs. length (joined xs)) (take_more blocks j [] inside)
                ∙ ap length (flat_map-append (λ (b : List Waiting). b) (take j blocks) (get_or blocks j [] ∷ [])) ∙ length-append (joined (take j blocks)) (get_or blocks j [] ++ [])
                ∙ ap (λ n. length (joined (take j blocks)) + n) (length-append (get_or blocks j []) [] ∙ omega arith) in
                let index : q - 1 ≡ length (joined (take j blocks)) + (length (get_or blocks j []) - 1) = omega (arith, first, count, full) in
                let which : get_or blocks j [] ≡ get_or mid (at.0 - 1) [] = same j ∙ (let n : from + j ≡ at.0 - 1 = omega (arith, there, some_i) in ap (λ k. get_or mid k []) n) in
                let item : get_or old (q - 1) d ≡ last_of (get_or mid (at.0 - 1) []) d =
                ap (λ n. get_or old n d) index ∙ get_or-flat_map (λ (b : List Waiting). b) blocks j (length (get_or blocks j []) - 1) [] d inside (omega (arith, full)) ∙ ap (λ (b : List Waiting). last_of b d) which in
                subst (λ (x : Waiting). IsUpTo compare x w) (sym item) (put.block_before d (omega (arith, there, some_i)))

    above : (d : Waiting) → q < length old → IsUpTo compare w (get_or old q d)
    above d low = go (cases_lt p (length (get_or blocks i [])))
      where
        go : (p < length (get_or blocks i [])) ⊎ (length (get_or blocks i []) ≤ p) → IsUpTo compare w (get_or old q d)
        go (inl inside) =
            let item : get_or old q d ≡ get_or (get_or mid at.0 []) p d = get_or-flat_map (λ (b : List Waiting). b) blocks i p [] d number inside ∙ ap (λ (b : List Waiting). get_or b p d) here in
            subst (λ (x : Waiting). IsUpTo compare w x) (sym item) (up_to-less w (get_or (get_or mid at.0 []) p d) (put.above d (omega (arith, inside, ap length here))))
        go (inr past) = other (cases_lt (at.0 + 1) (length mid))
          where
            end : p ≡ length (get_or mid at.0 [])
            end = omega (arith, past, place, ap length here)

            other : (at.0 + 1 < length mid) ⊎ (length mid ≤ at.0 + 1) → IsUpTo compare w (get_or old q d)
            other (inl more) =
                let some : 0 < p = omega (arith, past, filled i number) in
                absurd (not_both (last_of (get_or mid at.0 []) d) w (put.block_above d more) (subst (λ n. IsUpTo compare (get_or (get_or mid at.0 []) (n - 1) d) w) end (put.before d some)))
            other (inr last) =
                let none : drop (i + 1) blocks ≡ [] = drop_all (i + 1) blocks (omega (arith, last, put.reached, length-drop from mid)) in
                absurd (omega (arith, low, size, past, ap (λ xs. length (joined xs)) none))

    module _ (items : List Waiting) (first : List (List Waiting)) (done : IsFilled letters compare from items first mid) (over : IsOver letters w.word) where
      pub filled-more : IsFilled letters compare from (items ++ w ∷ []) first new
      filled-more = record {
        front = ap (take from) put.is ∙ take-set-le from mid at.0 (insert (get_or mid at.0 []) p w) put.reached ∙ done.front;
        count = ap length put.is ∙ length-set mid at.0 (insert (get_or mid at.0 []) p w) ∙ done.count;
        moved =
            subst (IsPermutation (joined (drop from first) ++ (items ++ w ∷ []))) (sym inserted)
            (subst (λ xs. IsPermutation xs (insert old q w)) (append_assoc (joined (drop from first)) items (w ∷ []))
            (IsPermutation-trans ((joined (drop from first) ++ items) ++ w ∷ []) (old ++ w ∷ []) (insert old q w)
            (IsPermutation-append_left (w ∷ []) (joined (drop from first) ++ items) old done.moved)
            (IsPermutation-trans (old ++ w ∷ []) (w ∷ old) (insert old q w) (IsPermutation-to_front old w) (IsPermutation-insert old q w))));
        sorted = λ pairs. subst (AllPairs (IsUpTo compare)) (sym inserted) (inserted-pairs (IsUpTo compare) up_to-follows old (done.sorted pairs) q w within before above);
        nonempty =
            subst (All (λ (b : List Waiting). 0 < length b)) (sym put.is)
            (All-set (λ (b : List Waiting). 0 < length b) mid at.0 (insert (get_or mid at.0 []) p w) (omega (arith, length-append (take p (get_or mid at.0 [])) (w ∷ drop p (get_or mid at.0 [])))) done.nonempty);
        over =
            subst (All (All (λ (v : Waiting). IsOver letters v.word))) (sym put.is)
            (All-set (All (λ (v : Waiting). IsOver letters v.word)) mid at.0 (insert (get_or mid at.0 []) p w)
            (All-append (λ (v : Waiting). IsOver letters v.word) (take p (get_or mid at.0 [])) (w ∷ drop p (get_or mid at.0 [])) (All-take (λ (v : Waiting). IsOver letters v.word) p (get_or mid at.0 []) old_over)
            (All-cons (λ (v : Waiting). IsOver letters v.word) w (drop p (get_or mid at.0 [])) over (All-drop (λ (v : Waiting). IsOver letters v.word) p (get_or mid at.0 []) old_over)))
            done.over);
      }
        where
          old_over : All (λ (v : Waiting). IsOver letters v.word) (get_or mid at.0 [])
          old_over = done.over at.0 [] put.number

-- two blocks of one
module _ (blocks : List (List Waiting)) (i p : ℕ) (number : i < length blocks) where
  abbrev cut_blocks : List (List Waiting)
  cut_blocks = take i blocks ++ take p (get_or blocks i []) ∷ drop p (get_or blocks i []) ∷ drop (suc i) blocks

  pub joined-split : joined cut_blocks ≡ joined blocks
  joined-split =
      let one = take p (get_or blocks i []) in
      let other = drop p (get_or blocks i []) in
      let next : suc i ≡ i + 1 = omega arith in
      flat_map-append (λ (b : List Waiting). b) (take i blocks) (one ∷ other ∷ drop (suc i) blocks)
      ∙ ap (λ xs. joined (take i blocks) ++ xs) (sym (append_assoc one other (joined (drop (suc i) blocks))) ∙ ap₂ (λ (b c : List Waiting). b ++ c) (take-append-drop p (get_or blocks i [])) (ap (λ n. joined (drop n blocks)) next))
      ∙ sym (joined-parts blocks i number)

  pub nonempty-split : 0 < p → p < length (get_or blocks i []) → All (λ (b : List Waiting). 0 < length b) blocks → All (λ (b : List Waiting). 0 < length b) cut_blocks
  nonempty-split some less all =
      All-append (λ (b : List Waiting). 0 < length b) (take i blocks) (take p (get_or blocks i []) ∷ drop p (get_or blocks i []) ∷ drop (suc i) blocks) (All-take (λ (b : List Waiting). 0 < length b) i blocks all)
      (All-cons (λ (b : List Waiting). 0 < length b) (take p (get_or blocks i [])) (drop p (get_or blocks i []) ∷ drop (suc i) blocks) (omega (arith, length-take p (get_or blocks i []), some, less))
      (All-cons (λ (b : List Waiting). 0 < length b) (drop p (get_or blocks i [])) (drop (suc i) blocks) (omega (arith, length-drop p (get_or blocks i []), less))
      (All-drop (λ (b : List Waiting). 0 < length b) (suc i) blocks all)))

  -- the blocks up to the first half
  pub front-split : joined (take (i + 1) cut_blocks) ≡ joined (take i blocks) ++ take p (get_or blocks i [])
  front-split =
      let one = take p (get_or blocks i []) in
      let rest = drop p (get_or blocks i []) ∷ drop (suc i) blocks in
      let count : length (take i blocks ++ one ∷ []) ≡ i + 1 = length-append (take i blocks) (one ∷ []) ∙ ap (λ n. n + 1) (length-take-le i blocks (omega (arith, number))) in
      ap (λ xs. joined (take (i + 1) xs)) (sym (append_assoc (take i blocks) (one ∷ []) rest)) ∙ ap joined (take_at (take i blocks ++ one ∷ []) rest (i + 1) count)
      ∙ flat_map-append (λ (b : List Waiting). b) (take i blocks) (one ∷ []) ∙ ap (λ xs. joined (take i blocks) ++ xs) (append-nil one)

-- a number of blocks that are as long as a front of the list are this front
pub front-taken : (blocks : List (List Waiting)) (i : ℕ) (tail : List Waiting) (count : ℕ) → length (joined (take i blocks)) + length tail ≡ count
    → (rest : List Waiting) → joined blocks ≡ (joined (take i blocks) ++ tail) ++ rest → joined (take i blocks) ++ tail ≡ take count (joined blocks)
front-taken blocks i tail count size rest parts =
    sym (ap (take count) parts ∙ take_at (joined (take i blocks) ++ tail) rest count (length-append (joined (take i blocks)) tail ∙ size))

pub joined-cut : (blocks : List (List Waiting)) (i : ℕ) → joined blocks ≡ joined (take i blocks) ++ joined (drop i blocks)
joined-cut blocks i = ap joined (sym (take-append-drop i blocks)) ∙ flat_map-append (λ (b : List Waiting). b) (take i blocks) (drop i blocks)

-- where some of the list are left, there is a further block
pub further-block : (blocks : List (List Waiting)) (number rest count : ℕ) → number ≤ length blocks → length (joined (take number blocks)) + rest ≡ count
    → count ≤ length (joined blocks) → rest ≢ 0 → number < length blocks
further-block blocks number rest count within passed most some = go (cases_lt number (length blocks))
  where
    go : (number < length blocks) ⊎ (length blocks ≤ number) → number < length blocks
    go (inl less) = less
    go (inr past) =
        let none : rest ≡ 0 = omega (arith, passed, most, ap (λ xs. length (joined xs)) (take_all number blocks past)) in
        absurd (some none)

-- where none are left, the blocks are the front of the list
pub whole-front : (blocks : List (List Waiting)) (number count : ℕ) → length (joined (take number blocks)) ≡ count → joined (take number blocks) ≡ take count (joined blocks)
whole-front blocks number count size =
    sym (ap (take count) (joined-cut blocks number) ∙ take_at (joined (take number blocks)) (joined (drop number blocks)) count size)

-- where some are left, they are in the first half of the next block
pub split-front : (blocks : List (List Waiting)) (number rest count : ℕ) (inside : number < length blocks) → rest ≤ length (get_or blocks number [])
    → length (joined (take number blocks)) + rest ≡ count → joined (take (number + 1) (cut_blocks blocks number rest inside)) ≡ take count (joined blocks)
split-front blocks number rest count inside less passed =
    let block = get_or blocks number [] in
    let front = joined (take number blocks) in
    let behind = joined (drop (number + 1) blocks) in
    let parts : joined blocks ≡ (front ++ take rest block) ++ (drop rest block ++ behind) =
    joined-parts blocks number inside ∙ ap (λ (b : List Waiting). front ++ (b ++ behind)) (sym (take-append-drop rest block)) ∙ ap (λ xs. front ++ xs) (append_assoc (take rest block) (drop rest block) behind)
    ∙ sym (append_assoc front (take rest block) (drop rest block ++ behind)) in
    front-split blocks number rest inside
    ∙ front-taken blocks number (take rest block) count (ap (λ n. length front + n) (length-take-le rest block less) ∙ passed) (drop rest block ++ behind) parts

pub split-long : (blocks : List (List Waiting)) (i p : ℕ) (inside : i < length blocks) → i ≤ length (cut_blocks blocks i p inside)
split-long blocks i p inside =
    omega (arith, length-append (take i blocks) (take p (get_or blocks i []) ∷ drop p (get_or blocks i []) ∷ drop (suc i) blocks), length-take-le i blocks (omega (arith, inside)))

-- the blocks after the first ones
pub all-blocks : (P : Waiting → Type 0) (blocks : List (List Waiting)) → All P (joined blocks) → All (All P) blocks
all-blocks P blocks all k d inside j e within =
    let place : ℕ = length (joined (take k blocks)) + j in
    let item : get_or (joined blocks) place e ≡ get_or (get_or blocks k d) j e = get_or-flat_map (λ (b : List Waiting). b) blocks k j d e inside within in
    let same : length (get_or blocks k []) ≡ length (get_or blocks k d) = ap length (get_or_default blocks k [] d inside) in
    let size : length (joined blocks) ≡ length (joined (take k blocks)) + (length (get_or blocks k []) + length (joined (drop (k + 1) blocks))) =
    ap length (joined-parts blocks k inside) ∙ length-append (joined (take k blocks)) (get_or blocks k [] ++ joined (drop (k + 1) blocks))
    ∙ ap (λ n. length (joined (take k blocks)) + n) (length-append (get_or blocks k []) (joined (drop (k + 1) blocks))) in
    subst P item (all place e (omega (arith, size, same, within)))

-- the blocks after those that are the front of the list are the rest of it
pub rest-behind : (blocks : List (List Waiting)) (front taken : ℕ) → taken ≤ length (joined blocks) → joined (take front blocks) ≡ take taken (joined blocks) → joined (drop front blocks) ≡ drop taken (joined blocks)
rest-behind blocks front taken enough is =
    let count : length (joined (take front blocks)) ≡ taken = ap length is ∙ length-take-le taken (joined blocks) enough in
    sym (ap (drop taken) (joined-cut blocks front) ∙ drop_at (joined (take front blocks)) (joined (drop front blocks)) taken count)

-- a block after all of them
pub pushed-behind : (blocks : List (List Waiting)) (from : ℕ) (items : List Waiting) → from ≤ length blocks → length blocks ≤ from → joined (drop from (blocks ++ items ∷ [])) ≡ items
pushed-behind blocks from items low high =
    let count : length blocks ≡ from = omega (arith, low, high) in
    ap joined (drop_at blocks (items ∷ []) from count) ∙ append-nil items

pub nothing-behind : (blocks : List (List Waiting)) (from : ℕ) → length blocks ≤ from → joined (drop from blocks) ≡ []
nothing-behind blocks from high = ap joined (drop_all from blocks high)

-- where the place is in the list, its block is there
pub found-block : (blocks : List (List Waiting)) (number rest place : ℕ) → number ≤ length blocks → length (joined (take number blocks)) + rest ≡ place → place < length (joined blocks) → number < length blocks
found-block blocks number rest place within passed inside = go (cases_lt number (length blocks))
  where
    go : (number < length blocks) ⊎ (length blocks ≤ number) → number < length blocks
    go (inl less) = less
    go (inr past) = absurd (omega (arith, passed, inside, ap (λ xs. length (joined xs)) (take_all number blocks past)))

pub found-item : (blocks : List (List Waiting)) (number rest at : ℕ) (d : Waiting) → number < length blocks → rest < length (get_or blocks number []) → length (joined (take number blocks)) + rest ≡ at
    → get_or (joined blocks) at d ≡ get_or (get_or blocks number []) rest d
found-item blocks number rest at d inside within passed =
    ap (λ n. get_or (joined blocks) n d) (sym passed) ∙ get_or-flat_map (λ (b : List Waiting). b) blocks number rest [] d inside within
