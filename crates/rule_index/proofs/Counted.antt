-- How many words are prefixes of the first entries.
use Rattle.rule_index.proofs.Prelude.{◌≡◌, ℕ, zero, suc, ◌+◌, ◌<◌, ◌≤◌, ◌≢◌, Bool, true, false, cond, List, [], ◌∷◌, ◌++◌, length, get_or, take, Option, Some, None, refl, sym, ap, ◌∙◌, subst, arith, All, option_map, length_push, length-take-le, get_or-take, take-append-le, take_all, nat_tests, has, word_at, ends_with, first_of, IsMarked, IsWithin, earlier, IsCounted}
use Rattle.rule_index.proofs.Fronts.{take-take, front-short}
use Rattle.rule_index.proofs.Pushing.{Same, is_same, is_other, same_or, push-old, push-new}

earlier-suc : (n x : ℕ) → earlier (suc n) (Some (suc x)) ≡ option_map suc (earlier n (Some x))
earlier-suc n x = grind (arith, nat_tests)

-- the first of the first entries
first-take : (p : List ℕ → Bool) (n : ℕ) (es : List (List ℕ × ℕ)) → earlier n (first_of p es) ≡ first_of p (take n es)
first-take p zero [] = refl
first-take p (suc n) [] = refl
first-take p zero (f ∷ es) = none (cond (p f.0) (Some 0) (option_map suc (first_of p es)))
  where
    none : (r : Option ℕ) → earlier zero r ≡ None
    none None = refl
    none (Some x) = grind (arith, nat_tests)
first-take p (suc n) (f ∷ es) = go (p f.0) (first_of p es) (first_of p (take n es)) (first-take p n es)
  where
    go : (b : Bool) (r s : Option ℕ) → earlier n r ≡ s → earlier (suc n) (cond b (Some 0) (option_map suc r)) ≡ cond b (Some 0) (option_map suc s)
    go true r s same = grind (arith, nat_tests)
    go false None s same = ap (option_map suc) same
    go false (Some x) s same = earlier-suc n x ∙ ap (option_map suc) same

module _ (entries : List (List ℕ × ℕ)) (words : List (List ℕ)) (sizes : List ℕ) (h : IsCounted entries words sizes) where
  pub size-within : (i : ℕ) → i ≤ length entries → get_or sizes i 0 ≤ length words
  size-within i at_most = omega (arith, h.rising i (length entries) at_most (omega arith), h.last)

  -- all words are prefixes of entries
  pub counted-within : IsWithin entries words
  counted-within =
      subst (λ es. IsWithin es words) (take_all (length entries) entries (omega arith))
      (subst (λ ws. IsWithin (take (length entries) entries) ws) (take_all (get_or sizes (length entries) 0) words (omega (arith, h.last)))
      (h.within (length entries) (omega arith)))

  -- one entry more
  module _ (e : List ℕ × ℕ) (new : List (List ℕ)) (front : take (length words) new ≡ words)
      (within : IsWithin (entries ++ e ∷ []) new) (listed : All (λ f. has new f.0 ≡ true) (entries ++ e ∷ [])) where
    abbrev entries' : List (List ℕ × ℕ)
    entries' = entries ++ e ∷ []

    abbrev sizes' : List ℕ
    sizes' = sizes ++ length new ∷ []

    size-old : (i : ℕ) → i ≤ length entries → get_or sizes' i 0 ≡ get_or sizes i 0
    size-old i at_most = push-old sizes (length new) 0 i (λ same. omega (arith, h.sized))

    size-new : (i : ℕ) → i ≡ length entries + 1 → get_or sizes' i 0 ≡ length new
    size-new i same = push-new sizes (length new) 0 i (same ∙ sym h.sized)

    words-old : (i : ℕ) → i ≤ length entries → take (get_or sizes' i 0) new ≡ take (get_or sizes i 0) words
    words-old i at_most =
        ap (λ n. take n new) (size-old i at_most)
        ∙ sym (take-take (get_or sizes i 0) (length words) new (size-within i at_most))
        ∙ ap (take (get_or sizes i 0)) front

    words-new : (i : ℕ) → i ≡ length entries + 1 → take (get_or sizes' i 0) new ≡ new
    words-new i same = take_all (get_or sizes' i 0) new (omega (arith, size-new i same))

    entries-old : (i : ℕ) → i ≤ length entries → take i entries' ≡ take i entries
    entries-old i at_most = take-append-le i entries (e ∷ []) at_most

    entries-new : (i : ℕ) → i ≡ length entries + 1 → take i entries' ≡ entries'
    entries-new i same = take_all i entries' (omega (arith, length_push entries e))

    below : (i : ℕ) → i ≤ length entries' → i ≢ length entries + 1 → i ≤ length entries
    below i at_most apart = omega (arith, length_push entries e)

    more : length words ≤ length new
    more = front-short words new front

    rising : (i j : ℕ) → i ≤ j → j ≤ length entries' → Same j (length entries + 1) → Same i (length entries + 1) → get_or sizes' i 0 ≤ get_or sizes' j 0
    rising i j up at_most (is_same a) (is_same b) = omega (arith, size-new i b, size-new j a)
    rising i j up at_most (is_same a) (is_other o) =
        let low = below i (omega arith) o in
        omega (arith, size-old i low, size-within i low, size-new j a, more)
    rising i j up at_most (is_other o) (is_same b) = absurd (omega (arith, below j at_most o))
    rising i j up at_most (is_other o) (is_other p) =
        let low = below j at_most o in
        omega (arith, size-old i (omega (arith, low)), size-old j low, h.rising i j up low)

    some : (i : ℕ) → i ≤ length entries' → Same i (length entries + 1) → 0 < get_or sizes' i 0
    some i at_most (is_same a) = omega (arith, size-new i a, more, size-within 0 (omega arith), h.some 0 (omega arith))
    some i at_most (is_other o) = let low = below i at_most o in omega (arith, size-old i low, h.some i low)

    within_all : (i : ℕ) → i ≤ length entries' → Same i (length entries + 1) → IsWithin (take i entries') (take (get_or sizes' i 0) new)
    within_all i at_most (is_same a) = subst (λ es. IsWithin es (take (get_or sizes' i 0) new)) (sym (entries-new i a)) (subst (λ ws. IsWithin entries' ws) (sym (words-new i a)) within)
    within_all i at_most (is_other o) =
        let low = below i at_most o in
        subst (λ es. IsWithin es (take (get_or sizes' i 0) new)) (sym (entries-old i low)) (subst (λ ws. IsWithin (take i entries) ws) (sym (words-old i low)) (h.within i low))

    listed_all : (i : ℕ) → i ≤ length entries' → Same i (length entries + 1) → All (λ f. has (take (get_or sizes' i 0) new) f.0 ≡ true) (take i entries')
    listed_all i at_most (is_same a) =
        subst (λ es. All (λ f. has (take (get_or sizes' i 0) new) f.0 ≡ true) es) (sym (entries-new i a))
        (subst (λ ws. All (λ f. has ws f.0 ≡ true) entries') (sym (words-new i a)) listed)
    listed_all i at_most (is_other o) =
        let low = below i at_most o in
        subst (λ es. All (λ f. has (take (get_or sizes' i 0) new) f.0 ≡ true) es) (sym (entries-old i low))
        (subst (λ ws. All (λ f. has ws f.0 ≡ true) (take i entries)) (sym (words-old i low)) (h.listed i low))

    pub counted-push : IsCounted (entries ++ e ∷ []) new (sizes ++ length new ∷ [])
    counted-push = record {
      sized = omega (arith, length_push sizes (length new), h.sized, length_push entries e);
      some = λ i at_most. some i at_most (same_or i (length entries + 1));
      rising = λ i j up at_most. rising i j up at_most (same_or j (length entries + 1)) (same_or i (length entries + 1));
      last = size-new (length entries') (length_push entries e);
      within = λ i at_most. within_all i at_most (same_or i (length entries + 1));
      listed = λ i at_most. listed_all i at_most (same_or i (length entries + 1));
    }

  -- the first entries
  module _ (count : ℕ) (few : count ≤ length entries) where
    abbrev size : ℕ
    size = get_or sizes count 0

    count-entries : length (take count entries) ≡ count
    count-entries = length-take-le count entries few

    entries-cut : (i : ℕ) → i ≤ count → take i (take count entries) ≡ take i entries
    entries-cut i at_most = take-take i count entries at_most

    size-cut : (i : ℕ) → i ≤ count → get_or (take (count + 1) sizes) i 0 ≡ get_or sizes i 0
    size-cut i at_most = get_or-take (count + 1) sizes i 0 (omega arith)

    words-cut : (i : ℕ) → i ≤ count → take (get_or (take (count + 1) sizes) i 0) (take size words) ≡ take (get_or sizes i 0) words
    words-cut i at_most = ap (λ n. take n (take size words)) (size-cut i at_most) ∙ take-take (get_or sizes i 0) size words (h.rising i count at_most few)

    low : (i : ℕ) → i ≤ length (take count entries) → i ≤ count
    low i at_most = omega (arith, count-entries)

    pub counted-cut : IsCounted (take count entries) (take (get_or sizes count 0) words) (take (count + 1) sizes)
    counted-cut = record {
      sized = omega (arith, length-take-le (count + 1) sizes (omega (arith, h.sized)), count-entries);
      some = λ i at_most. omega (arith, size-cut i (low i at_most), h.some i (omega (arith, low i at_most)));
      rising = λ i j up at_most. omega (arith, size-cut i (omega (arith, low j at_most)), size-cut j (low j at_most), h.rising i j up (omega (arith, low j at_most)));
      last = ap (λ n. get_or (take (count + 1) sizes) n 0) count-entries ∙ size-cut count (omega arith) ∙ sym (length-take-le size words (size-within count few));
      within = λ i at_most.
          subst (λ es. IsWithin es (take (get_or (take (count + 1) sizes) i 0) (take size words))) (sym (entries-cut i (low i at_most)))
          (subst (λ ws. IsWithin (take i entries) ws) (sym (words-cut i (low i at_most))) (h.within i (omega (arith, low i at_most))));
      listed = λ i at_most.
          subst (λ es. All (λ f. has (take (get_or (take (count + 1) sizes) i 0) (take size words)) f.0 ≡ true) es) (sym (entries-cut i (low i at_most)))
          (subst (λ ws. All (λ f. has ws f.0 ≡ true) (take i entries)) (sym (words-cut i (low i at_most))) (h.listed i (omega (arith, low i at_most))));
    }

    pub marked-cut : (leasts least : List (Option ℕ)) → IsMarked entries words leasts → length least ≡ get_or sizes count 0
        → ((k : ℕ) → k < get_or sizes count 0 → get_or least k None ≡ earlier count (get_or leasts k None))
        → IsMarked (take count entries) (take (get_or sizes count 0) words) least
    marked-cut leasts least m sized moved =
        let words_count : length (take size words) ≡ size = length-take-le size words (size-within count few) in
        record {
          sized = sized ∙ sym words_count;
          least_is = λ k inside.
              let inside' : k < size = omega (arith, words_count) in
              moved k inside'
              ∙ ap (earlier count) (m.least_is k (omega (arith, size-within count few)))
              ∙ first-take (ends_with (word_at words k)) count entries
              ∙ ap (λ w. first_of (ends_with w) (take count entries)) (sym (get_or-take size words k [] inside'));
          listed = h.listed count few;
        }
